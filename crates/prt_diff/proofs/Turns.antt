-- One rule more is brought or removed.
use Rattle.std.proofs.Common.{◌≡◌, ℕ, ◌+◌, ◌<◌, List, [], ◌∷◌, ◌++◌, get_or, length, take, refl, sym, ap, ◌∙◌}
use Rattle.std.proofs.lemmas.List.{take_more}
use Rattle.prt_rule.specs.declared.rule.Rule.{Rule}
use Rattle.prt_diff.specs.Plan.{Plan, bring_all, brought, clear_all, cleared, remove_all, removed}

bring_last : (rules : List Rule) (rule : Rule) (plan : Plan) → bring_all (rules ++ rule ∷ []) plan ≡ brought rule (bring_all rules plan)
bring_last [] rule plan = refl
bring_last (first ∷ rules) rule plan = bring_last rules rule (brought first plan)

remove_last : (rules : List Rule) (rule : Rule) (plan : Plan) → remove_all (rules ++ rule ∷ []) plan ≡ removed rule (remove_all rules plan)
remove_last [] rule plan = refl
remove_last (first ∷ rules) rule plan = remove_last rules rule (removed first plan)

clear_last : (rules : List Rule) (rule : Rule) (plan : Plan) → clear_all (rules ++ rule ∷ []) plan ≡ cleared rule (clear_all rules plan)
clear_last [] rule plan = refl
clear_last (first ∷ rules) rule plan = clear_last rules rule (cleared first plan)

one_more : (rules : List Rule) (i : ℕ) (rule : Rule) → i < length rules → rule ≡ get_or rules i rule → take (i + 1) rules ≡ take i rules ++ rule ∷ []
one_more rules i rule inside at = take_more rules i rule inside ∙ ap (λ x. take i rules ++ x ∷ []) (sym at)

pub bring_more : (rules : List Rule) (i : ℕ) (rule : Rule) (plan : Plan) → i < length rules → rule ≡ get_or rules i rule → brought rule (bring_all (take i rules) plan) ≡ bring_all (take (i + 1) rules) plan
bring_more rules i rule plan inside at = sym (ap (λ xs. bring_all xs plan) (one_more rules i rule inside at) ∙ bring_last (take i rules) rule plan)

pub remove_more : (rules : List Rule) (i : ℕ) (rule : Rule) (plan : Plan) → i < length rules → rule ≡ get_or rules i rule → removed rule (remove_all (take i rules) plan) ≡ remove_all (take (i + 1) rules) plan
remove_more rules i rule plan inside at = sym (ap (λ xs. remove_all xs plan) (one_more rules i rule inside at) ∙ remove_last (take i rules) rule plan)

pub clear_more : (rules : List Rule) (i : ℕ) (rule : Rule) (plan : Plan) → i < length rules → rule ≡ get_or rules i rule → cleared rule (clear_all (take i rules) plan) ≡ clear_all (take (i + 1) rules) plan
clear_more rules i rule plan inside at = sym (ap (λ xs. clear_all xs plan) (one_more rules i rule inside at) ∙ clear_last (take i rules) rule plan)
