-- The lines of a rule to be added and of one to be deleted ask for that.
use Rattle.std.proofs.Common.{◌≡◌, ℕ, Bool, true, false, not, [], ◌∷◌, Option, Some, None, Result, Ok, IfSome, is_some, refl, ap, ◌∙◌, arith, nat_le}
use Rattle.std.specs.Prelude.{codes, ◌&&◌, ◌||◌, if◌then◌else◌, unwrap_or}
use Rattle.prt_addr.specs.Block.{Block}
use Rattle.prt_addr.specs.Prefix.{everything}
use Rattle.prt_addr.specs.Sound.{IsPrefix}
use Rattle.prt_refusals.specs.declared.refusal.Refusal.{Refusal}
use Rattle.prt_refusals.specs.declared.refusal.Refusal.TheVariants.{SuppressNotAllowed, TooBroad}
use Rattle.prt_rule.specs.Storable.{is_length, is_storable_rule}
use Rattle.prt_rule.specs.declared.choice.RuleChoice.{RuleChoice}
use Rattle.prt_rule.specs.declared.rule.Action as rule
use Rattle.prt_rule.specs.declared.rule.Action.TheVariants as actions
use Rattle.prt_command.specs.Items.{no_items}
use Rattle.prt_command.specs.LineKinds.{rule_edit_line}
use Rattle.prt_command.specs.Requests.{is_lookup, refuse_if, rule_add_request, rule_del_request, rule_of}
use Rattle.prt_command.specs.Then.{◌>>=◌}
use Rattle.prt_command.specs.declared.item.Items.{Items}
use Rattle.prt_command.specs.declared.request.Command.TheVariants as commands
use Rattle.prt_command.specs.declared.request.NewRule.{NewRule}
use Rattle.prt_command.specs.declared.request.Request.{Request}
use Rattle.prt_command.specs.declared.request.Request.TheVariants as requests
use Rattle.prt_listing.specs.Parts.{is_everything, spaced}
use Rattle.prt_spelling.specs.Fits.{NewRuleFits, RuleChoiceFits}
use Rattle.prt_spelling.specs.Parts.{given_of, rule_choice_parts}
use Rattle.prt_spelling.specs.Plain.{is_plain_name}
use Rattle.prt_spelling.specs.Spelled.{gives_some, is_spelled_action, is_spelled_rule, is_spelled_rule_choice}
use Rattle.prt_spelling.proofs.Reading.{IsReadAs, read_by_parts}
use Rattle.prt_spelling.proofs.Texts.{Reads, reads_none}
use Rattle.prt_spelling.proofs.RouteItems.{everything_is}
use Rattle.prt_spelling.proofs.RuleItems.{action_reads, from_reads, iif_reads, mark_reads, not_reads, priority_reads, suppress_reads, to_reads, with_action, with_from, with_iif, with_inverted, with_mark, with_priority, with_to}
use Rattle.prt_spelling.proofs.Words.{both_true}

-- ---- all parts

-- what the line says
abbrev choice_items : RuleChoice → Items
choice_items choice = record no_items {
  priority = choice.priority;
  inverted = choice.inverted;
  from = choice.from;
  to = choice.to;
  fwmark = choice.mark;
  iif = choice.iif;
  action = choice.action;
  suppress = choice.suppress;
}

-- What each line of a rule has to express.
record IsSpelledChoice (choice : RuleChoice) : Type 0 where
  action : is_spelled_action choice.action ≡ true
  suppress : is_length choice.suppress ≡ true
  name : is_plain_name choice.iif ≡ true

choice_reads : (choice : RuleChoice) → RuleChoiceFits choice → IsSpelledChoice choice → Reads rule_edit_line 274 no_items (choice_items choice) (rule_choice_parts choice)
choice_reads choice fits spelled =
    let last : Items = choice_items choice in
    let g1 : Items = with_priority no_items choice.priority in
    let g2 : Items = with_inverted g1 choice.inverted in
    let g3 : Items = with_from g2 choice.from in
    let g4 : Items = with_to g3 choice.to in
    let g5 : Items = with_mark g4 choice.mark in
    let g6 : Items = with_iif g5 choice.iif in
    let g7 : Items = with_action g6 choice.action in
    (priority_reads choice.priority no_items refl fits.priority).more 254 last _
    ((not_reads choice.inverted g1 refl).more 250 last _
    ((from_reads choice.from g2 refl fits.from).more 226 last _
    ((to_reads choice.to g3 refl fits.to).more 204 last _
    ((mark_reads choice.mark g4 refl fits.mark).more 63 last _
    ((iif_reads choice.iif g5 refl spelled.name).more 43 last _
    ((action_reads choice.action g6 refl spelled.action fits.action).more 25 last _
    ((suppress_reads choice.suppress g7 refl spelled.suppress).more 0 last []
    (reads_none rule_edit_line last))))))))

-- ---- a rule to be deleted

-- something is given, as it is looked for in the items
some_given : (a b c d e f g h : Bool) → a || b || c || d || e || f || g || h ≡ true → not (a || (b || (c || (d || (e || (f || (g || (h || false)))))))) ≡ false
some_given true b c d e f g h some = refl
some_given false true c d e f g h some = refl
some_given false false true d e f g h some = refl
some_given false false false true e f g h some = refl
some_given false false false false true f g h some = refl
some_given false false false false false true g h some = refl
some_given false false false false false false true h some = refl
some_given false false false false false false false true some = refl
some_given false false false false false false false false some = absurd cc

-- the line of a rule to be deleted
pub choice_read : (choice : RuleChoice) → RuleChoiceFits choice → is_spelled_rule_choice choice ≡ true → IsReadAs (spaced (Some (codes "rule del") ∷ rule_choice_parts choice)) (commands.RuleDel choice)
choice_read choice fits spelled =
    let third = both_true (gives_some choice && is_spelled_action choice.action && is_length choice.suppress) (is_plain_name choice.iif) spelled in
    let second = both_true (gives_some choice && is_spelled_action choice.action) (is_length choice.suppress) third.0 in
    let first = both_true (gives_some choice) (is_spelled_action choice.action) second.0 in
    read_by_parts (codes "rule del") (codes "rule") (codes "del") rule_edit_line rule_del_request 8 274 (choice_items choice) (rule_choice_parts choice) (commands.RuleDel choice)
    (record { words = refl; plain = refl; short = omega arith }) (λ ws. refl)
    (choice_reads choice fits (record { action = first.1; suppress = second.1; name = third.1 })) (omega arith)
    (ap (λ b. refuse_if b TooBroad >>= λ _. Ok (requests.Command (commands.RuleDel choice)))
    (some_given (is_some choice.iif) choice.inverted (is_some choice.from) (is_some choice.to) (is_some choice.mark) (is_some choice.priority) (is_some choice.action) (is_some choice.suppress) first.0))

-- ---- a rule to be added

given_block : (p : Block) (b : Bool) → IsPrefix p → IfSome (if b then None else Some p) IsPrefix
given_block p true is = tt
given_block p false is = is

given_fits : (rule : NewRule) → NewRuleFits rule → RuleChoiceFits (given_of rule)
given_fits rule fits = record { priority = fits.priority; from = fits.from; to = given_block rule.to (is_everything rule.to) fits.to; mark = fits.mark; action = fits.action }

given_spelled : (action : rule.Action) (suppress : Option ℕ) → is_storable_rule action suppress ≡ true → (is_spelled_action (Some action) ≡ true) × (is_length suppress ≡ true)
given_spelled (actions.Lookup table) suppress ok = both_true (nat_le 1 table) (is_length suppress) ok
given_spelled actions.Blackhole None ok = (refl, refl)
given_spelled actions.Unreachable None ok = (refl, refl)
given_spelled actions.Prohibit None ok = (refl, refl)
given_spelled action (Some len) ok = absurd cc

apart : (action : rule.Action) (suppress : Option ℕ) → is_storable_rule action suppress ≡ true → is_some suppress && not (is_lookup action) ≡ false
apart (actions.Lookup table) None ok = refl
apart (actions.Lookup table) (Some len) ok = refl
apart action None ok = refl
apart action (Some len) ok = absurd cc

abbrev to_in : NewRule → Block → NewRule
to_in rule to = record rule { to = to }

to_back : (p : Block) (b : Bool) → is_everything p ≡ b → unwrap_or (if b then None else Some p) everything ≡ p
to_back p true all = everything_is p all
to_back p false all = refl

abbrev add_of : NewRule → Result Request Refusal
add_of rule = Ok (requests.Command (commands.RuleAdd rule))

asks_for : (rule : NewRule) → is_storable_rule rule.action rule.suppress ≡ true → rule_add_request (choice_items (given_of rule)) ≡ add_of rule
asks_for rule ok =
    ap (λ b. refuse_if b SuppressNotAllowed >>= λ _. add_of (rule_of (choice_items (given_of rule)))) (apart rule.action rule.suppress ok)
    ∙ ap (λ to. add_of (to_in rule to)) (to_back rule.to (is_everything rule.to) refl)

-- the line of a rule to be added
pub rule_read : (rule : NewRule) → NewRuleFits rule → is_spelled_rule rule ≡ true → IsReadAs (spaced (Some (codes "rule add") ∷ rule_choice_parts (given_of rule))) (commands.RuleAdd rule)
rule_read rule fits spelled =
    let facts = both_true (is_storable_rule rule.action rule.suppress) (is_plain_name rule.iif) spelled in
    let each = given_spelled rule.action rule.suppress facts.0 in
    read_by_parts (codes "rule add") (codes "rule") (codes "add") rule_edit_line rule_add_request 8 274 (choice_items (given_of rule)) (rule_choice_parts (given_of rule)) (commands.RuleAdd rule)
    (record { words = refl; plain = refl; short = omega arith }) (λ ws. refl)
    (choice_reads (given_of rule) (given_fits rule fits) (record { action = each.0; suppress = each.1; name = facts.1 })) (omega arith)
    (asks_for rule facts.0)
