-- What becomes of a plan, rule by rule.
use Rattle.std.proofs.Common.{◌≡◌, ◌⊎◌, inl, inr, ◌+◌, ◌<◌, ◌≤◌, Bool, true, false, not, ◌&&◌, ◌||◌, List, [], ◌∷◌, ◌++◌, length, refl, sym, ap, ◌∙◌, subst, arith}
use Rattle.std.specs.Prelude.{if◌then◌else◌}
use Rattle.std.specs.List.{AllByRecursion as Each}
use Rattle.std.proofs.lemmas.List.{length-append}
use Rattle.prt_addr.proofs.Each.{filtered_fit}
use Rattle.prt_addr.proofs.Orders.{length_inserted}
use Rattle.prt_route.specs.declared.route.Route.{Route}
use Rattle.prt_rule.specs.Same.{is_same_rule}
use Rattle.prt_rule.specs.declared.rule.Rule.{Rule}
use Rattle.prt_version.specs.Change.{has_rule}
use Rattle.prt_version.specs.State.{State}
use Rattle.prt_version.specs.declared.limits.TheConstants.{MOST_COMMANDS, MOST_RULES}
use Rattle.prt_diff.specs.Plan.{Plan, added, bring_all, brought, clear_all, cleared, deleted, deleted_early, left, moved, remove_all, removed}
use Rattle.prt_diff.specs.Rules.{add_rule, delete_rule, has_lower_priority, is_first_taken, without_rule}
use Rattle.prt_diff.proofs.HasRule.{has_with, has_without, same_itself}
use Rattle.prt_diff.proofs.Members.{differ}
use Rattle.prt_diff.proofs.Reached.{Reached, adds, deletes}

-- ---- cases

pub brought_cases : (Q : Plan → Type 0) (rule : Rule) (plan : Plan) → (has_rule rule plan.rules ≡ true → is_first_taken rule plan.rules ≡ true → Q (moved rule plan)) → (has_rule rule plan.rules ≡ true → is_first_taken rule plan.rules ≡ false → Q (left rule plan)) → (has_rule rule plan.rules ≡ false → Q (added rule plan)) → Q (brought rule plan)
brought_cases Q rule plan moves stays comes = by (has_rule rule plan.rules) (is_first_taken rule plan.rules) refl refl
  where
    by : (b c : Bool) → has_rule rule plan.rules ≡ b → is_first_taken rule plan.rules ≡ c → Q (if b then (if c then moved rule plan else left rule plan) else added rule plan)
    by true true has first = moves has first
    by true false has first = stays has first
    by false c has first = comes has

pub removed_cases : (Q : Plan → Type 0) (rule : Rule) (plan : Plan) → (is_first_taken rule plan.rules ≡ true → Q (deleted rule plan)) → (is_first_taken rule plan.rules ≡ false → Q (left rule plan)) → Q (removed rule plan)
removed_cases Q rule plan goes stays = by (is_first_taken rule plan.rules) refl
  where
    by : (c : Bool) → is_first_taken rule plan.rules ≡ c → Q (if c then deleted rule plan else left rule plan)
    by true first = goes first
    by false first = stays first

pub cleared_cases : (Q : Plan → Type 0) (rule : Rule) (plan : Plan) → (is_first_taken rule plan.rules ≡ true → Q (deleted_early rule plan)) → Q plan → Q (cleared rule plan)
cleared_cases Q rule plan goes stays = by (is_first_taken rule plan.rules) refl
  where
    by : (c : Bool) → is_first_taken rule plan.rules ≡ c → Q (if c then deleted_early rule plan else plan)
    by true first = goes first
    by false first = stays

-- ---- the commands grow

longer : {X : Type 0} (xs ys : List X) → length xs ≤ length (xs ++ ys)
longer xs ys = omega (arith, length-append xs ys)

brought_grows : (rule : Rule) (plan : Plan) → length plan.commands ≤ length (brought rule plan).commands
brought_grows rule plan =
    brought_cases (λ q. length plan.commands ≤ length q.commands) rule plan
    (λ has first. omega (arith, longer plan.commands (delete_rule rule ∷ []), longer (plan.commands ++ delete_rule rule ∷ []) (add_rule rule ∷ [])))
    (λ has first. omega arith)
    (λ has. longer plan.commands (add_rule rule ∷ []))

pub bring_grows : (rules : List Rule) (plan : Plan) → length plan.commands ≤ length (bring_all rules plan).commands
bring_grows [] plan = omega arith
bring_grows (rule ∷ rules) plan = omega (arith, brought_grows rule plan, bring_grows rules (brought rule plan))

removed_grows : (rule : Rule) (plan : Plan) → length plan.commands ≤ length (removed rule plan).commands
removed_grows rule plan =
    removed_cases (λ q. length plan.commands ≤ length q.commands) rule plan
    (λ first. longer plan.commands (delete_rule rule ∷ []))
    (λ first. omega arith)

pub remove_grows : (rules : List Rule) (plan : Plan) → length plan.commands ≤ length (remove_all rules plan).commands
remove_grows [] plan = omega arith
remove_grows (rule ∷ rules) plan = omega (arith, removed_grows rule plan, remove_grows rules (removed rule plan))

cleared_grows : (rule : Rule) (plan : Plan) → length plan.commands ≤ length (cleared rule plan).commands
cleared_grows rule plan = cleared_cases (λ q. length plan.commands ≤ length q.commands) rule plan (λ first. longer plan.commands (delete_rule rule ∷ [])) (omega arith)

pub clear_grows : (rules : List Rule) (plan : Plan) → length plan.commands ≤ length (clear_all rules plan).commands
clear_grows [] plan = omega arith
clear_grows (rule ∷ rules) plan = omega (arith, cleared_grows rule plan, clear_grows rules (cleared rule plan))

-- ---- the rules that go first grow no more

fewer_without : (rule : Rule) (rules : List Rule) → length (without_rule rule rules) ≤ length rules
fewer_without rule rules = filtered_fit (λ other. not (is_same_rule other rule)) rules (length rules) (omega arith)

cleared_fits : (rule : Rule) (plan : Plan) → length (cleared rule plan).rules ≤ length plan.rules
cleared_fits rule plan = cleared_cases (λ q. length q.rules ≤ length plan.rules) rule plan (λ first. fewer_without rule plan.rules) (omega arith)

pub clear_fits : (rules : List Rule) (plan : Plan) → length (clear_all rules plan).rules ≤ length plan.rules
clear_fits [] plan = omega arith
clear_fits (rule ∷ rules) plan = omega (arith, cleared_fits rule plan, clear_fits rules (cleared rule plan))

-- ---- what is reported stays reported

or_later : (a b : Bool) → a ≡ true → (a || b) ≡ true
or_later true b is = refl
or_later false b is = differ (sym is)

or_last : (a b : Bool) → b ≡ true → (a || b) ≡ true
or_last true b is = refl
or_last false b is = is

or_chain : (a b c : Bool) → (a || (b || c)) ≡ (a || b || c)
or_chain true b c = refl
or_chain false b c = refl

pub has_append : (x : Rule) (xs ys : List Rule) → has_rule x (xs ++ ys) ≡ (has_rule x xs || has_rule x ys)
has_append x [] ys = refl
has_append x (y ∷ xs) ys = ap (λ b. is_same_rule y x || b) (has_append x xs ys) ∙ or_chain (is_same_rule y x) (has_rule x xs) (has_rule x ys)

pub has_more : (x : Rule) (xs ys : List Rule) → has_rule x xs ≡ true → has_rule x (xs ++ ys) ≡ true
has_more x xs ys has = has_append x xs ys ∙ or_later (has_rule x xs) (has_rule x ys) has

pub has_last : (x : Rule) (xs : List Rule) → has_rule x (xs ++ x ∷ []) ≡ true
has_last x xs = has_append x xs (x ∷ []) ∙ or_last (has_rule x xs) (has_rule x (x ∷ [])) (ap (λ b. b || false) (same_itself x))

pub bring_tells : (x : Rule) (rules : List Rule) (plan : Plan) → has_rule x plan.moved ≡ true → has_rule x (bring_all rules plan).moved ≡ true
bring_tells x [] plan has = has
bring_tells x (rule ∷ rules) plan has =
    bring_tells x rules (brought rule plan)
    (brought_cases (λ q. has_rule x q.moved ≡ true) rule plan (λ there first. has_more x plan.moved (rule ∷ []) has) (λ there first. has) (λ absent. has))

pub remove_moves_none : (rules : List Rule) (plan : Plan) → (remove_all rules plan).moved ≡ plan.moved
remove_moves_none [] plan = refl
remove_moves_none (rule ∷ rules) plan = remove_moves_none rules (removed rule plan) ∙ removed_cases (λ q. q.moved ≡ plan.moved) rule plan (λ first. refl) (λ first. refl)

pub bring_left : (x : Rule) (rules : List Rule) (plan : Plan) → has_rule x plan.left ≡ true → has_rule x (bring_all rules plan).left ≡ true
bring_left x [] plan has = has
bring_left x (rule ∷ rules) plan has =
    bring_left x rules (brought rule plan)
    (brought_cases (λ q. has_rule x q.left ≡ true) rule plan (λ there first. has) (λ there first. has_more x plan.left (rule ∷ []) has) (λ absent. has))

pub remove_left : (x : Rule) (rules : List Rule) (plan : Plan) → has_rule x plan.left ≡ true → has_rule x (remove_all rules plan).left ≡ true
remove_left x [] plan has = has
remove_left x (rule ∷ rules) plan has =
    remove_left x rules (removed rule plan)
    (removed_cases (λ q. has_rule x q.left ≡ true) rule plan (λ first. has) (λ first. has_more x plan.left (rule ∷ []) has))

-- ---- which rules there are

put_anew : (a b : Bool) → b ≡ true → (a || (not a && b)) ≡ true
put_anew true b is = refl
put_anew false b is = is

brought_keeps : (x rule : Rule) (plan : Plan) → has_rule x plan.rules ≡ true → has_rule x (brought rule plan).rules ≡ true
brought_keeps x rule plan has =
    brought_cases (λ q. has_rule x q.rules ≡ true) rule plan
    (λ there first. has_with rule x (without_rule rule plan.rules) ∙ ap (λ b. is_same_rule rule x || b) (has_without rule x plan.rules) ∙ put_anew (is_same_rule rule x) (has_rule x plan.rules) has)
    (λ there first. has)
    (λ absent. has_with rule x plan.rules ∙ or_last (is_same_rule rule x) (has_rule x plan.rules) has)

pub bring_keeps : (x : Rule) (rules : List Rule) (plan : Plan) → has_rule x plan.rules ≡ true → has_rule x (bring_all rules plan).rules ≡ true
bring_keeps x [] plan has = has
bring_keeps x (rule ∷ rules) plan has = bring_keeps x rules (brought rule plan) (brought_keeps x rule plan has)

brought_has : (rule : Rule) (plan : Plan) → has_rule rule (brought rule plan).rules ≡ true
brought_has rule plan =
    brought_cases (λ q. has_rule rule q.rules ≡ true) rule plan
    (λ there first. has_with rule rule (without_rule rule plan.rules) ∙ or_later (is_same_rule rule rule) (has_rule rule (without_rule rule plan.rules)) (same_itself rule))
    (λ there first. there)
    (λ absent. has_with rule rule plan.rules ∙ or_later (is_same_rule rule rule) (has_rule rule plan.rules) (same_itself rule))

pub bring_has : (rules : List Rule) (plan : Plan) → Each (λ rule. has_rule rule (bring_all rules plan).rules ≡ true) rules
bring_has [] plan = tt
bring_has (rule ∷ rules) plan = (bring_keeps rule rules (brought rule plan) (brought_has rule plan), bring_has rules (brought rule plan))

either_of : (a b : Bool) → (a || b) ≡ true → (a ≡ true) ⊎ (b ≡ true)
either_of true b is = inl refl
either_of false b is = inr is

last_of : (a b : Bool) → (not a && b) ≡ true → b ≡ true
last_of true b is = differ (sym is)
last_of false b is = is

brought_from : (x rule : Rule) (plan : Plan) → has_rule x (brought rule plan).rules ≡ true → (is_same_rule rule x ≡ true) ⊎ (has_rule x plan.rules ≡ true)
brought_from x rule plan =
    brought_cases (λ q. has_rule x q.rules ≡ true → (is_same_rule rule x ≡ true) ⊎ (has_rule x plan.rules ≡ true)) rule plan
    (λ there first has. elim (either_of (is_same_rule rule x) (has_rule x (without_rule rule plan.rules)) (sym (has_with rule x (without_rule rule plan.rules)) ∙ has)) [
      | inl same ↦ inl same
      | inr old ↦ inr (last_of (is_same_rule rule x) (has_rule x plan.rules) (sym (has_without rule x plan.rules) ∙ old))
    ])
    (λ there first has. inr has)
    (λ absent has. either_of (is_same_rule rule x) (has_rule x plan.rules) (sym (has_with rule x plan.rules) ∙ has))

-- a rule that is there after all was there, or was brought
pub bring_from : (x : Rule) (rules : List Rule) (plan : Plan) → has_rule x (bring_all rules plan).rules ≡ true → (has_rule x rules ≡ true) ⊎ (has_rule x plan.rules ≡ true)
bring_from x [] plan has = inr has
bring_from x (rule ∷ rules) plan has =
    elim (bring_from x rules (brought rule plan) has) [
      | inl later ↦ inl (or_last (is_same_rule rule x) (has_rule x rules) later)
      | inr now ↦ elim (brought_from x rule plan now) [
        | inl same ↦ inl (or_later (is_same_rule rule x) (has_rule x rules) same)
        | inr old ↦ inr old
      ]
    ]

both_hold : (a b : Bool) → a ≡ false → b ≡ true → (not a && b) ≡ true
both_hold a b first second = cc

none_holds : (a b : Bool) → b ≡ false → (not a && b) ≡ false
none_holds true b is = refl
none_holds false b is = is

pub remove_keeps : (x : Rule) (rules : List Rule) (plan : Plan) → Each (λ rule. is_same_rule rule x ≡ false) rules → has_rule x plan.rules ≡ true → has_rule x (remove_all rules plan).rules ≡ true
remove_keeps x [] plan apart has = has
remove_keeps x (rule ∷ rules) plan apart has =
    remove_keeps x rules (removed rule plan) apart.1
    (removed_cases (λ q. has_rule x q.rules ≡ true) rule plan (λ first. has_without rule x plan.rules ∙ both_hold (is_same_rule rule x) (has_rule x plan.rules) apart.0 has) (λ first. has))

pub remove_gone : (x : Rule) (rules : List Rule) (plan : Plan) → has_rule x plan.rules ≡ false → has_rule x (remove_all rules plan).rules ≡ false
remove_gone x [] plan absent = absent
remove_gone x (rule ∷ rules) plan absent =
    remove_gone x rules (removed rule plan)
    (removed_cases (λ q. has_rule x q.rules ≡ false) rule plan (λ first. has_without rule x plan.rules ∙ none_holds (is_same_rule rule x) (has_rule x plan.rules) absent) (λ first. absent))

pub clear_keeps : (x : Rule) (rules : List Rule) (plan : Plan) → Each (λ rule. is_same_rule rule x ≡ false) rules → has_rule x plan.rules ≡ true → has_rule x (clear_all rules plan).rules ≡ true
clear_keeps x [] plan apart has = has
clear_keeps x (rule ∷ rules) plan apart has =
    clear_keeps x rules (cleared rule plan) apart.1
    (cleared_cases (λ q. has_rule x q.rules ≡ true) rule plan (λ first. has_without rule x plan.rules ∙ both_hold (is_same_rule rule x) (has_rule x plan.rules) apart.0 has) has)

clear_gone : (x : Rule) (rules : List Rule) (plan : Plan) → has_rule x plan.rules ≡ false → has_rule x (clear_all rules plan).rules ≡ false
clear_gone x [] plan absent = absent
clear_gone x (rule ∷ rules) plan absent =
    clear_gone x rules (cleared rule plan)
    (cleared_cases (λ q. has_rule x q.rules ≡ false) rule plan (λ first. has_without rule x plan.rules ∙ none_holds (is_same_rule rule x) (has_rule x plan.rules) absent) absent)

pub gone_itself : (rule : Rule) (rules : List Rule) → has_rule rule (without_rule rule rules) ≡ false
gone_itself rule rules = has_without rule rule rules ∙ ap (λ b. not b && has_rule rule rules) (same_itself rule)

-- each is gone or reported
pub remove_tells : (rules : List Rule) (plan : Plan) → Each (λ rule. (has_rule rule (remove_all rules plan).rules ≡ false) ⊎ (has_rule rule (remove_all rules plan).left ≡ true)) rules
remove_tells [] plan = tt
remove_tells (rule ∷ rules) plan = (
  removed_cases (λ q. (has_rule rule (remove_all rules q).rules ≡ false) ⊎ (has_rule rule (remove_all rules q).left ≡ true)) rule plan
      (λ first. inl (remove_gone rule rules (deleted rule plan) (gone_itself rule plan.rules)))
      (λ first. inr (remove_left rule rules (left rule plan) (has_last rule plan.left))),
  remove_tells rules (removed rule plan),
)

-- ---- and so each command is accepted

still_reached : (found end : State) (told : List Rule) (plan other : Plan) (routes : List Route) → plan.commands ≡ other.commands → plan.rules ≡ other.rules → Reached found end told plan routes → Reached found end told other routes
still_reached found end told plan other routes commands rules r =
    subst (λ some. Reached found end told (record other { rules = some }) routes) rules
    (subst (λ some. Reached found end told (record other { commands = some; rules = plan.rules }) routes) commands
    (record { state = r.state; leads = r.leads; rules_are = r.rules_are; routes_are = r.routes_are; rules_between = r.rules_between; routes_between = r.routes_between }))

module _ (found end : State) (told : List Rule) (routes : List Route) where
  brings_one : (rule : Rule) (plan : Plan) → Reached found end told plan routes → has_rule rule end.rules ≡ true → ((x : Rule) → has_rule x (brought rule plan).moved ≡ true → has_rule x told ≡ true) → length plan.rules < MOST_RULES → found.count + length (brought rule plan).commands ≤ MOST_COMMANDS → Reached found end told (brought rule plan) routes
  brings_one rule plan r comes =
      brought_cases (λ q. ((x : Rule) → has_rule x q.moved ≡ true → has_rule x told ≡ true) → length plan.rules < MOST_RULES → found.count + length q.commands ≤ MOST_COMMANDS → Reached found end told q routes) rule plan
      (λ has first tells room counts.
      let l = length-append plan.commands (delete_rule rule ∷ []) in
      let k = length-append (plan.commands ++ delete_rule rule ∷ []) (add_rule rule ∷ []) in
      let fits : length (without_rule rule plan.rules) ≤ length plan.rules = filtered_fit (λ other. not (is_same_rule other rule)) plan.rules (length plan.rules) (omega arith) in
      still_reached found end told (added rule (deleted rule plan)) (moved rule plan) routes refl refl
      (adds found end told rule (deleted rule plan) routes
      (deletes found end told rule plan routes r first (inr (tells rule (has_last rule plan.moved))) (omega (arith, l, k, counts)))
      (gone_itself rule plan.rules) comes (omega (arith, fits, room)) (omega (arith, l, k, counts))))
      (λ has first tells room counts. still_reached found end told plan (left rule plan) routes refl refl r)
      (λ absent tells room counts. let l = length-append plan.commands (add_rule rule ∷ []) in adds found end told rule plan routes r absent comes room (omega (arith, l, counts)))

  brought_fits : (rule : Rule) (plan : Plan) → length (brought rule plan).rules ≤ length plan.rules + 1
  brought_fits rule plan =
      brought_cases (λ q. length q.rules ≤ length plan.rules + 1) rule plan
      (λ has first.
      let fits : length (without_rule rule plan.rules) ≤ length plan.rules = filtered_fit (λ other. not (is_same_rule other rule)) plan.rules (length plan.rules) (omega arith) in
      omega (arith, fits, length_inserted has_lower_priority rule (without_rule rule plan.rules)))
      (λ has first. omega arith)
      (λ absent. omega (arith, length_inserted has_lower_priority rule plan.rules))

  pub brings : (rules : List Rule) (plan : Plan) → Reached found end told plan routes → Each (λ rule. has_rule rule end.rules ≡ true) rules → ((x : Rule) → has_rule x (bring_all rules plan).moved ≡ true → has_rule x told ≡ true) → length plan.rules + length rules ≤ MOST_RULES → found.count + length (bring_all rules plan).commands ≤ MOST_COMMANDS → Reached found end told (bring_all rules plan) routes
  brings [] plan r come tells room counts = r
  brings (rule ∷ rules) plan r come tells room counts =
      let more = bring_grows rules (brought rule plan) in
      let fits = brought_fits rule plan in
      brings rules (brought rule plan)
      (brings_one rule plan r come.0 (λ x has. tells x (bring_tells x rules (brought rule plan) has)) (omega (arith, room)) (omega (arith, more, counts)))
      come.1 tells (omega (arith, fits, room)) counts

  removes_one : (rule : Rule) (plan : Plan) → Reached found end told plan routes → (has_rule rule (removed rule plan).rules ≡ false → has_rule rule end.rules ≡ false) → found.count + length (removed rule plan).commands ≤ MOST_COMMANDS → Reached found end told (removed rule plan) routes
  removes_one rule plan r =
      removed_cases (λ q. (has_rule rule q.rules ≡ false → has_rule rule end.rules ≡ false) → found.count + length q.commands ≤ MOST_COMMANDS → Reached found end told q routes) rule plan
      (λ first gone counts. let l = length-append plan.commands (delete_rule rule ∷ []) in deletes found end told rule plan routes r first (inl (gone (gone_itself rule plan.rules))) (omega (arith, l, counts)))
      (λ first gone counts. still_reached found end told plan (left rule plan) routes refl refl r)

  pub removes_all : (rules : List Rule) (plan : Plan) → Reached found end told plan routes → ((x : Rule) → has_rule x (remove_all rules plan).rules ≡ false → has_rule x end.rules ≡ false) → found.count + length (remove_all rules plan).commands ≤ MOST_COMMANDS → Reached found end told (remove_all rules plan) routes
  removes_all [] plan r gone counts = r
  removes_all (rule ∷ rules) plan r gone counts =
      let more = remove_grows rules (removed rule plan) in
      removes_all rules (removed rule plan)
      (removes_one rule plan r (λ absent. gone rule (remove_gone rule rules (removed rule plan) absent)) (omega (arith, more, counts)))
      gone counts

  clears_one : (rule : Rule) (plan : Plan) → Reached found end told plan routes → (has_rule rule (cleared rule plan).rules ≡ false → has_rule rule end.rules ≡ false) → found.count + length (cleared rule plan).commands ≤ MOST_COMMANDS → Reached found end told (cleared rule plan) routes
  clears_one rule plan r =
      cleared_cases (λ q. (has_rule rule q.rules ≡ false → has_rule rule end.rules ≡ false) → found.count + length q.commands ≤ MOST_COMMANDS → Reached found end told q routes) rule plan
      (λ first gone counts.
      let l = length-append plan.commands (delete_rule rule ∷ []) in
      still_reached found end told (deleted rule plan) (deleted_early rule plan) routes refl refl (deletes found end told rule plan routes r first (inl (gone (gone_itself rule plan.rules))) (omega (arith, l, counts))))
      (λ gone counts. r)

  pub clears : (rules : List Rule) (plan : Plan) → Reached found end told plan routes → Each (λ rule. has_rule rule (clear_all rules plan).rules ≡ false → has_rule rule end.rules ≡ false) rules → found.count + length (clear_all rules plan).commands ≤ MOST_COMMANDS → Reached found end told (clear_all rules plan) routes
  clears [] plan r gone counts = r
  clears (rule ∷ rules) plan r gone counts =
      let more = clear_grows rules (cleared rule plan) in
      clears rules (cleared rule plan)
      (clears_one rule plan r (λ absent. gone.0 (clear_gone rule rules (cleared rule plan) absent)) (omega (arith, more, counts)))
      gone.1 counts
