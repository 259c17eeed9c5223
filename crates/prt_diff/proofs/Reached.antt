-- What a plan has reached, one command at a time.
use Rattle.std.proofs.Common.{◌≡◌, ◌⊎◌, inl, inr, ◌+◌, ◌<◌, ◌≤◌, Bool, true, false, not, ◌&&◌, ◌||◌, List, ◌∷◌, ◌++◌, Some, Ok, Err, length, map, refl, sym, ap, ◌∙◌, subst, arith}
use Rattle.std.specs.Prelude.{filter, ◌==◌, if◌then◌else◌, option_map, ok_or}
use Rattle.std.specs.List.{AllByRecursion as Each, Contains, IsDistinct}
use Rattle.std.proofs.lemmas.Bool.{eq-eqb, ne_eqb}
use Rattle.std.proofs.lemmas.List.{length-map}
use Rattle.prt_refusals.specs.declared.refusal.Refusal.TheVariants.{CountFull, Exists, Full, NoSuch}
use Rattle.prt_addr.proofs.Each.{each_implies}
use Rattle.prt_route.specs.Edit.{has_key}
use Rattle.prt_route.specs.declared.route.Route.{Route}
use Rattle.prt_route.specs.declared.route.RouteKey.{RouteKey}
use Rattle.prt_rule.specs.Same.{is_same_rule}
use Rattle.prt_rule.specs.declared.rule.Rule.{Rule}
use Rattle.prt_rule.proofs.SameRules.{same_both_ways}
use Rattle.prt_version.specs.Change.{check, has_rule, if_room, named_rule, put, unless_count_full}
use Rattle.prt_version.specs.Ordered.{has_same_id}
use Rattle.prt_version.specs.State.{State}
use Rattle.prt_version.specs.declared.change.Change.{Change}
use Rattle.prt_version.specs.declared.change.Change.TheVariants as change
use Rattle.prt_version.specs.declared.limits.TheConstants.{MOST_COMMANDS, MOST_RULES}
use Rattle.prt_diff.specs.Between.{AreSame, IsBetween}
use Rattle.prt_diff.specs.Plan.{Plan, added, deleted}
use Rattle.prt_diff.specs.Rules.{add_rule, delete_rule, is_first_taken, whole_choice, with_rule, without_id, without_rule}
use Rattle.prt_diff.proofs.HasRule.{IsTaken, has_like, has_with, has_without, like_right, numbered, same_first, same_has, same_put, same_without, taken_at}
use Rattle.prt_diff.proofs.Leads.{Leads, has_room, leads_on}
use Rattle.prt_diff.proofs.Members.{IsIn, apart_at, contains_in, differ, false_by, in_contains, without_one}
use Rattle.prt_diff.proofs.Named.{takes_it}

-- ---- between both ends

pub record RulesBetween (found end : State) (moved rules : List Rule) : Type 0 where
  pub of_both : (rule : Rule) → has_rule rule found.rules ≡ true → has_rule rule end.rules ≡ true → has_rule rule moved ≡ false → has_rule rule rules ≡ true
  pub of_one : (rule : Rule) → has_rule rule rules ≡ true → (has_rule rule found.rules ≡ true) ⊎ (has_rule rule end.rules ≡ true)

pub record RoutesBetween (found end : State) (routes : List Route) : Type 0 where
  pub of_both : (key : RouteKey) → has_key key found.routes ≡ true → has_key key end.routes ≡ true → has_key key routes ≡ true
  pub of_one : (route : Route) → IsIn route routes → IsIn route found.routes ⊎ IsIn route end.routes

-- What a plan has reached on the way from one state to the other.
pub record Reached (found end : State) (moved : List Rule) (plan : Plan) (routes : List Route) : Type 0 where
  pub state : State
  pub leads : Leads (IsBetween found end moved) found plan.commands state
  pub rules_are : AreSame state.rules plan.rules
  pub routes_are : state.routes ≡ routes
  pub rules_between : RulesBetween found end moved plan.rules
  pub routes_between : RoutesBetween found end routes

pub is_between : (found end state : State) (moved rules : List Rule) (routes : List Route) → AreSame state.rules rules → state.routes ≡ routes → RulesBetween found end moved rules → RoutesBetween found end routes → IsBetween found end moved state
is_between found end state moved rules routes same routes_are rules_between routes_between = record {
  rules_of_both = λ rule first last still. same_has rule state.rules rules same ∙ rules_between.of_both rule first last still;
  rules_of_one = λ rule has. rules_between.of_one rule (sym (same_has rule state.rules rules same) ∙ has);
  keys_of_both = λ key first last. ap (has_key key) routes_are ∙ routes_between.of_both key first last;
  routes_of_one = λ route has. elim (routes_between.of_one route (contains_in route routes (subst (λ r. Contains r route) routes_are has))) [
    | inl first ↦ inl (in_contains route found.routes first)
    | inr last ↦ inr (in_contains route end.routes last)
  ];
}

-- ---- a rule is added

or_later : (a b : Bool) → b ≡ true → (a || b) ≡ true
or_later true b is = refl
or_later false b is = is

either_of : (a b : Bool) → (a || b) ≡ true → (a ≡ true) ⊎ (b ≡ true)
either_of true b is = inl refl
either_of false b is = inr is

with_between : (found end : State) (moved : List Rule) (rule : Rule) (rules : List Rule) → has_rule rule end.rules ≡ true → RulesBetween found end moved rules → RulesBetween found end moved (with_rule rule rules)
with_between found end moved rule rules comes between = record {
  of_both = λ x first last still. has_with rule x rules ∙ or_later (is_same_rule rule x) (has_rule x rules) (between.of_both x first last still);
  of_one = λ x has. elim (either_of (is_same_rule rule x) (has_rule x rules) (sym (has_with rule x rules) ∙ has)) [
    | inl same ↦ inr (sym (has_like rule x end.rules same) ∙ comes)
    | inr old ↦ between.of_one x old
  ];
}

add_checked : (state : State) (rule : Rule) → has_rule rule state.rules ≡ false → length state.rules < MOST_RULES → state.count < MOST_COMMANDS → check state (add_rule rule) ≡ Ok (change.RulePut (numbered (state.count + 4) rule))
add_checked state rule absent room counts =
    let made : Change = change.RulePut (numbered (state.count + 4) rule) in
    ap (λ b. unless_count_full state.count (if b then Err Exists else if_room (length state.rules) MOST_RULES made)) absent
    ∙ ap (λ b. unless_count_full state.count (if b then Ok made else Err Full)) (has_room (length state.rules) MOST_RULES room)
    ∙ ap (λ b. if b then Ok made else Err CountFull) (has_room state.count MOST_COMMANDS counts)

pub same_length : (rules others : List Rule) → AreSame rules others → length rules ≡ length others
same_length rules others same = sym (length-map rules without_id) ∙ ap length same ∙ length-map others without_id

pub adds : (found end : State) (moved : List Rule) (rule : Rule) (plan : Plan) (routes : List Route) → Reached found end moved plan routes → has_rule rule plan.rules ≡ false → has_rule rule end.rules ≡ true → length plan.rules < MOST_RULES → found.count + length plan.commands < MOST_COMMANDS → Reached found end moved (added rule plan) routes
adds found end moved rule plan routes r absent comes room counts =
    let state : State = r.state in
    let made : Change = change.RulePut (numbered (state.count + 4) rule) in
    let l : length state.rules ≡ length plan.rules = same_length state.rules plan.rules r.rules_are in
    let n = r.leads.count in
    let is : check state (add_rule rule) ≡ Ok made = add_checked state rule (same_has rule state.rules plan.rules r.rules_are ∙ absent) (omega (arith, l, room)) (omega (arith, n, counts)) in
    let lower : Each (λ (other : Rule). other.id < state.count + 4) state.rules = each_implies (λ (other : Rule). other.id ≤ state.count + 3) (λ (other : Rule). other.id < state.count + 4) (λ other below. omega (arith, below)) state.rules r.leads.sound.ids in
    let same : AreSame (put state made).rules (with_rule rule plan.rules) = same_put (state.count + 4) rule state.rules plan.rules lower r.rules_are in
    let between : RulesBetween found end moved (with_rule rule plan.rules) = with_between found end moved rule plan.rules comes r.rules_between in
    record {
      state = put state made;
      leads = leads_on (IsBetween found end moved) found state plan.commands (add_rule rule) made r.leads is (is_between found end (put state made) moved (with_rule rule plan.rules) routes same r.routes_are between r.routes_between);
      rules_are = same;
      routes_are = r.routes_are;
      rules_between = between;
      routes_between = r.routes_between;
    }

-- ---- a rule is deleted

other_by : (a b : Bool) → a ≡ false → b ≡ true → (not a && b) ≡ true
other_by a b first second = cc

second_of : (a b : Bool) → (not a && b) ≡ true → b ≡ true
second_of true b is = differ (sym is)
second_of false b is = is

without_between : (found end : State) (moved : List Rule) (rule : Rule) (rules : List Rule) → ((has_rule rule end.rules ≡ false) ⊎ (has_rule rule moved ≡ true)) → RulesBetween found end moved rules → RulesBetween found end moved (without_rule rule rules)
without_between found end moved rule rules goes between = record {
  of_both = λ x first last still.
      has_without rule x rules
      ∙ other_by (is_same_rule rule x) (has_rule x rules)
      (false_by (is_same_rule rule x) (λ same. elim goes [
        | inl gone ↦ differ (sym last ∙ sym (has_like rule x end.rules same) ∙ gone)
        | inr moves ↦ differ (sym moves ∙ has_like rule x moved same ∙ still)
      ]))
      (between.of_both x first last still);
  of_one = λ x has. between.of_one x (second_of (is_same_rule rule x) (has_rule x rules) (sym (has_without rule x rules) ∙ has));
}

turned_id : (a b : Rule) → has_same_id a b ≡ false → (b.id == a.id) ≡ false
turned_id a b h = ne_eqb b.id a.id (λ same. differ (sym (eq-eqb a.id b.id (sym same)) ∙ h))

-- what is left is the same by the id as by the content
record Drops (rule one : Rule) (rules : List Rule) : Type 0 where
  left : List Rule
  by_id : filter (λ (other : Rule). not (other.id == one.id)) rules ≡ left
  by_content : without_rule rule rules ≡ left

drops : (rule : Rule) (front : List Rule) (one : Rule) (back : List Rule) → IsDistinct has_same_id (front ++ one ∷ back) → IsDistinct is_same_rule (front ++ one ∷ back) → is_same_rule one rule ≡ true → Drops rule one (front ++ one ∷ back)
drops rule front one back ids contents same =
    let by_ids = apart_at has_same_id front one back ids in
    let by_contents = apart_at is_same_rule front one back contents in
    record {
      left = front ++ back;
      by_id = without_one (λ (other : Rule). other.id == one.id) front one back by_ids.before (eq-eqb one.id one.id refl) (each_implies (λ other. has_same_id one other ≡ false) (λ (other : Rule). (other.id == one.id) ≡ false) (λ other. turned_id one other) back by_ids.after);
      by_content = without_one (λ other. is_same_rule other rule) front one back
          (each_implies (λ other. is_same_rule other one ≡ false) (λ other. is_same_rule other rule ≡ false) (λ other differs. sym (like_right one rule other same) ∙ differs) front by_contents.before)
          same
          (each_implies (λ other. is_same_rule one other ≡ false) (λ other. is_same_rule other rule ≡ false) (λ other differs. sym (like_right one rule other same) ∙ same_both_ways other one ∙ differs) back by_contents.after);
    }

delete_checked : (state : State) (rule one : Rule) → named_rule (whole_choice rule) state.rules ≡ Some one → state.count < MOST_COMMANDS → check state (delete_rule rule) ≡ Ok (change.RuleDrop one.id)
delete_checked state rule one named counts =
    ap (λ o. unless_count_full state.count (ok_or (option_map (λ (found : Rule). change.RuleDrop found.id) o) NoSuch)) named
    ∙ ap (λ b. if b then Ok (change.RuleDrop one.id) else Err CountFull) (has_room state.count MOST_COMMANDS counts)

pub deletes : (found end : State) (moved : List Rule) (rule : Rule) (plan : Plan) (routes : List Route) → Reached found end moved plan routes → is_first_taken rule plan.rules ≡ true → ((has_rule rule end.rules ≡ false) ⊎ (has_rule rule moved ≡ true)) → found.count + length plan.commands < MOST_COMMANDS → Reached found end moved (deleted rule plan) routes
deletes found end moved rule plan routes r first goes counts =
    let state : State = r.state in
    let n = r.leads.count in
    let t : IsTaken rule state.rules = taken_at rule state.rules (same_first rule state.rules plan.rules r.rules_are ∙ first) in
    let made : Change = change.RuleDrop t.one.id in
    let is : check state (delete_rule rule) ≡ Ok made = delete_checked state rule t.one (ap (named_rule (whole_choice rule)) t.are ∙ takes_it rule t.front t.one t.back t.none t.same) (omega (arith, n, counts)) in
    let d : Drops rule t.one state.rules = subst (Drops rule t.one) (sym t.are) (drops rule t.front t.one t.back (subst (IsDistinct has_same_id) t.are r.leads.sound.distinct_ids) (subst (IsDistinct is_same_rule) t.are r.leads.sound.distinct_rules) t.same) in
    let same : AreSame (put state made).rules (without_rule rule plan.rules) = ap (map without_id) (d.by_id ∙ sym d.by_content) ∙ same_without rule state.rules plan.rules r.rules_are in
    let between : RulesBetween found end moved (without_rule rule plan.rules) = without_between found end moved rule plan.rules goes r.rules_between in
    record {
      state = put state made;
      leads = leads_on (IsBetween found end moved) found state plan.commands (delete_rule rule) made r.leads is (is_between found end (put state made) moved (without_rule rule plan.rules) routes same r.routes_are between r.routes_between);
      rules_are = same;
      routes_are = r.routes_are;
      rules_between = between;
      routes_between = r.routes_between;
    }
