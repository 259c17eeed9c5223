-- The rules that are tried end with the one that decides.
use Rattle.std.proofs.Common.{◌≡◌, Bool, true, false, List, [], ◌∷◌, Option, Some, None, refl, sym, ap, subst, cond}
use Rattle.std.specs.Prelude.{filter, is_some}
use Rattle.std.specs.List.{AllByRecursion as Each}
use Rattle.prt_addr.specs.Order.{first_by}
use Rattle.prt_addr.specs.Rising.{IsRising}
use Rattle.prt_addr.proofs.Each.{each_passing}
use Rattle.prt_addr.proofs.Orders.{first_is_head, not_itself}
use Rattle.prt_route.specs.declared.route.Route.{Route}
use Rattle.prt_rule.specs.Rule.{is_before}
use Rattle.prt_rule.specs.declared.packet.Packet.{Packet}
use Rattle.prt_rule.specs.declared.rule.Rule.{Rule}
use Rattle.prt_version.specs.Select.{decider, decision}
use Rattle.prt_version.proofs.RuleOrder.{rule_order}
use Rattle.prt_explain.specs.Asked.{AreAsked}
use Rattle.prt_explain.specs.Explanation.{asked_rules}

-- one more rule that is tried before these
after-one : (rule : Rule) (asked rules : List Rule) (first : Option Rule) → AreAsked first asked rules → AreAsked first (rule ∷ asked) (rule ∷ rules)
after-one rule asked rules None all = ap (λ others. rule ∷ others) all
after-one rule asked rules (Some last) ends = record {
  before = rule ∷ ends.before;
  after = ends.after;
  asked_are = ap (λ others. rule ∷ others) ends.asked_are;
  rules_are = ap (λ others. rule ∷ others) ends.rules_are;
}

module _ (routes : List Route) (packet : Packet) where
  abbrev decides : Rule → Bool
  decides rule = is_some (decision rule routes packet)

  asked_by : (rule : Rule) (rules : List Rule) (b : Bool) → decides rule ≡ b → Each (λ other. is_before rule other ≡ true) rules → AreAsked (decider rules routes packet) (asked_rules rules routes packet) rules → AreAsked (first_by is_before (cond b (rule ∷ filter decides rules) (filter decides rules))) (rule ∷ cond b [] (asked_rules rules routes packet)) (rule ∷ rules)
  asked_by rule rules true is ahead others =
      let first : first_by is_before (rule ∷ filter decides rules) ≡ Some rule =
      first_is_head is_before rule (filter decides rules) (not_itself is_before rule_order rule)
      (each_passing (λ other. is_before rule other ≡ true) (λ other. is_before other rule ≡ false) decides (λ other before passes. rule_order.one_way rule other before) rules ahead) in
      subst (λ found. AreAsked found (rule ∷ []) (rule ∷ rules)) (sym first) (record { before = []; after = rules; asked_are = refl; rules_are = refl })
  asked_by rule rules false is ahead others = after-one rule (asked_rules rules routes packet) rules (decider rules routes packet) others

  pub asked : (rules : List Rule) → IsRising is_before rules → AreAsked (decider rules routes packet) (asked_rules rules routes packet) rules
  asked [] rises = refl
  asked (rule ∷ rules) rises = asked_by rule rules (decides rule) refl rises.0 (asked rules rises.1)
