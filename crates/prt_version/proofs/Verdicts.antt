-- Rules that are tried one after another.
use Rattle.std.proofs.Common.{◌≡◌, Bool, List, [], ◌∷◌, Option, Some, None, refl, sym, ap, ◌∙◌, true, false, cond}
use Rattle.std.specs.Prelude.{filter, is_some, option_and_then, unwrap_or}
use Rattle.std.specs.List.{AllByRecursion as Each}
use Rattle.prt_addr.specs.Order.{first_by}
use Rattle.prt_addr.specs.Rising.{IsRising}
use Rattle.prt_addr.proofs.Each.{each_passing}
use Rattle.prt_addr.proofs.Orders.{first_is_head, not_itself}
use Rattle.prt_route.specs.declared.route.Route.{Route}
use Rattle.prt_rule.specs.Rule.{is_before}
use Rattle.prt_rule.specs.declared.packet.Packet.{Packet}
use Rattle.prt_rule.specs.declared.rule.Rule.{Rule}
use Rattle.prt_version.specs.Select.{decision, verdict_of}
use Rattle.prt_version.specs.Steps.{first_verdict}
use Rattle.prt_version.specs.declared.answer.Verdict.{Verdict}
use Rattle.prt_version.specs.declared.answer.Verdict.TheVariants.{NoRoute}
use Rattle.prt_version.proofs.RuleOrder.{rule_order}

abbrev pub by_decision : List Rule → List Route → Packet → Option Verdict → Verdict
by_decision rest routes packet (Some verdict) = verdict
by_decision rest routes packet None = first_verdict rest routes packet

pub by : (rule : Rule) (rest : List Rule) (routes : List Route) (packet : Packet) (d : Option Verdict) → decision rule routes packet ≡ d → first_verdict (rule ∷ rest) routes packet ≡ by_decision rest routes packet d
by rule rest routes packet (Some verdict) e = ap (by_decision rest routes packet) e
by rule rest routes packet None e = ap (by_decision rest routes packet) e

abbrev says : List Route → Packet → List Rule → Verdict
says routes packet rules = unwrap_or (option_and_then (λ rule. decision rule routes packet) (first_by is_before rules)) NoRoute

abbrev decides_some : List Route → Packet → Rule → Bool
decides_some routes packet rule = is_some (decision rule routes packet)

-- the first of these, which no other one is before
first_says : (rule : Rule) (others : List Rule) (routes : List Route) (packet : Packet) (verdict : Verdict) → Each (λ other. is_before other rule ≡ false) others → decision rule routes packet ≡ Some verdict → says routes packet (rule ∷ others) ≡ verdict
first_says rule others routes packet verdict after told =
    ap (λ o. unwrap_or (option_and_then (λ rule. decision rule routes packet) o) NoRoute) (first_is_head is_before rule others (not_itself is_before rule_order rule) after)
    ∙ ap (λ o. unwrap_or o NoRoute) told

in_order_by : (rule : Rule) (rest : List Rule) (routes : List Route) (packet : Packet) (d : Option Verdict) → decision rule routes packet ≡ d → Each (λ other. is_before rule other ≡ true) rest → verdict_of rest routes packet ≡ first_verdict rest routes packet → verdict_of (rule ∷ rest) routes packet ≡ by_decision rest routes packet d
in_order_by rule rest routes packet (Some verdict) told after others =
    ap (λ d. says routes packet (cond (is_some d) (rule ∷ filter (decides_some routes packet) rest) (filter (decides_some routes packet) rest))) told
    ∙ first_says rule (filter (decides_some routes packet) rest) routes packet verdict
    (each_passing (λ other. is_before rule other ≡ true) (λ other. is_before other rule ≡ false) (decides_some routes packet) (λ other first decides. rule_order.one_way rule other first) rest after) told
in_order_by rule rest routes packet None told after others =
    ap (λ d. says routes packet (cond (is_some d) (rule ∷ filter (decides_some routes packet) rest) (filter (decides_some routes packet) rest))) told ∙ others

-- in order, the first that decides is the one that no deciding one is before
pub first_decides : (rules : List Rule) (routes : List Route) (packet : Packet) → IsRising is_before rules → verdict_of rules routes packet ≡ first_verdict rules routes packet
first_decides [] routes packet rises = refl
first_decides (rule ∷ rest) routes packet rises =
    in_order_by rule rest routes packet (decision rule routes packet) refl rises.0 (first_decides rest routes packet rises.1)
    ∙ sym (by rule rest routes packet (decision rule routes packet) refl)
