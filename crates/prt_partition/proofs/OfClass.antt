-- Rules that match no packet of a class decide none of its packets.
use Rattle.std.proofs.Common.{◌≡◌, ℕ, Bool, true, false, cond, List, [], ◌∷◌, Option, Some, None, refl, sym, ap, ◌∙◌}
use Rattle.std.specs.Prelude.{filter}
use Rattle.prt_addr.specs.Rising.{IsRising}
use Rattle.prt_route.specs.declared.route.Route.{Route}
use Rattle.prt_rule.specs.Rule.{is_before}
use Rattle.prt_rule.specs.declared.packet.Packet.{Packet}
use Rattle.prt_rule.specs.declared.rule.Rule.{Rule}
use Rattle.prt_version.specs.Select.{decision, select, verdict_by}
use Rattle.prt_version.specs.State.{State}
use Rattle.prt_version.specs.Steps.{first_verdict}
use Rattle.prt_version.specs.declared.answer.Verdict.{Verdict}
use Rattle.prt_version.proofs.Verdicts.{by, by_decision, first_decides}
use Rattle.prt_partition.specs.Cuts.{to}
use Rattle.prt_partition.specs.Touching.{can_match}
use Rattle.prt_partition.proofs.WhatDiffers.{not_candidate}

decides_none : (rule : Rule) (routes : List Route) (packet : Packet) (addr : ℕ) → can_match packet rule ≡ false → decision rule routes (to packet addr) ≡ None
decides_none rule routes packet addr out = ap (λ b. cond b (verdict_by rule.action rule.suppress rule.priority routes (to packet addr)) None) (not_candidate rule packet addr out)

-- what comes after a rule counts only if the rule doesn't decide
same_after : (rest others : List Rule) (routes : List Route) (packet : Packet) (d : Option Verdict) → first_verdict rest routes packet ≡ first_verdict others routes packet → by_decision rest routes packet d ≡ by_decision others routes packet d
same_after rest others routes packet (Some verdict) same = refl
same_after rest others routes packet None same = same

narrowed_by : (rule : Rule) (rules : List Rule) (routes : List Route) (packet : Packet) (addr : ℕ) (b : Bool) → can_match packet rule ≡ b →
    first_verdict (filter (can_match packet) rules) routes (to packet addr) ≡ first_verdict rules routes (to packet addr) →
    first_verdict (cond b (rule ∷ filter (can_match packet) rules) (filter (can_match packet) rules)) routes (to packet addr) ≡ first_verdict (rule ∷ rules) routes (to packet addr)
narrowed_by rule rules routes packet addr true e same =
    by rule (filter (can_match packet) rules) routes (to packet addr) (decision rule routes (to packet addr)) refl
    ∙ same_after (filter (can_match packet) rules) rules routes (to packet addr) (decision rule routes (to packet addr)) same
    ∙ sym (by rule rules routes (to packet addr) (decision rule routes (to packet addr)) refl)
narrowed_by rule rules routes packet addr false e same =
    same ∙ sym (by rule rules routes (to packet addr) None (decides_none rule routes packet addr e))

narrowed : (rules : List Rule) (routes : List Route) (packet : Packet) (addr : ℕ) → first_verdict (filter (can_match packet) rules) routes (to packet addr) ≡ first_verdict rules routes (to packet addr)
narrowed [] routes packet addr = refl
narrowed (rule ∷ rules) routes packet addr = narrowed_by rule rules routes packet addr (can_match packet rule) refl (narrowed rules routes packet addr)

pub of_class : (state : State) (rules : List Rule) (packet : Packet) (addr : ℕ) → IsRising is_before state.rules → rules ≡ filter (can_match packet) state.rules → first_verdict rules state.routes (to packet addr) ≡ select state (to packet addr)
of_class state rules packet addr rise are =
    ap (λ rs. first_verdict rs state.routes (to packet addr)) are
    ∙ narrowed state.rules state.routes packet addr
    ∙ sym (first_decides state.rules state.routes (to packet addr) rise)
