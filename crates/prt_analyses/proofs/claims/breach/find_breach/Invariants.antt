use Rattle.std.proofs.Common.{ℕ, ◌<◌, None, get_or}
use Rattle.prt_rule.specs.declared.packet.Packet.{Packet}
use Rattle.prt_analyses.specs.Claims.{IsBreachOf}
use Rattle.prt_analyses.proofs.claims.breach.find_breach.Given as goal

abbrev pub invariant-loop-class : goal.invariant-loop-class
invariant-loop-class l = (k : ℕ) → k < l.class-index → (d : Packet) → IsBreachOf l.version l.claim (get_or l.class-items k d) None
