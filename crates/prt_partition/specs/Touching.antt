-- Which packets a difference of two versions can send another way, and what becomes of them.
use Rattle.std.specs.Prelude.{ℕ, ◌≡◌, Bool, false, ◌||◌, if◌then◌else◌, List, Option, Some, None}
use Rattle.std.specs.List.{list_any}
use Rattle.prt_addr.specs.Prefix.{contains}
use Rattle.prt_route.specs.declared.route.Route.{Route}
use Rattle.prt_rule.specs.Rule.{matches}
use Rattle.prt_rule.specs.declared.packet.Packet.{Packet}
use Rattle.prt_rule.specs.declared.rule.Rule.{Rule}
use Rattle.prt_version.specs.Select.{select}
use Rattle.prt_version.specs.State.{State}
use Rattle.prt_partition.specs.Classes.{takes_apart}
use Rattle.prt_partition.specs.Cuts.{to}
use Rattle.prt_partition.specs.Differing.{IsUntouched}
use Rattle.prt_partition.specs.Sameness.{are_same}
use Rattle.prt_partition.specs.declared.sameness.Sameness.{Sameness}
use Rattle.prt_partition.specs.declared.touching.Touching.{Touching}
use Rattle.prt_partition.specs.declared.comparison.Transition.{Transition}

-- the rule matches the packet if it is given some destination
abbrev pub can_match : Packet → Rule → Bool
can_match packet rule = rule.inverted || takes_apart rule packet

abbrev pub is_touched : Touching → Packet → Bool
is_touched touching packet =
    touching.all
    || list_any (λ (rule : Rule). matches rule packet) touching.rules.items
    || list_any (λ (route : Route). contains route.prefix packet.dst) touching.routes.items

-- what isn't touched none of the rules matches, and none of the routes has its destination
abbrev pub IsTouching : List Rule → List Route → Packet → Touching → Type 0
IsTouching rules routes packet touching = (addr : ℕ) → is_touched touching (to packet addr) ≡ false → IsUntouched rules routes (to packet addr)

-- the verdicts before and after, unless they are the same
abbrev pub transition_of : Sameness → State → State → Packet → Option Transition
transition_of sameness before after packet =
    if are_same sameness (select before packet) (select after packet) then None else
    Some (record { was = select before packet; is = select after packet })

-- what isn't touched goes the same way
abbrev pub IsQuiet : State → State → Touching → Packet → Type 0
IsQuiet before after touching packet = (addr : ℕ) → is_touched touching (to packet addr) ≡ false →
    select before (to packet addr) ≡ select after (to packet addr)
