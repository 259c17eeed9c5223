-- The parts of a box of a policy table's owner own what the box owns.
use mir.Syntax.{impl, tnil, dnil}
use mathlib.Core.List.{[]}
use denote.RattleType.{RattleType}
use denote.Signature.{Slot, plain}
use Rattle.std_alloc.proofs.BoxSteps.Form.{Bx}
use Rattle.std_heap.specs.contracts.Global as Heap
use Rattle.std_heap.specs.contracts.GlobalAllocator.TheImpl.{ghosts, dict}
use Rattle.std_heap.proofs.Global.TheLaws as heap
use Rattle.prt_c.specs.contracts.policy_owner.PolicyOwner as Owner
use Rattle.prt_c.proofs.policy_owner.PolicyOwner.TheLaws as owner
use Rattle.prt_c.specs.contracts.parts.Parts as Parts
use Rattle.prt_c.specs.contracts.policy_held.PolicyHeld as Held

-- a box of an owner of a policy table, in memory of `Global`
abbrev pub E : Bx
E = record { row = Owner.the_row; laws = owner.the_row_laws; al = record { row = Heap.the_row; laws = heap.the_row_laws; g = ghosts; d = dict; drops = impl [] tnil dnil } }

abbrev pub FromParts : Slot 0
FromParts = plain (λ _. Parts.the_row Owner.the_row Heap.the_row ghosts)

abbrev pub FromHeld : Slot 0
FromHeld = plain (λ _. Held.the_row)

abbrev pub FromGlobal : Slot 0
FromGlobal = plain (λ _. Heap.the_row)

-- what is taken out of a holder
abbrev pub Taken : RattleType
Taken = Parts.the_row Owner.the_row Heap.the_row ghosts
