-- A holder may go to another thread, as an owner in it may.
use Rattle.std.specs.Prelude.{Option, None, Some}
use mir.Raw.{raw}
use base.Shift.{Keyless}
use denote.Memory.{lone}
use denote.RawPtr.{Ptr}
use denote.Struct.Struct.{exits_of}
use denote.Struct.Owning.{shape, fields, to}
use denote.Param.Send.{IsSend, AllSend, owning_send, recorded_send, struct_send, sendable}
use denote.Struct.Declared as declared
use Rattle.std.proofs.Crossing as heap
use Rattle.std.specs.Global.{Global}
use Rattle.std_alloc.proofs.SendSync.{quiet, lies}
use Rattle.std_heap.proofs.Global.TheSendSync as handle
use Rattle.std_alloc.proofs.arc.Arc.TheSendSync as arc
use Rattle.std_heap.proofs.GlobalAllocator.TheSendSync as frees
use Rattle.std_heap.specs.contracts.Global as Heap
use Rattle.std_heap.specs.contracts.GlobalAllocator.TheImpl.{ghosts}
use Rattle.prt_fib.proofs.Crossing.{policy_send, policy_sync}
use Rattle.prt_fib.specs.contracts.policy.PolicyFib as PolicyFib
use Rattle.prt_c.specs.PolicyOwned.{policy_owns}
use Rattle.prt_c.specs.contracts.policy_owner.PolicyOwner as Owner
use Rattle.prt_c.specs.contracts.policy_held.PolicyHeld.{the_row, the_type}

owner : IsSend Owner.the_row
owner = recorded_send (Owner.the_field).row _ _ (Owner.the_type).to_one (struct_send (declared.shape Owner.the_type)
    (arc.the_send PolicyFib.the_row Heap.the_row ghosts policy_send handle.the_send policy_sync handle.the_sync frees.the_frees, tt))

crosses : (alloc : Global) (at : Ptr) (home : Option Owner.the_row.Denot) → Keyless (policy_owns alloc at home)
crosses alloc at None = tt
crosses alloc at (Some x) = (lies Owner.the_row owner at x, heap.frees.frees alloc (raw (lone Owner.the_row.mir)) at)

pub send : IsSend the_row
send =
    let all : AllSend (fields the_type) = (search sendable, (handle.the_field_send, tt)) in
    owning_send the_type all (λ d. crosses d.alloc d.ptr d.home)
    (λ k. quiet (to the_type) (exits_of k (fields the_type)) ((struct_send (shape the_type) all).leaving k))
