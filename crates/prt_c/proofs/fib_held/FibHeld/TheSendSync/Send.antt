-- A holder may go to another thread, as an owner in it may.
use Rattle.std.specs.Prelude.{Option, None, Some}
use mir.Raw.{raw}
use base.Shift.{Keyless}
use denote.Memory.{lone}
use denote.RawPtr.{Ptr}
use denote.Struct.Struct.{exits_of}
use denote.Struct.Owning.{shape, fields, to}
use denote.Param.Send.{IsSend, AllSend, owning_send, struct_send, sendable}
use Rattle.std.proofs.Crossing as heap
use Rattle.std.specs.Global.{Global}
use Rattle.std_alloc.proofs.SendSync.{quiet, lies}
use Rattle.std_heap.proofs.Global.TheSendSync as handle
use Rattle.prt_c.specs.FibOwned.{fib_owns}
use Rattle.prt_c.specs.contracts.fib_owner.FibOwner as Owner
use Rattle.prt_c.proofs.fib_owner.FibOwner.TheSendSync.{the_send as owner}
use Rattle.prt_c.specs.contracts.fib_held.FibHeld.{the_row, the_type}

crosses : (alloc : Global) (at : Ptr) (home : Option Owner.the_row.Denot) → Keyless (fib_owns alloc at home)
crosses alloc at None = tt
crosses alloc at (Some x) = (lies Owner.the_row owner at x, heap.frees.frees alloc (raw (lone Owner.the_row.mir)) at)

pub send : IsSend the_row
send =
    let all : AllSend (fields the_type) = (search sendable, (handle.the_field_send, tt)) in
    owning_send the_type all (λ d. crosses d.alloc d.ptr d.home)
    (λ k. quiet (to the_type) (exits_of k (fields the_type)) ((struct_send (shape the_type) all).leaving k))
