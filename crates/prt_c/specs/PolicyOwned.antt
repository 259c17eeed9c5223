-- What a holder owns: nothing at all at null, or else the same as a box of an owner of a policy table.
use Rattle.std.specs.Prelude.{Option, None, Some}
use base.Fml.{Fml, feq}
use base.Stored.{Coded}
use denote.RawPtr.{Ptr, null_ptr}
use Rattle.std.specs.Coded.{coded_option}
use Rattle.std.specs.Box.Ownership.{box_owns}
use Rattle.std.specs.Global.{Global}
use Rattle.std_heap.specs.contracts.GlobalAllocator.TheImpl.{ghosts}
use Rattle.prt_c.specs.contracts.policy_owner.PolicyOwner.{the_row}

abbrev pub policy_owns : Global → Ptr → Option the_row.Denot → Fml
policy_owns alloc at None = feq Ptr at null_ptr
policy_owns alloc at (Some owner) = box_owns (ghosts.dealloc_token alloc) the_row at owner

abbrev pub policy_coded : Coded (Option the_row.Denot)
policy_coded = coded_option the_row.coded
