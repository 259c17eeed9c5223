-- What a holder owns: nothing at all at null, or else the same as a box of an owner of a table.
use Rattle.std.specs.Prelude.{Option, None, Some}
use base.Fml.{Fml, feq}
use base.Stored.{Coded}
use denote.RawPtr.{Ptr, null_ptr}
use Rattle.std.specs.Coded.{coded_option}
use Rattle.std.specs.Box.Ownership.{box_owns}
use Rattle.std.specs.Global.{Global}
use Rattle.std_heap.specs.contracts.GlobalAllocator.TheImpl.{ghosts}
use Rattle.prt_c.specs.contracts.fib_owner.FibOwner.{the_row}

abbrev pub fib_owns : Global → Ptr → Option the_row.Denot → Fml
fib_owns alloc at None = feq Ptr at null_ptr
fib_owns alloc at (Some owner) = box_owns (ghosts.dealloc_token alloc) the_row at owner

abbrev pub fib_coded : Coded (Option the_row.Denot)
fib_coded = coded_option the_row.coded
