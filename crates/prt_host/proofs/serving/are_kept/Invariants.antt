use Rattle.std.specs.List.{AllWithin}
use Rattle.prt_serve.specs.Kept.{Keeps}
use Rattle.prt_host.proofs.serving.are_kept.Given as goal

abbrev pub invariant-loop-shift : goal.invariant-loop-shift
invariant-loop-shift g l = AllWithin (Keeps l.published) l.shifts 0 l.shift-index
