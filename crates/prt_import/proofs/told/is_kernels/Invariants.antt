use Rattle.std.proofs.Common.{◌≡◌, length}
use Rattle.prt_command.specs.Reading.{words}
use Rattle.prt_import.specs.Told.{is_kernels, is_kernels_after}
use Rattle.prt_import.proofs.told.is_kernels.Given as goal

abbrev pub invariant-loop-word : goal.invariant-loop-word
invariant-loop-word l = is_kernels (words l.fn.text) ≡ is_kernels_after l.before (words l.rest)

abbrev pub decreases-loop-word : goal.decreases-loop-word
decreases-loop-word l = length l.rest
