use Rattle.prt_version.proofs.Silent.{AreSilent}
use Rattle.prt_version.proofs.select.first_found.Given as goal

abbrev pub invariant-loop-place : goal.invariant-loop-place
invariant-loop-place l = AreSilent l.rules l.routes l.packet l.place
