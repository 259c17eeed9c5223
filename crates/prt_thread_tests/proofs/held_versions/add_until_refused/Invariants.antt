use Rattle.prt_publisher.specs.Standing.{IsQuiet}
use Rattle.prt_thread_tests.proofs.held_versions.add_until_refused.Given as goal

abbrev pub invariant-loop-host : goal.invariant-loop-host
invariant-loop-host g l = IsQuiet l.publisher.phase
