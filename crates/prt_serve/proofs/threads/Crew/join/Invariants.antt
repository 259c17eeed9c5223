use Rattle.std.proofs.Common.{◌≡◌, None, length, vec_len}
use Rattle.prt_serve.proofs.threads.Crew.join.Given as goal

abbrev pub invariant-loop-thread : goal.invariant-loop-thread
invariant-loop-thread g l = l.refused ≡ None → vec_len l.shifts ≡ length l.yielded
