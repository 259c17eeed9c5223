use Rattle.std.proofs.Common.{◌≡◌, ◌+◌, vec_len}
use Rattle.prt_serve.proofs.threads.start_workers.Given as goal

abbrev pub invariant-loop : goal.invariant-loop
invariant-loop g l = (vec_len l.crew.threads ≡ vec_len l.initial.crew.threads + l.counter) × (vec_len l.crew.shifts ≡ vec_len l.initial.crew.shifts)
