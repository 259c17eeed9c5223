use Rattle.std.proofs.Common.{◌≡◌, ◌^◌, ◌-◌, length, min}
use Rattle.prt_published.specs.Line.{Begins}
use Rattle.prt_serve.specs.Jobs.{ServesEach}
use Rattle.prt_serve.proofs.context.ServiceContext.serve_jobs.Given as goal

abbrev pub invariant-loop-job : goal.invariant-loop-job
invariant-loop-job g l = record {
  of_book : l.looker.known.book ≡ g.C.Brand.ServiceBrand.book;
  of_base : l.looker.known.base ≡ g.C.Brand.ServiceBrand.base;
  grows : Begins l.fn.looker.known l.looker.known;
  served : ServesEach g.R.Read.remaining g.W.Write.contents (λ to left later. goal.F-step g to left tt later) l.fn.looker.known l.fn.after l.yielded l.looker.known l.after;
  counted : l.served ≡ min (length l.yielded) (2 ^ 64 - 1);
  callable : goal.F-IsAlwaysCallable g l.after;
}
