use Rattle.std.proofs.Common.{length, subst, sym}
use Rattle.prt_published.specs.Line.{Line}
use Rattle.prt_serve.proofs.Jobs.{counted_most}
use Rattle.prt_serve.proofs.Kept.{keeps_each}
use Rattle.prt_serve.specs.Jobs.{ServesCounted}
use Rattle.prt_serve.specs.Kept.{Keeps, Work}
use Rattle.prt_serve.proofs.context.ServiceContext.work_with.Goals as goal

pub new-requires-clause-keeps : goal.new-requires-clause-keeps
new-requires-clause-keeps g c =
    let ran = c.serve_jobs-served.ensures.served in
    subst (λ (known : Line). Keeps known (record { known = known; served = c.serve_jobs-served.result }))
    (sym c.leave.ensures)
    (keeps_each g.R.Read.remaining g.W.Write.contents (λ to left later. goal.F-step g to left tt later) c.args.looker.known c.args.after ran.0 c.serve_jobs-served.new.looker.known ran.3.0 c.serve_jobs-served.result ran.3.1 (counted_most (length ran.0) c.serve_jobs-served.result ran.2))

pub returns : goal.returns
returns g c =
    let counts = λ (work : Work). ServesCounted g.I.Iterator.next_gives g.R.Read.remaining g.W.Write.contents (λ to left later. goal.F-step g to left tt later) c.args.jobs c.args.looker.known c.args.after work.known work.served in
    let left = λ (known : Line). counts (record { known = known; served = c.serve_jobs-served.result }) in
    record { served = subst counts (sym c.new.ensures) (subst left (sym c.leave.ensures) c.serve_jobs-served.ensures.served) }
