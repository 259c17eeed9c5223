use Rattle.std.proofs.Common.{of_calls, subst, sym}
use Rattle.prt_published.proofs.Prefixes.{begins_trans}
use Rattle.prt_serve.proofs.Jobs.{ServesEach-more, counted_more}
use Rattle.prt_serve.specs.Jobs.{ServesKind}
use Rattle.prt_serve.specs.declared.worker.SessionKind.{SessionKind}
use Rattle.prt_serve.proofs.context.ServiceContext.serve_jobs.Goals as goal

pub loop-job-preserved-in-InTurn : goal.loop-job-preserved-in-InTurn
loop-job-preserved-in-InTurn g c =
    let known0 = c.args.looker.now.known in
    let known = c.loop-job.looker.known in
    let next = c.serve_job-end.new.looker.known in
    let now = c.loop-job.invariant in
    let ran = c.serve_job-end.ensures in
    let job = c.in-Some.job in
    let left = c.serve_job-end.new.job in
    record {
      of_book = ran.of.0;
      of_base = ran.of.1;
      grows = begins_trans known0 known next now.grows ran.served.shows.grows;
      served = ServesEach-more g.R.Read.remaining g.W.Write.contents (λ to left later. goal.F-step g to left tt later) known0 c.args.after c.loop-job.yielded known c.loop-job.after job next c.after.new.self now.served
          (record {
            left = record { job = left; end = c.serve_job-end.result };
            session = ran.session;
            kind = ran.kind;
            served = subst (λ (kind : SessionKind). ServesKind kind known next (g.R.Read.remaining job.reader) (g.R.Read.remaining left.reader) (g.W.Write.contents job.writer) (g.W.Write.contents left.writer) c.serve_job-end.result) (sym c.in-InTurn.is) ran.served;
            taken = c.after.ensures;
          });
      counted = counted_more c.loop-job.yielded job c.loop-job.served c.saturating_add-served.result now.counted c.saturating_add-served.ensures;
      callable = search of_calls;
    }

pub loop-job-preserved : goal.loop-job-preserved
loop-job-preserved g c =
    let known0 = c.args.looker.now.known in
    let known = c.loop-job.looker.known in
    let next = c.serve_together.new.looker.known in
    let now = c.loop-job.invariant in
    let ran = c.serve_together.ensures in
    let job = c.in-Some.job in
    let left = c.serve_together.result in
    record {
      of_book = ran.of.0;
      of_base = ran.of.1;
      grows = begins_trans known0 known next now.grows ran.grows;
      served = ServesEach-more g.R.Read.remaining g.W.Write.contents (λ to left later. goal.F-step g to left tt later) known0 c.args.after c.loop-job.yielded known c.loop-job.after job next c.after-in-Together.new.self now.served
          (record {
            left = left;
            session = ran.session;
            kind = ran.kind;
            served = subst (λ (kind : SessionKind). ServesKind kind known next (g.R.Read.remaining job.reader) (g.R.Read.remaining left.job.reader) (g.W.Write.contents job.writer) (g.W.Write.contents left.job.writer) left.end) (sym c.in-Together.is) ran.served;
            taken = c.after-in-Together.ensures;
          });
      counted = counted_more c.loop-job.yielded job c.loop-job.served c.saturating_add-served.result now.counted c.saturating_add-served.ensures;
      callable = search of_calls;
    }
