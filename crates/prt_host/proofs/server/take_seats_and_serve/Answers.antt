use Rattle.std.proofs.Common.{◌≡◌, [], ap, inr, refl, subst, sym, Some}
use Rattle.prt_publisher.specs.Standing.{IsQuiet, Standing}
use Rattle.prt_serve.specs.declared.accept_loop.Accepting.TheVariants.{Ended}
use Rattle.prt_serve.specs.declared.threads.ServeEnd.{ServeEnd}
use Rattle.prt_host.proofs.Served.{left_alone}
use Rattle.prt_host.specs.Serving.{IsFaultOfServing}
use Rattle.prt_host.proofs.server.take_seats_and_serve.Goals as goal

pub returns-in-Err-clause-fault : goal.returns-in-Err-clause-fault
returns-in-Err-clause-fault g c =
    let end : ServeEnd = record { accepting = Ended; feeding = Ended; refused = Some c.in-Err.refusal } in
    subst IsFaultOfServing (sym c.new-failure.ensures) (inr (end, refl))

pub returns-in-Err-clause-left : goal.returns-in-Err-clause-left
returns-in-Err-clause-left g c =
    let same : c.seats.new.self ≡ c.args.publisher = c.in-Err.ensures.same in (
      [],
      left_alone g.H.Store.Store _ _ _ c.seats.new.self.line _ (record {
        last = c.seats.new.self;
        its = sym c.end.ensures.tables;
        line = refl;
        quiet = subst (λ (p : Standing _). IsQuiet p.phase) (sym same) c.requires;
        named = (ap (λ (p : Standing _). p.line.book) same, ap (λ (p : Standing _). p.line.base) same, ap (λ (p : Standing _). p.ours_first) same);
        stands = c.end.ensures.stands;
      }),
      (λ none. absurd (cc none)),
    )
