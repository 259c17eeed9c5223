use Rattle.std.proofs.Common.{◌≡◌, ◌∙◌, [], All, List, length, subst, vec_len}
use Rattle.prt_published.specs.Line.{Line}
use Rattle.prt_serve.specs.Kept.{Keeps, Work}
use Rattle.prt_host.proofs.Served.{left_alone, left_with, no_fault, of_book}
use Rattle.prt_host.proofs.serving.run_service.Goals as goal

pub are_kept-requires : goal.are_kept-requires
are_kept-requires g c = of_book g.H.Store.Store g.J.ServiceBrand.book g.J.ServiceBrand.base g.J.ServiceBrand.ours_first c.end-conn.result.published c.end-conn.result.conn c.end-conn.ensures

pub returns-then-are_kept : goal.returns-then-are_kept
returns-then-are_kept g c =
    let end = c.serve_with_gate-shifts.result.end in
    let shifts = c.serve_with_gate-shifts.result.shifts.items in
    let published : Line = c.end-conn.result.published in
    let many : length shifts ≡ vec_len c.serve_with_gate-shifts.result.shifts = cc (c.as_slice.ensures.value, c.as_slice.ensures.len) in
    let kept : All (Keeps published) shifts = subst (λ (xs : List Work). All (Keeps published) xs) c.as_slice.ensures.value (c.are_kept.ensures c.if-are_kept.true) in (
      shifts,
      left_with g.H.Store.Store g.J.ServiceBrand.book g.J.ServiceBrand.base g.J.ServiceBrand.ours_first published c.end-conn.result.conn c.end-conn.ensures shifts kept,
      (λ none.
          let fine = no_fault end.accepting end.feeding end.refused none in
          many ∙ c.serve_with_gate-shifts.ensures fine.0 fine.1),
    )

pub returns : goal.returns
returns g c =
    ([], left_alone g.H.Store.Store g.J.ServiceBrand.book g.J.ServiceBrand.base g.J.ServiceBrand.ours_first c.end-conn.result.published c.end-conn.result.conn c.end-conn.ensures, (λ none. absurd (c.not_kept.ensures none)))
