use Rattle.std.proofs.Common.{◌≡◌, ap, sym, ◌∙◌, arith}
use Rattle.prt_published.specs.Line.{Line, line_state}
use Rattle.prt_version.specs.State.{State}
use Rattle.prt_version.proofs.Folds.{count_fold}
use Rattle.prt_publisher.proofs.publisher.Publisher.note.Goals as goal

pub new-requires : goal.new-requires
new-requires g c =
    let front = c.self.inside.front in
    let counted : c.number-number.result ≡ (line_state front).count = c.number-number.ensures.value ∙ (ap (λ (v : State). v.count) c.deref.ensures ∙ ap (λ (v : State). v.count) c.self.invariant.0) in
    let known : c.whole-told.result ≡ front = c.whole-told.ensures ∙ c.known.ensures in
    let long = count_fold front.base front.list c.self.invariant.2 in (
      rw known (omega (arith, counted, long)),
      counted ∙ ap (λ (l : Line). (line_state l).count) (sym known),
    )
