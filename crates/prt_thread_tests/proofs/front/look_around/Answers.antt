use Rattle.std.proofs.Common.{◌≡◌, Some, ap, sym, ◌∙◌}
use Rattle.std.proofs.lemmas.List.Elements.{All-pop}
use Rattle.prt_published.specs.Line.{Line}
use Rattle.prt_thread_tests.proofs.front.look_around.Goals as goal

pub learn-requires : goal.learn-requires
learn-requires g c =
    let made = c.in_ok-readers.ensures.readers.1 in
    let others = All-pop (λ (x : Line). x ≡ c.in_ok-front.front) _ _ (Some c.in-Some-Some.first) c.in-Some-Some.ensures.items made in
    let reader = All-pop (λ (x : Line). x ≡ c.in_ok-front.front) _ _ (Some c.in-Some-Some.second) c.in-Some-Some.ensures'.items others.0 in
    let told = c.in_ok-told.ensures.list in
    ap (λ (l : Line). l.book) (told.1 ∙ told.0) ∙ ap (λ (l : Line). l.book) c.readers.ensures.same ∙ sym (ap (λ (l : Line). l.book) reader.1)
