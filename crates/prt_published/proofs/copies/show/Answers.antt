use Rattle.std.proofs.Common.{◌≡◌, drop, ap, sym, ◌∙◌}
use Rattle.prt_published.specs.Line.{Line}
use Rattle.prt_published.proofs.Rules.{turns, fold_last}
use Rattle.prt_published.proofs.copies.show.Goals as goal

pub publish_as-writer-requires : goal.publish_as-writer-requires
publish_as-writer-requires g c next is =
    let done = c.in-Ok.ensures in
    let last : next ≡ c.args.next = (rw done.pending at is) ∙ fold_last c.append.new.self.desk.shown.value (drop c.args.writer.behind c.args.writer.log.items) c.args.next in
    let same : next.book ≡ c.append.new.self.desk.shown.value.book = ap (λ (l : Line). l.book) last ∙ (c.requires ∙ ap (λ d. d.shown.value.book) (sym done.desk)) in
    turns _ _ c.append.new.self.desk.shown.value next same
