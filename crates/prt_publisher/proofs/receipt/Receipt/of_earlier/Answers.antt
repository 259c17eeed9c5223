use Rattle.std.proofs.Common.{◌≡◌, ◌+◌, ◌-◌, ap, arith, length, length-take-le, sym, ◌∙◌}
use Rattle.prt_published.specs.Line.{Line}
use Rattle.prt_version.proofs.Folds.{count_fold}
use Rattle.prt_publisher.proofs.receipt.Receipt.of_earlier.Goals as goal

pub new-requires : goal.new-requires
new-requires c =
    let told = c.without_last-told.result in
    let whole = c.self.inside.told in
    let same : length whole.list ≡ length c.args.self.now.list = ap (λ (l : Line). length l.list) c.self.view_is in
    let long : length told.list ≡ length whole.list - c.args.count = ap (λ (l : Line). length l.list) c.without_last-told.ensures.told ∙ length-take-le (length whole.list - c.args.count) whole.list (omega arith) in
    let number : c.self.inside.number - c.args.count ≡ told.base.count + length told.list = omega (arith, same, long, c.self.invariant.0, ap (λ (l : Line). l.base.count) c.without_last-told.ensures.told, c.requires) in
    (number, number ∙ sym (count_fold told.base told.list c.without_last-told.ensures.accepted))
