use Rattle.std.proofs.Common.{◌≡◌, ◌+◌, ap, arith, length, sym, ◌∙◌}
use Rattle.prt_published.specs.History.{commands_in}
use Rattle.prt_published.specs.Line.{Line, grown_by, line_state}
use Rattle.prt_version.proofs.Folds.{fold_append}
use Rattle.prt_published.proofs.Numbers.{counts_on}
use Rattle.prt_published.proofs.front.Front.publish_batch.Goals as goal

pub overflow_sub-added : goal.overflow_sub-added
overflow_sub-added g c =
    omega (
      arith,
      counts_on c.args.self.now c.again-published.result c.published.result.now (commands_in c.args.batch) c.number-after.result c.number-before.result (c.again-published.ensures.same ∙ c.self.view_is)
          (c.published.ensures ∙ (c.self.invariant.0 ∙ sym c.again-published.ensures.same)) c.again-published.ensures.accepted (c.number-after.ensures ∙ c.requires.stamp) c.number-before.ensures,
    )

pub accept-requires-clause-added : goal.accept-requires-clause-added
accept-requires-clause-added g c =
    omega (
      arith,
      counts_on c.args.self.now c.again-published.result c.published.result.now (commands_in c.args.batch) c.number-after.result c.number-before.result (c.again-published.ensures.same ∙ c.self.view_is)
          (c.published.ensures ∙ (c.self.invariant.0 ∙ sym c.again-published.ensures.same)) c.again-published.ensures.accepted (c.number-after.ensures ∙ c.requires.stamp) c.number-before.ensures,
    )

pub new-shown-requires : goal.new-shown-requires
new-shown-requires g c =
    let now = c.args.self.now in
    let more = commands_in c.args.batch in
    let same : c.again-published.result ≡ now = c.again-published.ensures.same ∙ c.self.view_is in
    let e : c.again.result ≡ grown_by now more = c.again.ensures.same ∙ (c.in-Some.ensures ∙ ap (λ (l : Line). grown_by l more) same) in
    c.requires.next ∙ sym (ap line_state e ∙ fold_append now.base now.list more)
