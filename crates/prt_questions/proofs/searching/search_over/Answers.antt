use Rattle.std.proofs.Common.{◌≡◌, arith, false, inr, subst}
use Rattle.std.specs.Io.KnownBytes.{Appends}
use Rattle.prt_replies.specs.Written.{Written}
use Rattle.prt_args.specs.declared.fault.TheConstants.{DONE}
use Rattle.prt_questions.specs.declared.asking.TheConstants.{REFUSED}
use Rattle.prt_questions.proofs.searching.search_over.Goals as goal

pub returns-then-written-ne-DONE-clause-at_most : goal.returns-then-written-ne-DONE-clause-at_most
returns-then-written-ne-DONE-clause-at_most g c =
    inr (c.in-Ok.found, c.in-Ok.ensures.value, inr (subst (λ text. Written false (g.W.Write.contents c.args.output.now) (g.W.Write.contents c.write_text-written.new.output) text) c.in-Ok-text_of.ensures c.write_text-written.ensures.part))

pub returns-then-is_nothing-clause-found : goal.returns-then-is_nothing-clause-found
returns-then-is_nothing-clause-found g c = λ status. (
  c.in-Ok.found,
  c.in-Ok.ensures.value,
  subst (λ text. Appends (g.W.Write.contents c.args.output.now) (g.W.Write.contents c.write_text-written.new.output) text) c.in-Ok-text_of.ensures (c.write_text-written.ensures.whole c.if-written-ne-DONE.false),
  λ done. c.is_nothing.ensures c.if-is_nothing.true,
)

pub returns-then-is_nothing-clause-at_most : goal.returns-then-is_nothing-clause-at_most
returns-then-is_nothing-clause-at_most g c =
    inr (c.in-Ok.found, c.in-Ok.ensures.value, inr (subst (λ text. Written false (g.W.Write.contents c.args.output.now) (g.W.Write.contents c.write_text-written.new.output) text) c.in-Ok-text_of.ensures c.write_text-written.ensures.part))

pub returns-clause-found : goal.returns-clause-found
returns-clause-found g c = λ status. (
  c.in-Ok.found,
  c.in-Ok.ensures.value,
  subst (λ text. Appends (g.W.Write.contents c.args.output.now) (g.W.Write.contents c.write_text-written.new.output) text) c.in-Ok-text_of.ensures (c.write_text-written.ensures.whole c.if-written-ne-DONE.false),
  λ done. (let bad : REFUSED ≡ DONE = done in absurd (omega arith)),
)

pub returns-clause-at_most : goal.returns-clause-at_most
returns-clause-at_most g c =
    inr (c.in-Ok.found, c.in-Ok.ensures.value, inr (subst (λ text. Written false (g.W.Write.contents c.args.output.now) (g.W.Write.contents c.write_text-written.new.output) text) c.in-Ok-text_of.ensures c.write_text-written.ensures.part))
