use Rattle.std.proofs.Common.{◌+◌, sym, subst, Bor, List, ℕ, Option}
use Rattle.prt_args.specs.Reaching.{span_of}
use Rattle.prt_args.specs.declared.reach.Ends.{Ends}
use Rattle.prt_args.specs.declared.reach.NumberSpan.{NumberSpan}
use Rattle.prt_args.proofs.Readings.{AreRead, one_more, one_wrong}
use Rattle.prt_args.proofs.reach.read_spans.Goals as goal

abbrev read_by : Ends → Bor (List ℕ) → Option NumberSpan
read_by ends word = span_of ends word.now

pub returns-in_default : goal.returns-in_default
returns-in_default c =
    sym (one_wrong (read_by c.args.ends) c.args.words.now c.loop-word.word-index _ c.loop-word.spans.items c.loop-word-test.true (sym c.in_default.ensures) c.loop-word.invariant)

pub loop-word-preserved : goal.loop-word-preserved
loop-word-preserved c =
    let more = one_more (read_by c.args.ends) c.args.words.now c.loop-word.word-index _ c.loop-word.spans.items c.in-Some.span c.loop-word-test.true (sym c.in-Some.ensures) c.loop-word.invariant in
    subst (AreRead (read_by c.args.ends) c.args.words.now (c.loop-word.word-index + 1)) (sym c.in_ok-push.ensures.items) more
