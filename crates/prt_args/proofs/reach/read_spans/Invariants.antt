use Rattle.prt_args.specs.Reaching.{span_of}
use Rattle.prt_args.proofs.Readings.{AreRead}
use Rattle.prt_args.proofs.reach.read_spans.Given as goal

abbrev pub invariant-loop-word : goal.invariant-loop-word
invariant-loop-word l = AreRead (λ word. span_of l.ends word.now) l.words l.word-index l.spans.items
