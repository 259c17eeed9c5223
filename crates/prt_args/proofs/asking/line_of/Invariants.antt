use Rattle.prt_args.specs.Read.{line_of}
use Rattle.prt_args.proofs.Operands.{IsSoFar, texts_of}
use Rattle.prt_args.proofs.asking.line_of.Given as goal

abbrev pub invariant-loop-word : goal.invariant-loop-word
invariant-loop-word l = IsSoFar l.line.items l.rest l.word-index (line_of l.fn.verb (texts_of l.fn.words))
