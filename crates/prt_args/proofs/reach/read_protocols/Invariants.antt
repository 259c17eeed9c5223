use Rattle.prt_route.specs.Names.{protocol}
use Rattle.prt_args.proofs.Readings.{AreRead}
use Rattle.prt_args.proofs.reach.read_protocols.Given as goal

abbrev pub invariant-loop-word : goal.invariant-loop-word
invariant-loop-word l = AreRead (λ word. protocol word.now) l.words l.word-index l.protocols.items
