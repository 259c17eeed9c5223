use Rattle.std.proofs.Common.{length}
use Rattle.prt_questions.specs.Sources.{IsAtomicReply}
use Rattle.prt_questions.proofs.InParts.{IsMadeUpTo}
use Rattle.prt_questions.proofs.apply_remote.submit_in_parts.Given as goal

-- the server made those before the rest
abbrev pub invariant-parts : goal.invariant-parts
invariant-parts g l = IsMadeUpTo (IsAtomicReply g.N.LocalNet.reaches g.N.Stream.Read.remaining l.rt l.place) l.fn.number l.commands l.sent l.rest

abbrev pub decreases-parts : goal.decreases-parts
decreases-parts g l = length l.rest
