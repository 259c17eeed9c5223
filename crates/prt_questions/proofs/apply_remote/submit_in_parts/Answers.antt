use Rattle.std.proofs.Common.{refl}
use Rattle.prt_questions.specs.Sources.{IsAtomicReply}
use Rattle.prt_questions.proofs.InParts.{next_made, split_joined}
use Rattle.prt_questions.proofs.apply_remote.submit_in_parts.Goals as goal

pub parts-preserved : goal.parts-preserved
parts-preserved g c =
    let part = c.split_at.result.0.now in
    let later = c.split_at.result.1.now in
    let split = split_joined _ c.parts.rest.now part later c.split_at.ensures.front c.split_at.ensures.back in
    next_made (IsAtomicReply g.N.LocalNet.reaches g.N.Stream.Read.remaining c.args.rt.now c.args.place.now) c.args.number c.args.commands.now c.parts.sent _ c.parts.rest.now part later c.parts.invariant split
    (c.in_ok-send_changes.ensures.made c.in-All.is) refl
