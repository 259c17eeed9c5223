use Rattle.std.proofs.Common.{◌∙◌, false, inl, inr, subst}
use Rattle.prt_replies.specs.Written.{Written}
use Rattle.prt_questions.proofs.apply_remote.apply_to_server.Goals as goal

pub returns-in-Text-clause-part : goal.returns-in-Text-clause-part
returns-in-Text-clause-part g c =
    let planned = c.in-Text.ensures.text in
    let writer = g.W.Write.contents c.write_text.new.output in
    let cut = subst (λ writer0. Written false writer0 writer c.in-Text.text.items) (c.in-Text.ensures.unwritten ∙ c.loop.invariant) c.write_text.ensures.part in
    inr (planned.0, planned.1, inr (c.in-Text.text.items, planned.3, inr cut))

pub returns-in-Failed-clause-part : goal.returns-in-Failed-clause-part
returns-in-Failed-clause-part g c = inl (c.in-Failed.ensures.unwritten ∙ c.loop.invariant)

pub returns-clause-part : goal.returns-clause-part
returns-clause-part g c = inl c.loop.invariant
