use Rattle.std.proofs.Common.{◌∙◌, refl, sym, [], ◌∷◌}
use Rattle.prt_replies.specs.declared.reply.Reply.TheVariants.{Refused}
use Rattle.prt_session.proofs.Replies.{one_text}
use Rattle.prt_questions.proofs.submitting.verdict.Goals as goal

pub returns-in-Some : goal.returns-in-Some
returns-in-Some c = (Refused c.in-Some.refusal ∷ [], c.in-Some.ensures ∙ sym (one_text (Refused c.in-Some.refusal)), refl)
