use Rattle.std.proofs.Common.{inr}
use Rattle.prt_questions.proofs.Asked.{whole_answer}
use Rattle.prt_questions.proofs.asking.ask_by_tables.Goals as goal

pub returns-in-Ok-clause-whole : goal.returns-in-Ok-clause-whole
returns-in-Ok-clause-whole g c = λ done. (c.in-Ok.version, c.in-Ok.ensures, c.write_answer.ensures.whole _ c.named_answer-answered.ensures.text done, whole_answer c.args.inquiry.now.question c.in-Ok.version c.named_answer-answered.result c.named_answer-answered.ensures.notes (c.write_answer.ensures.change done))

pub returns-in-Ok-clause-part : goal.returns-in-Ok-clause-part
returns-in-Ok-clause-part g c = inr (c.in-Ok.version, c.in-Ok.ensures, c.write_answer.ensures.part _ c.named_answer-answered.ensures.text)
