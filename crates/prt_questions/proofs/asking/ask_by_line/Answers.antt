use Rattle.std.proofs.Common.{inr}
use Rattle.prt_questions.proofs.Asked.{told_said}
use Rattle.prt_questions.proofs.asking.ask_by_line.Goals as goal

pub returns-in-Ok-named_reply-clause-whole : goal.returns-in-Ok-named_reply-clause-whole
returns-in-Ok-named_reply-clause-whole g c = λ done. (c.in-Ok-named_reply.text.items, told_said _ _ c.in-Ok.told c.args.inquiry.now c.in-Ok-named_reply.text.items c.in-Ok.ensures c.in-Ok-named_reply.ensures, c.write_text.ensures.whole done)

pub returns-in-Ok-named_reply-clause-part : goal.returns-in-Ok-named_reply-clause-part
returns-in-Ok-named_reply-clause-part g c = inr (c.in-Ok-named_reply.text.items, told_said _ _ c.in-Ok.told c.args.inquiry.now c.in-Ok-named_reply.text.items c.in-Ok.ensures c.in-Ok-named_reply.ensures, inr c.write_text.ensures.part)
