use Rattle.std.proofs.Common.{rules}
use Rattle.prt_questions.proofs.Asked.{whole_is_part}
use Rattle.prt_questions.proofs.asking.write_text.Goals as goal

pub returns-then-write_reply-clause-part : goal.returns-then-write_reply-clause-part
returns-then-write_reply-clause-part g c = whole_is_part _ _ _ (search (rules, c.write_reply.ensures.written))
