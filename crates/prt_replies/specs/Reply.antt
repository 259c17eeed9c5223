-- Replies, and their bytes.
use Rattle.std.specs.Prelude.{ℕ, Bool, true, false, List, [], ◌++◌, codes, decimal, flat_map}
use Rattle.prt_refusals.specs.Refusal.{refusal_text}
use Rattle.prt_replies.specs.declared.reply.Reply.{Reply}
use Rattle.prt_replies.specs.declared.reply.Reply.TheVariants.{Silent, Accepted, Answered, Refused}

abbrev pub is_refused : Reply → Bool
is_refused (Refused reason) = true
is_refused reply = false

abbrev pub reply_text : Reply → List ℕ
reply_text Silent = []
reply_text (Accepted number) = codes "ok " ++ decimal number ++ codes "\n"
reply_text (Answered text) = text
reply_text (Refused reason) = refusal_text reason ++ codes "\n"

unfoldable pub replies_text : List Reply → List ℕ
replies_text replies = flat_map reply_text replies
