-- Replies as they are written down: each as it is, or the refusals alone, with the numbers of their lines.
use Rattle.std.specs.Prelude.{ℕ, ◌+◌, List, [], ◌∷◌, ◌++◌, codes, decimal}
use Rattle.prt_refusals.specs.Refusal.{refusal_text}
use Rattle.prt_replies.specs.Reply.{reply_text, replies_text}
use Rattle.prt_session.specs.declared.form.Form.{Form}
use Rattle.prt_session.specs.declared.form.Form.TheVariants.{Plain, Numbered}
use Rattle.prt_replies.specs.declared.reply.Reply.{Reply}
use Rattle.prt_replies.specs.declared.reply.Reply.TheVariants.{Refused}

-- a refusal, after the number of its line: `LINE: error C NAME`; of another reply nothing
abbrev pub numbered_text : ℕ → Reply → List ℕ
numbered_text line (Refused reason) = decimal line ++ codes ": " ++ refusal_text reason ++ codes "\n"
numbered_text line reply = []

-- the refusals among replies, the first of which is to the line of this number
unfoldable pub numbered_from : ℕ → List Reply → List ℕ
numbered_from line [] = []
numbered_from line (reply ∷ replies) = numbered_text line reply ++ numbered_from (line + 1) replies

-- the reply to the line of this number
abbrev pub reply_in : Form → ℕ → Reply → List ℕ
reply_in Plain line reply = reply_text reply
reply_in Numbered line reply = numbered_text line reply

-- all replies of a session
abbrev pub replies_in : Form → List Reply → List ℕ
replies_in Plain = replies_text
replies_in Numbered = numbered_from 1
