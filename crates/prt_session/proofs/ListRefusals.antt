-- The refusals that no run over the plain desk replies.
use Rattle.std.proofs.Common.{◌≡◌, ◌≤◌, ℕ, Bool, true, false, List, length, Option, IfErr, Result, Ok, Err, refl, arith}
use Rattle.std.proofs.lemmas.List.Elements.{All-weaker}
use Rattle.std.specs.List.{All, list_all}
use Rattle.std.specs.Prelude.{nat_lt, not}
use Rattle.prt_refusals.specs.Refusal.{code_of}
use Rattle.prt_refusals.specs.declared.refusal.Refusal.{Refusal}
use Rattle.prt_refusals.specs.declared.refusal.Refusal.TheVariants.{LineTooLong, NotAscii, Exists, Closed, NoSuch, Full, CountFull, Busy, StoreFailed, NotPublished, NotFetched, Damaged, OpenFailed, WriteFault}
use Rattle.prt_command.proofs.Faults.{Fine, fine_err, fine_ok, then_fine}
use Rattle.prt_command.proofs.Stored.{text_is}
use Rattle.prt_command.specs.Lines.{longest_line}
use Rattle.prt_command.specs.Reading.{before_comment, is_text_byte, line_words, reading, words, words_request}
use Rattle.prt_command.specs.Requests.{refuse_if}
use Rattle.prt_command.specs.declared.request.Request.{Request}
use Rattle.prt_session.proofs.ListReplies.{list_replies}
use Rattle.prt_session.specs.Desk.{Befalls, DeskState, IsNoMemory, Mishap, request_turn, settled}
use Rattle.prt_session.specs.Refusals.{IsListRefusal, IsListReply, IsWithinLists, is_beyond_lists, of_line, of_command, of_memory, of_reader, of_line_length, of_line_count}
use Rattle.prt_replies.specs.Input.{Input}
use Rattle.prt_session.specs.Session.{Path, replies, session}
use Rattle.prt_replies.specs.declared.reply.Reply.{Reply}
use Rattle.prt_replies.specs.declared.reply.Reply.TheVariants.{Refused}
use Rattle.prt_refusals.specs.declared.on_refusal.OnRefusal.{OnRefusal}
use Rattle.prt_version.proofs.Refused.{IsOfState, refused_by}
use Rattle.prt_version.specs.State.{State}

-- ---- a line

refuse_fine : (refused : Bool) (e : Refusal) → code_of e ≤ 18 → Fine (refuse_if refused e)
refuse_fine true e low = fine_err e low
refuse_fine false e low = fine_ok tt

fine_by : (r : Result (Option Request) Refusal) → IfErr r (λ e. code_of e ≤ 18) → Fine r
fine_by (Ok request) low = fine_ok request
fine_by (Err e) low = fine_err e low

words_fine : (line : List ℕ) → Fine (line_words line)
words_fine line =
    then_fine _ _ (refuse_fine (nat_lt longest_line (length line)) LineTooLong (omega arith)) (λ _.
    then_fine _ _ (refuse_fine (not (list_all is_text_byte (before_comment line))) NotAscii (omega arith)) (λ _.
    fine_ok (words (before_comment line))))

reading_fine : (line : List ℕ) → Fine (reading line)
reading_fine line = then_fine _ _ (words_fine line) (λ ws. fine_by (words_request ws) (text_is ws (words_request ws) refl).1)

-- the first eighteen refusals are of lines
line_within : (reason : Refusal) → code_of reason ≤ 18 → is_beyond_lists reason ≡ false
line_within Closed low = absurd (omega arith)
line_within Busy low = absurd (omega arith)
line_within (StoreFailed call) low = absurd (omega arith)
line_within NotPublished low = absurd (omega arith)
line_within NotFetched low = absurd (omega arith)
line_within Damaged low = absurd (omega arith)
line_within OpenFailed low = absurd (omega arith)
line_within WriteFault low = absurd (omega arith)
line_within _ low = refl

-- no refusal by a state is one of them
state_within : (reason : Refusal) → IsOfState reason → is_beyond_lists reason ≡ false
state_within Exists is = refl
state_within NoSuch is = refl
state_within Full is = refl
state_within CountFull is = refl
state_within _ is = absurd is

-- ---- a run

refusal_within : (reason : Refusal) → IsListRefusal reason → is_beyond_lists reason ≡ false
refusal_within reason (of_line line is) = line_within reason ((reading_fine line).number reason is)
refusal_within reason (of_command state command is) = state_within reason (refused_by state command reason is)
refusal_within reason (of_memory is) = rw is refl
refusal_within reason (of_reader is) = rw is refl
refusal_within reason (of_line_length is) = rw is refl
refusal_within reason (of_line_count is) = rw is refl

reply_within : (reply : Reply) → IsListReply reply → IsWithinLists reply
reply_within (Refused reason) fine = refusal_within reason fine
reply_within _ fine = tt

pub list_never : (state : State) (desk : DeskState) (input : Input) (mode : OnRefusal) (mishaps : List (Option Mishap)) → Path request_turn (Befalls IsNoMemory) (settled state) (session request_turn (settled state) input mode mishaps).exchanges desk → All IsWithinLists (replies (session request_turn (settled state) input mode mishaps))
list_never state desk input mode mishaps path = All-weaker IsListReply IsWithinLists reply_within (replies (session request_turn (settled state) input mode mishaps)) (list_replies state desk input mode mishaps path)
