-- The replies of a run over the plain desk.
use Rattle.std.proofs.Common.{◌≡◌, ℕ, ◌-◌, ◌==◌, ◌&&◌, nat_lt, false, not, List, [], ◌∷◌, drop, length, Option, Some, None, Result, Ok, Err, inl, inr, refl, subst}
use Rattle.std.proofs.lemmas.List.Elements.{All-append, All-cons, All-nil}
use Rattle.std.specs.List.{All}
use Rattle.prt_refusals.specs.declared.refusal.Refusal.{Refusal}
use Rattle.prt_refusals.specs.declared.refusal.Refusal.TheVariants.{LineTooLong, ReadFault, TooManyLines}
use Rattle.prt_command.specs.Lines.{Limits, Line}
use Rattle.prt_command.specs.Reading.{reading}
use Rattle.prt_command.specs.declared.request.Command.{Command}
use Rattle.prt_command.specs.declared.request.Request.{Request}
use Rattle.prt_command.specs.declared.request.Request.TheVariants as requests
use Rattle.prt_session.proofs.Length.{sides}
use Rattle.prt_session.specs.Desk.{Befalls, DeskState, IsNoMemory, Mishap, no_room, no_memory, store_fails, commit_kept, publication_fails, command_or_refusal, request_turn, settled}
use Rattle.prt_session.specs.Refusals.{IsListRefusal, IsListReply, of_line, of_command, of_memory, of_reader, of_line_length, of_line_count}
use Rattle.prt_replies.specs.Input.{Ending, end_of_input, read_fault, Input, is_fault}
use Rattle.prt_session.specs.Session.{TurnsOf, Turn, MayOn, LineMay, Path, Exchange, Session, at_ending, first_mishap, stops_after, line_turn, turn_on, session, session_lines, replies, replies_of}
use Rattle.prt_replies.specs.declared.reply.Reply.TheVariants.{Refused}
use Rattle.prt_refusals.specs.declared.on_refusal.OnRefusal.{OnRefusal}
use Rattle.prt_version.specs.Change.{refusal}
use Rattle.prt_version.specs.State.{State}

-- A turn that stays at a plain desk.
pub record IsListTurn (turn : Turn DeskState) : Type 0 where
  pub fine : IsListReply turn.reply
  pub next : State
  pub stays : turn.desk ≡ settled next

command_turn_by : (state : State) (command : Command) (mishap : Option Mishap) (reason : Option Refusal) → refusal state command ≡ reason → Befalls IsNoMemory (settled state) (requests.Command command) mishap → IsListTurn (command_or_refusal (settled state) command false reason mishap)
command_turn_by state command mishap (Some reason) e may = record { fine = of_command state command e; next = state; stays = refl }
command_turn_by state command None None e may = record { fine = tt; next = _; stays = refl }
command_turn_by state command (Some no_room) None e may = absurd (cc)
command_turn_by state command (Some no_memory) None e may = record { fine = of_memory refl; next = state; stays = refl }
command_turn_by state command (Some (store_fails call)) None e may = absurd (cc)
command_turn_by state command (Some commit_kept) None e may = absurd (cc)
command_turn_by state command (Some publication_fails) None e may = absurd (cc)

turn_by : (state : State) (line : List ℕ) (mishap : Option Mishap) (read : Result (Option Request) Refusal) → reading line ≡ read → MayOn (Befalls IsNoMemory) (settled state) read mishap → IsListTurn (turn_on request_turn (settled state) read mishap)
turn_by state line mishap (Err reason) e may = record { fine = of_line line e; next = state; stays = refl }
turn_by state line mishap (Ok None) e may = record { fine = tt; next = state; stays = refl }
turn_by state line mishap (Ok (Some (requests.Command command))) e may = command_turn_by state command mishap (refusal state command) refl may
turn_by state line None (Ok (Some (requests.Query query))) e may = record { fine = tt; next = state; stays = refl }
turn_by state line (Some no_room) (Ok (Some (requests.Query query))) e may = absurd (cc)
turn_by state line (Some no_memory) (Ok (Some (requests.Query query))) e may = record { fine = of_memory refl; next = state; stays = refl }
turn_by state line (Some (store_fails call)) (Ok (Some (requests.Query query))) e may = absurd (cc)
turn_by state line (Some commit_kept) (Ok (Some (requests.Query query))) e may = absurd (cc)
turn_by state line (Some publication_fails) (Ok (Some (requests.Query query))) e may = absurd (cc)

line_stays : (state : State) (line : List ℕ) (mishap : Option Mishap) → LineMay (Befalls IsNoMemory) (settled state) line mishap → IsListTurn (line_turn request_turn (settled state) line mishap)
unfolding line_turn LineMay
line_stays state line mishap may = turn_by state line mishap (reading line) refl may

path_replies : (state : State) (desk : DeskState) (xs : List (Exchange Mishap)) → Path request_turn (Befalls IsNoMemory) (settled state) xs desk → All IsListReply (replies_of xs)
path_replies state desk [] path = All-nil IsListReply
path_replies state desk (x ∷ xs) path =
    let turn = line_stays state x.line x.mishap path.0 in
    let rest : Path request_turn (Befalls IsNoMemory) (settled turn.next) xs desk = subst (λ (d : DeskState). Path request_turn (Befalls IsNoMemory) d xs desk) turn.stays path.2 in
    All-cons IsListReply x.reply (replies_of xs) (rw path.1 turn.fine) (path_replies turn.next desk xs rest)

one_fine : (reason : Refusal) → IsListRefusal reason → All IsListReply (Refused reason ∷ [])
one_fine reason fine = All-cons IsListReply (Refused reason) [] fine (All-nil IsListReply)

at_ending_fine : (ending : Ending) → All IsListReply (at_ending ending)
at_ending_fine end_of_input = All-nil IsListReply
at_ending_fine read_fault = one_fine ReadFault (of_reader refl)

last_fine : {D M : Type 0} (turn : TurnsOf D M) (limit : Limits) (mode : OnRefusal) (ending : Ending) (left : ℕ) (lines : List Line) (mishaps : List (Option M)) (desk : D) → All IsListReply (session_lines turn limit mode ending left lines mishaps desk).last
unfolding session_lines
last_fine turn limit mode ending left [] mishaps desk = at_ending_fine ending
last_fine {D} {M} turn limit mode ending left (line ∷ lines) mishaps desk =
    let after = line_turn turn desk line.content (first_mishap mishaps) in
    elim (sides (left == 0)) [
      | inl none ↦ rw none (one_fine TooManyLines (of_line_count refl))
      | inr some ↦ elim (sides (nat_lt limit.unended (length line.content))) [
        | inl long ↦ rw (some, long) (one_fine LineTooLong (of_line_length refl))
        | inr short ↦ elim (sides (not line.ended && is_fault ending)) [
          | inl cut ↦ rw (some, short, cut) (one_fine ReadFault (of_reader refl))
          | inr on ↦ elim (sides (stops_after mode after.reply)) [
            | inl stop ↦ rw (some, short, on, stop) (All-nil IsListReply)
            | inr go ↦ rw (some, short, on, go) (last_fine turn limit mode ending (left - 1) lines (drop 1 mishaps) after.desk)
          ]
        ]
      ]
    ]

pub list_replies : (state : State) (desk : DeskState) (input : Input) (mode : OnRefusal) (mishaps : List (Option Mishap)) → Path request_turn (Befalls IsNoMemory) (settled state) (session request_turn (settled state) input mode mishaps).exchanges desk → All IsListReply (replies (session request_turn (settled state) input mode mishaps))
unfolding session
list_replies state desk input mode mishaps path =
    let s : Session DeskState Mishap = session request_turn (settled state) input mode mishaps in
    All-append IsListReply (replies_of s.exchanges) s.last (path_replies state desk s.exchanges path) (last_fine request_turn _ mode input.ending _ _ mishaps (settled state))
