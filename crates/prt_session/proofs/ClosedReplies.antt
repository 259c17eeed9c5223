-- The replies of a run over a closed desk.
use Rattle.std.proofs.Common.{◌≡◌, ℕ, ◌-◌, ◌==◌, ◌&&◌, nat_lt, true, not, List, [], ◌∷◌, drop, length, Option, Some, None, Result, Ok, Err, inl, inr, refl, sym, ap, subst, ◌∙◌}
use Rattle.std.proofs.lemmas.List.Elements.{All-cons, All-nil}
use Rattle.std.specs.List.{All}
use Rattle.prt_refusals.specs.declared.refusal.Refusal.{Refusal}
use Rattle.prt_command.specs.Lines.{Limits, Line, limits, lines_of}
use Rattle.prt_command.specs.Reading.{reading}
use Rattle.prt_command.specs.declared.request.Query.{Query}
use Rattle.prt_command.specs.declared.request.Request.{Request}
use Rattle.prt_command.specs.declared.request.Request.TheVariants as requests
use Rattle.prt_session.proofs.Length.{sides}
use Rattle.prt_session.specs.Desk.{DeskState, Mishap, no_room, no_memory, store_fails, commit_kept, publication_fails, command_or_refusal, query_turn, request_turn}
use Rattle.prt_session.specs.Refusals.{IsClosedExchange}
use Rattle.prt_replies.specs.Input.{Ending, Input, is_fault}
use Rattle.prt_session.specs.Session.{Exchange, Session, exchange_of, first_mishap, stops_after, line_turn, turn_on, session, session_lines}
use Rattle.prt_refusals.specs.declared.on_refusal.OnRefusal.{OnRefusal}
use Rattle.prt_version.specs.Change.{refusal}

query_stays : (desk : DeskState) (query : Query) (mishap : Option Mishap) → (query_turn desk query mishap).desk ≡ desk
query_stays desk query None = refl
query_stays desk query (Some no_room) = refl
query_stays desk query (Some no_memory) = refl
query_stays desk query (Some (store_fails call)) = refl
query_stays desk query (Some commit_kept) = refl
query_stays desk query (Some publication_fails) = refl

module _ (desk : DeskState) (closed : desk.closed ≡ true) where
  turn_stays : (mishap : Option Mishap) (read : Result (Option Request) Refusal) → (turn_on request_turn desk read mishap).desk ≡ desk
  turn_stays mishap (Err reason) = refl
  turn_stays mishap (Ok None) = refl
  turn_stays mishap (Ok (Some (requests.Command command))) = ap (λ shut. (command_or_refusal desk command shut (refusal desk.published command) mishap).desk) closed
  turn_stays mishap (Ok (Some (requests.Query query))) = query_stays desk query mishap

  line_stays : (line : List ℕ) (mishap : Option Mishap) → (line_turn request_turn desk line mishap).desk ≡ desk
  unfolding line_turn
  line_stays line mishap = turn_stays mishap (reading line)

  line_refused : (line : List ℕ) (mishap : Option Mishap) → IsClosedExchange (exchange_of request_turn desk line mishap)
  unfolding line_turn
  line_refused line mishap command is =
      ap (λ read. (turn_on request_turn desk read mishap).reply) is ∙ ap (λ shut. (command_or_refusal desk command shut (refusal desk.published command) mishap).reply) closed

-- A session that stays at a closed desk.
pub record StaysClosed (desk : DeskState) (session : Session DeskState Mishap) : Type 0 where
  pub refuses : All IsClosedExchange session.exchanges
  pub same : session.desk ≡ desk

nothing_more : (desk : DeskState) (s : Session DeskState Mishap) → s.exchanges ≡ [] → s.desk ≡ desk → StaysClosed desk s
nothing_more desk s none same = record { refuses = subst (All IsClosedExchange) (sym none) (All-nil IsClosedExchange); same = same }

lines_stay : (limit : Limits) (mode : OnRefusal) (ending : Ending) (left : ℕ) (lines : List Line) (mishaps : List (Option Mishap)) (desk : DeskState) → desk.closed ≡ true → StaysClosed desk (session_lines request_turn limit mode ending left lines mishaps desk)
unfolding session_lines
lines_stay limit mode ending left [] mishaps desk closed = nothing_more desk _ refl refl
lines_stay limit mode ending left (line ∷ lines) mishaps desk closed =
    let x : Exchange Mishap = exchange_of request_turn desk line.content (first_mishap mishaps) in
    let after = line_turn request_turn desk line.content (first_mishap mishaps) in
    let refused = line_refused desk closed line.content (first_mishap mishaps) in
    let same = line_stays desk closed line.content (first_mishap mishaps) in
    elim (sides (left == 0)) [
      | inl none ↦ rw none (nothing_more desk _ refl refl)
      | inr some ↦ elim (sides (nat_lt limit.unended (length line.content))) [
        | inl long ↦ rw (some, long) (nothing_more desk _ refl refl)
        | inr short ↦ elim (sides (not line.ended && is_fault ending)) [
          | inl cut ↦ rw (some, short, cut) (nothing_more desk _ refl refl)
          | inr on ↦ elim (sides (stops_after mode after.reply)) [
            | inl stop ↦ rw (some, short, on, stop) (record { refuses = All-cons IsClosedExchange x [] refused (All-nil IsClosedExchange); same = same })
            | inr go ↦
                let rest = lines_stay limit mode ending (left - 1) lines (drop 1 mishaps) after.desk (ap (λ (d : DeskState). d.closed) same ∙ closed) in
                rw (some, short, on, go) (record { refuses = All-cons IsClosedExchange x _ refused rest.refuses; same = rest.same ∙ same })
          ]
        ]
      ]
    ]

pub closed_session : (desk : DeskState) (input : Input) (mode : OnRefusal) (mishaps : List (Option Mishap)) → desk.closed ≡ true → StaysClosed desk (session request_turn desk input mode mishaps)
unfolding session
closed_session desk input mode mishaps closed = lines_stay limits mode input.ending limits.lines (lines_of input.bytes) mishaps desk closed
