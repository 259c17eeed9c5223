-- Runs of the program, as scripts and atomic files on one database.
use Rattle.std.specs.Prelude.{◌≡◌, ◌+◌, ◌*◌, ◌≤◌, ℕ, false, List, [], ◌∷◌, ◌++◌, length, map, Option, Some, None, Ok, ⊤}
use Rattle.std.specs.List.{AllByRecursion as Each}
use Rattle.prt_refusals.specs.declared.refusal.Refusal.TheVariants.{StoreFailed}
use Rattle.prt_refusals.specs.declared.refusal.StoreCall.TheVariants.{Commit}
use Rattle.prt_command.specs.Reading.{reading}
use Rattle.prt_command.specs.declared.request.Command.{Command}
use Rattle.prt_command.specs.declared.request.Request.TheVariants as requests
use Rattle.prt_program.specs.Program.{SessionIs, SessionLeaves, Streams}
use Rattle.prt_session.specs.Atomic.{atomic_output, collected}
use Rattle.prt_session.specs.Desk.{DeskState, Mishap, commit_kept, request_turn, settled, shut}
use Rattle.prt_replies.specs.Input.{Input}
use Rattle.prt_session.specs.Session.{Exchange, session}
use Rattle.prt_replies.specs.declared.reply.Reply.{Reply}
use Rattle.prt_replies.specs.declared.reply.Reply.TheVariants.{Refused}
use Rattle.prt_replies.specs.declared.script_end.ScriptEnd.{ScriptEnd}
use Rattle.prt_version.specs.Change.{apply, refusal}
use Rattle.prt_version.specs.State.{State, opening_state}
use Rattle.prt_args.specs.declared.task.Mode.{Mode}
use Rattle.prt_args.specs.declared.task.Mode.TheVariants.{InTurn, Together}
use Rattle.prt_replay.specs.Durability.{IsAnswered}
use Rattle.prt_replay.specs.World.{World}
use Rattle.prt_laws.specs.Desks.{Does, Exchanges, Work, WorkTells, accepted_by, accepted_in, file, reading_refused, script}
use Rattle.prt_laws.specs.Runs.{HoldsAll}
use Rattle.prt_laws.specs.Spots.{IsReached}

-- what a session did: the lines that it executed, or the file that it read
abbrev pub work_of : (mode : Mode) (before after : DeskState) (reader0 reader writer0 writer : Option (List ℕ)) (end : ScriptEnd) →
    SessionIs (λ mishap. ⊤) mode before after reader0 reader writer0 writer end → Work
work_of (InTurn on_refusal) before after reader0 reader writer0 writer end run = script (session request_turn before run.input on_refusal run.mishaps).exchanges
work_of Together before after reader0 reader writer0 writer end run =
    file run.input run.mishaps run.mishap (atomic_output before run.input run.mishaps run.mishap).replies

-- That is a script, or an atomic file, which leads from the desk that it began with to the one that it left.
abbrev pub RunIsWork : Type 0
RunIsWork = (mode : Mode) (before after : DeskState) (reader0 reader writer0 writer : Option (List ℕ)) (end : ScriptEnd)
    (run : SessionIs (λ mishap. ⊤) mode before after reader0 reader writer0 writer end)
    → Does before (work_of mode before after reader0 reader writer0 writer end run) after

-- a line whose command was stored, and that nobody heard of
abbrev pub cut_short : List ℕ → Exchange Mishap
cut_short line = record { line = line; mishap = Some commit_kept; reply = Refused (StoreFailed Commit) }

-- So are the lines of a script up to a stop, with one more if its command was stored: the commit was kept, and nothing was
-- replied. No more is acknowledged.
abbrev pub StopIsWork : Type 0
StopIsWork = (before mid : DeskState) (xs : List (Exchange Mishap)) → Exchanges before xs mid → mid.closed ≡ false
    → (line : List ℕ) (command : Command) → reading line ≡ Ok (Some (requests.Command command)) → refusal mid.published command ≡ None
    → Exchanges before (xs ++ cut_short line ∷ []) (shut mid (apply mid.published command)) × (accepted_in (xs ++ cut_short line ∷ []) ≡ accepted_in xs)

-- ---- an atomic file

-- Its reading takes at most 1,000,000 lines of 65,537 bytes each, and one byte more.
abbrev pub FileEnds : Type 0
FileEnds = (input : Input) (mishaps : List (Option Mishap)) → length input.bytes ≤ length (collected input mishaps).unread + (1000000 * 65537 + 1)

-- If its reading was refused, or failed, that is the one reply, and nothing was submitted.
abbrev pub RefusedFileDoesNothing : Type 0
RefusedFileDoesNothing = (desk : DeskState) (input : Input) (mishaps : List (Option Mishap)) (mishap : Option Mishap) (refused : Reply) →
    reading_refused input mishaps ≡ Some refused
    → ((atomic_output desk input mishaps mishap).replies ≡ refused ∷ []) × ((atomic_output desk input mishaps mishap).desk ≡ desk)

-- ---- one run after another

-- A session that the program ran, with the state that it began with and the one that was found of it later.
pub record Ran : Type 0 where
  pub mode : Mode
  pub opened : State
  pub streams : Streams
  pub reader : Option (List ℕ)
  pub end : ScriptEnd
  pub found : State
  pub leaves : SessionLeaves (λ mishap. ⊤) mode opened streams reader end found

-- each begins with what was found of the one before
abbrev pub Follow : State → List Ran → State → Type 0
Follow stored [] found = found ≡ stored
Follow stored (ran ∷ rans) found = (ran.opened ≡ stored) × Follow ran.found rans found

abbrev pub works_of : List Ran → List Work
works_of rans = map (λ (ran : Ran). work_of ran.mode
    (settled ran.opened) ran.leaves.0 ran.streams.input ran.reader ran.streams.output_before ran.streams.output_after ran.end ran.leaves.1) rans

-- What is found after any number of runs on a new database holds every command that their replies acknowledge, under its number,
-- and the version by which each `route get` was answered.
abbrev pub RunsHold : Type 0
RunsHold = (rans : List Ran) (found : State) → Follow opening_state rans found → (v : World) × IsReached v × (v.acks ≡ accepted_by (works_of rans))
    × HoldsAll v (accepted_by (works_of rans)) v.answers found × Each (WorkTells (IsAnswered v)) (works_of rans)
