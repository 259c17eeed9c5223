-- Runs of the program are scripts and atomic files.
use Rattle.std.proofs.Common.{◌≡◌, ℕ, Bool, false, List, [], ◌∷◌, ◌++◌, Option, Some, None, Result, Ok, refl, sym, ap, ◌∙◌, subst}
use Rattle.std.specs.Prelude.{⊤}
use Rattle.prt_refusals.specs.declared.on_refusal.OnRefusal.TheVariants.{Stop}
use Rattle.prt_refusals.specs.declared.refusal.Refusal.{Refusal}
use Rattle.prt_command.specs.Reading.{reading}
use Rattle.prt_command.specs.declared.request.Command.{Command}
use Rattle.prt_command.specs.declared.request.Request.{Request}
use Rattle.prt_command.specs.declared.request.Request.TheVariants as requests
use Rattle.prt_session.proofs.Length.{session_taken}
use Rattle.prt_session.specs.Atomic.{after_reading, collect_turn, collected}
use Rattle.prt_session.specs.Desk.{Befalls, DeskState, Mishap, command_or_refusal, commit_kept, request_turn, settled, shut, submit}
use Rattle.prt_session.specs.Session.{Exchange, LineMay, MayOn, Turn, line_turn, turn_on}
use Rattle.prt_replies.specs.declared.reply.Reply.{Reply}
use Rattle.prt_version.specs.Change.{apply, refusal}
use Rattle.prt_version.specs.State.{State, opening_state}
use Rattle.prt_args.specs.declared.task.Mode.TheVariants.{InTurn, Together}
use Rattle.prt_laws.specs.Desks.{Does, Exchanges, Sessions, accepted_in, request_acks}
use Rattle.prt_laws.specs.Works.{FileEnds, Follow, Ran, RefusedFileDoesNothing, RunIsWork, RunsHold, StopIsWork, cut_short, work_of, works_of}
use Rattle.prt_laws.proofs.Files.{sessions_hold}

pub run_is_work : RunIsWork
run_is_work (InTurn on_refusal) before after reader0 reader writer0 writer end run = run.path
run_is_work Together before after reader0 reader writer0 writer end run = (refl, run.leaves)

-- ---- a run that was stopped

module _ (line : List ℕ) (command : Command) (reads : reading line ≡ Ok (Some (requests.Command command))) where
  -- the turn of a command that was stored and not heard of
  cut_turn : (mid : DeskState) → mid.closed ≡ false → refusal mid.published command ≡ None → line_turn request_turn mid line (Some commit_kept) ≡ submit mid command (Some commit_kept)
  unfolding line_turn
  cut_turn mid open_is accepted =
      ap (λ (asked : Result (Option Request) Refusal). turn_on request_turn mid asked (Some commit_kept)) reads
      ∙ ap (λ (closed : Bool). command_or_refusal mid command closed (refusal mid.published command) (Some commit_kept)) open_is
      ∙ ap (λ (reason : Option Refusal). command_or_refusal mid command false reason (Some commit_kept)) accepted

  may_be_cut : (mid : DeskState) → LineMay (Befalls (λ mishap. ⊤)) mid line (Some commit_kept)
  unfolding LineMay
  may_be_cut mid = subst (λ (asked : Result (Option Request) Refusal). MayOn (Befalls (λ mishap. ⊤)) mid asked (Some commit_kept)) (sym reads) tt

  one_more : (before mid : DeskState) (xs : List (Exchange Mishap)) → Exchanges before xs mid → mid.closed ≡ false → refusal mid.published command ≡ None
      → Exchanges before (xs ++ cut_short line ∷ []) (shut mid (apply mid.published command))
  one_more before mid [] same open_is accepted =
      let turn = cut_turn mid open_is accepted in
      subst (λ (d : DeskState). Exchanges d (cut_short line ∷ []) (shut mid (apply mid.published command))) same
      (may_be_cut mid, sym (ap (λ (t : Turn DeskState). t.reply) turn), sym (ap (λ (t : Turn DeskState). t.desk) turn))
  one_more before mid (x ∷ xs) path open_is accepted = (path.0, path.1, one_more (line_turn request_turn before x.line x.mishap).desk mid xs path.2 open_is accepted)

  -- it acknowledges nothing
  none_more : (xs : List (Exchange Mishap)) → accepted_in (xs ++ cut_short line ∷ []) ≡ accepted_in xs
  none_more [] = ap (λ (asked : Result (Option Request) Refusal). request_acks asked (cut_short line).reply ++ []) reads
  none_more (x ∷ xs) = ap (λ acks. request_acks (reading x.line) x.reply ++ acks) (none_more xs)

pub stop_is_work : StopIsWork
stop_is_work before mid xs path open_is line command reads accepted = (one_more line command reads before mid xs path open_is accepted, none_more line command reads xs)

-- ---- an atomic file

pub file_ends : FileEnds
file_ends input mishaps = session_taken collect_turn [] input Stop mishaps

pub refused_file_does_nothing : RefusedFileDoesNothing
refused_file_does_nothing desk input mishaps mishap refused is =
    let Made = λ (found : Option Reply). after_reading desk found (collected input mishaps).desk mishap in
    (ap (λ (found : Option Reply). (Made found).replies) is, ap (λ (found : Option Reply). (Made found).desk) is)

-- ---- one run after another

follow_on : (rans : List Ran) (stored found : State) → Follow stored rans found → Sessions stored (works_of rans) found
follow_on [] stored found is = is
follow_on (ran ∷ rans) stored found follows =
    let after = ran.leaves.0 in
    let streams = ran.streams in
    let work = work_of ran.mode (settled ran.opened) after streams.input ran.reader streams.output_before streams.output_after ran.end ran.leaves.1 in
    let does = run_is_work ran.mode (settled ran.opened) after streams.input ran.reader streams.output_before streams.output_after ran.end ran.leaves.1 in (
      after,
      subst (λ (s : State). Does (settled s) work after) follows.0 does,
      subst (λ (s : State). Sessions s (works_of rans) found) (sym ran.leaves.2) (follow_on rans ran.found found follows.1),
    )

pub runs_hold : RunsHold
runs_hold rans found follows = let held = sessions_hold (works_of rans) found (follow_on rans opening_state found follows) in (held.0, held.1, held.3, held.4, held.5)
