-- Sessions that were run over a desk.
use Rattle.std.proofs.Common.{◌≡◌, ◌∙◌, ℕ, List, Option, subst, sym}
use Rattle.prt_program.specs.Program.{RunsOn, SessionIs, exit_status, streams_of}
use Rattle.prt_session.specs.Desk.{DeskState, Mishap, settled}
use Rattle.prt_session.specs.Open.{IsOpenOn}
use Rattle.prt_session.specs.Stands.{Explained, StandsForSome}
use Rattle.prt_replies.specs.declared.script_end.ScriptEnd.{ScriptEnd}
use Rattle.prt_version.specs.State.{State, opening_state}
use Rattle.prt_args.specs.declared.task.Mode.{Mode}

-- what was run over a desk that stood for one state alone
pub runs_on : {X : Type 0} (stands : X → DeskState → Type 0) (may : Mishap → Type 0) (mode : Mode) (opened : State) (old new : X) (reader0 reader writer0 writer : Option (List ℕ)) (end : ScriptEnd) (status : ℕ)
    → IsOpenOn stands old opened
    → Explained stands old new (λ before after. SessionIs may mode before after reader0 reader writer0 writer end)
    → (StandsForSome stands old → StandsForSome stands new)
    → status ≡ exit_status end
    → RunsOn stands may mode opened new (streams_of reader0 writer0 writer) status
runs_on stands may mode opened old new reader0 reader writer0 writer end status is_open explained left is = record {
  reader = reader;
  end = end;
  left = left (settled opened, is_open.there);
  run = λ after stood.
      let found = explained after stood in
      subst (λ before. SessionIs may mode before after reader0 reader writer0 writer end) (is_open.alone found.0 found.1) found.2;
  status_is = is;
}

-- a desk in memory is opened with the opening state
pub opens_in_memory : (state : State) → settled state ≡ settled opening_state → IsOpenOn (λ desk after. after ≡ settled desk) state opening_state
opens_in_memory state is = record { there = sym is; alone = λ seen same. same ∙ is }
