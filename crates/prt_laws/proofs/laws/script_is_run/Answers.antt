use Rattle.prt_laws.proofs.Files.{file_is_run, sessions_hold}
use Rattle.prt_laws.proofs.Scripts.{desk_has_room, reopened_desk, script_is_run}
use Rattle.prt_laws.proofs.laws.script_is_run.Goals as goal

pub returns : goal.returns
returns c = record { run = script_is_run; file = file_is_run; room = desk_has_room; reopened = reopened_desk; sessions = sessions_hold }
