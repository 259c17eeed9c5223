-- What serving a session does.
use Rattle.std.specs.Prelude.{ℕ, ◌+◌, ◌*◌, ◌≤◌, List, Option, length}
use Rattle.prt_published.specs.Line.{Line}
use Rattle.prt_serve.specs.Lists.{Shows}
use Rattle.prt_serve.specs.Requests.{service_may, service_turn}
use Rattle.prt_session.specs.Run.{RunIs}
use Rattle.prt_session.specs.Session.{session}
use Rattle.prt_refusals.specs.declared.on_refusal.OnRefusal.TheVariants.{GoOn}
use Rattle.prt_replies.specs.declared.script_end.ScriptEnd.{ScriptEnd}

-- A session ran with force, what its exchanges show of the published list, and the most bytes that it takes: a million lines of
-- 65,537 bytes each, and one byte more.
pub record Serves (known0 known : Line) (reader0 reader writer0 writer : Option (List ℕ)) (end : ScriptEnd) : Type 0 where
  pub run : RunIs service_turn service_may GoOn known0 known reader0 reader writer0 writer end
  pub shows : Shows known0 known (session service_turn known0 run.input GoOn run.mishaps).exchanges
  pub ends : length run.input.bytes ≤ length (session service_turn known0 run.input GoOn run.mishaps).unread + (1000000 * 65537 + 1)
