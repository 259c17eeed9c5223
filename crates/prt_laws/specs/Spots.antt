-- Worlds that some list of events leads to, by how far they are with commands.
use Rattle.std.specs.Prelude.{◌≡◌, ℕ, ◌≤◌, ◌++◌, take, true, List}
use Rattle.prt_command.specs.declared.request.Command.{Command}
use Rattle.prt_published.specs.Line.{Line, line_state}
use Rattle.prt_version.specs.State.{State}
use Rattle.prt_replay.specs.Durability.{state_after}
use Rattle.prt_replay.specs.World as world
use Rattle.prt_replay.specs.World.{Phase as Moment, World, has_room, published_version, run_from, start}
use Rattle.prt_replay.specs.declared.event.Event.{Event}

-- some list of events leads there from a new database
abbrev pub IsReached : World → Type 0
IsReached w = (list : List Event) × (w ≡ run_from start list)

-- from their preparation to their note commands have room for one more retired version
abbrev pub HasRoom : World → Moment → Type 0
HasRoom w (world.Prepared commands done call) = has_room w ≡ true
HasRoom w (world.Committed commands) = has_room w ≡ true
HasRoom w (world.Published commands) = has_room w ≡ true
HasRoom w moment = Unit {0}

-- what is published, what is on disk, and how far the world is with commands
pub record Spot : Type 0 where
  pub line : Line
  pub disk : State
  pub moment : Moment

-- The line's commands are those that were accepted, from the state that was opened to the published version.
pub record IsTold (line : Line) (accepted : List Command) (published : ℕ) : Type 0 where
  pub low : line.base.count ≤ published
  pub base : line.base ≡ state_after accepted line.base.count
  pub list : take published accepted ≡ take line.base.count accepted ++ line.list

pub record IsAt (spot : Spot) (w : World) : Type 0 where
  pub reached : IsReached w
  pub moment : w.phase ≡ spot.moment
  pub disk : w.disk ≡ spot.disk
  pub shown : published_version w ≡ line_state spot.line
  pub told : IsTold spot.line w.accepted w.published
  pub room : HasRoom w spot.moment
