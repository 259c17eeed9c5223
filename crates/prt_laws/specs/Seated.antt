-- Where a looker of a service is in a world, and what its calls are there.
use Rattle.std.specs.Prelude.{◌≡◌, ◌<◌, ℕ, ◌==◌, Bool, true, false, not, List, length, Option, None, Some, IfSome}
use Rattle.std.specs.List.{AllByRecursion as Each}
use Rattle.prt_published.specs.Line.{Begins, Line, line_state}
use Rattle.prt_rule.specs.declared.packet.Packet.{Packet}
use Rattle.prt_service.specs.Look.{Look}
use Rattle.prt_version.specs.declared.answer.Answer.{Answer}
use Rattle.prt_replay.specs.World.{World, is_stopped, looker_state, offline, published_version, run_from, step}
use Rattle.prt_replay.specs.declared.event.Event.{Event}
use Rattle.prt_replay.specs.declared.event.Event.TheVariants as events
use Rattle.prt_replay.specs.declared.outcome.Outcome.TheVariants as outcomes
use Rattle.prt_laws.specs.Lookers.{seat}
use Rattle.prt_laws.specs.Spots.{IsAt, IsReached, Spot}

-- the number of the version that it holds
abbrev pub held_number : Option Line → Option ℕ
held_number None = None
held_number (Some line) = Some (line_state line).count

-- The world's looker of this number holds and has announced what that looker does. It has announced the number of what it holds; offline it holds nothing.
abbrev pub Seated : Look → ℕ → World → Type 0
Seated look i w = (look.announced ≡ held_number look.held) × (i < length w.lookers) × (looker_state w i ≡ seat look.announced (held_number look.held))

-- ---- what others do

-- an event of the publisher or of another looker, or a reclaim
abbrev pub is_others : ℕ → Event → Bool
is_others i (events.Online looker) = not (looker == i)
is_others i (events.Fetch looker) = not (looker == i)
is_others i (events.Announce looker) = not (looker == i)
is_others i (events.Offline looker) = not (looker == i)
is_others i (events.Look looker packet) = not (looker == i)
is_others i (events.Stop fate) = false
is_others i events.Reopen = false
is_others i event = true

abbrev pub Others : ℕ → List Event → Type 0
Others i list = Each (λ event. is_others i event ≡ true) list

-- the world runs, with this number's looker
abbrev pub Runs : World → Type 0
Runs w = is_stopped w.phase ≡ false

-- ---- the calls

-- brought online, and at its fetch
abbrev pub fetching : World → ℕ → List Event → List Event → World
fetching w i before between = run_from (step (run_from w before) (events.Online i)).world between

abbrev pub announcing_at : World → ℕ → List Event → List Event → List Event → World
announcing_at w i before between after = run_from (step (fetching w i before between) (events.Fetch i)).world after

-- A refresh is Online, Fetch and Announce, whatever others do before and between them: if the front handed out the version
-- that was published at its fetch, the looker holds that one then.
abbrev pub Refreshes : Look → Look → Type 0
Refreshes old new = (i : ℕ) (w : World) (before between after : List Event) → IsReached w → Seated old i w → Others i before → Others i between → Others i after
    → Runs (run_from w before) → Runs (fetching w i before between) → Runs (announcing_at w i before between after)
    → published_version (fetching w i before between) ≡ line_state new.known
    → Seated new i (step (announcing_at w i before between after) (events.Announce i)).world

-- One that was not fetched leaves the looker as it was: an offline one goes online and offline again.
abbrev pub RefreshesNot : Look → Look → Type 0
RefreshesNot old new = (i : ℕ) (w : World) (before between : List Event) → Seated old i w → Others i before → Others i between
    → (Seated new i (run_from w before))
    × (old.held ≡ None → Runs (run_from w before) → Runs (fetching w i before between) →
    Seated new i (step (fetching w i before between) (events.Offline i)).world)

-- to learn is no event
abbrev pub Learns : Look → Look → Type 0
Learns old new = (i : ℕ) (w : World) → Seated old i w → Seated new i w

-- one that is made can be any looker that is offline
abbrev pub IsMade : Look → Type 0
IsMade look = (i : ℕ) (w : World) → i < length w.lookers → looker_state w i ≡ offline → Seated look i w

-- to rest is Offline
abbrev pub Rests : Look → Look → Type 0
Rests old new = (i : ℕ) (w : World) → Seated old i w → Runs w → Seated new i (step w (events.Offline i)).world

-- To look is Look, with its answer, whenever the list of the version that it holds is a prefix of the published one.
abbrev pub Looks : Look → Packet → Answer → Type 0
Looks look packet answer = (i : ℕ) (spot : Spot) (w : World) → IsAt spot w → Seated look i w → Runs w → IfSome look.held (λ line. Begins line spot.line)
    → (step w (events.Look i packet)).outcome ≡ outcomes.Answered answer
