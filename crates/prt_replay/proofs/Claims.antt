-- What the invariant says in the words of the claims.
use Rattle.std.proofs.Common.{◌≡◌, ◌≤◌, Some, None, length, ap, ◌∙◌, arith}
use Rattle.std.specs.List.{AllByRecursion as Each}
use Rattle.std.proofs.lemmas.List.{take_all}
use Rattle.prt_addr.proofs.Each.{each_implies}
use Rattle.prt_version.specs.Change.{fold}
use Rattle.prt_version.specs.State.{opening_state}
use Rattle.prt_replay.specs.Durability.{IsAcknowledged, IsAnswered, IsDurable, IsRetained}
use Rattle.prt_replay.specs.World.{Ack, Lookup, LookerState, World, offline, online, published_version, reopened}
use Rattle.prt_replay.proofs.History.{IsAcked, IsAnswer, IsServed}
use Rattle.prt_replay.proofs.Phases.{Holds, reopened_holds, shown_version}

pub durable_of : (w : World) → Holds w → IsDurable w
durable_of w h = record {
  published_is_durable = h.counts.published_low;
  durable_is_accepted = h.counts.durable_low;
  all_or_none = h.counts.all_or_none;
  noted_is_published = h.counts.noted_low;
  all_are_noted = h.counts.all_noted;
  disk_is_prefix = h.counts.prefix;
  published_is_prefix = shown_version w h;
}

-- a database that is opened again has all accepted commands, and no more
pub reopened_of : (w : World) → Holds w → published_version (reopened w) ≡ fold opening_state (reopened w).accepted
reopened_of w h =
    let again : Holds (reopened w) = reopened_holds w h in
    let all : length (reopened w).accepted ≡ (reopened w).published = again.phased.all in
    shown_version (reopened w) again ∙ ap (fold opening_state) (take_all (reopened w).published (reopened w).accepted (omega arith))

acknowledged_by : (w : World) → Holds w → (ack : Ack) → IsAcked w.accepted w.published ack → IsAcknowledged w ack
acknowledged_by w h ack acked = let low : w.published ≤ w.disk.count = h.counts.published_low in record { counted = acked.counted; is_durable = omega (arith, acked.within); accepted = acked.command }

pub acknowledged_of : (w : World) → Holds w → Each (IsAcknowledged w) w.acks
acknowledged_of w h = each_implies (IsAcked w.accepted w.published) (IsAcknowledged w) (acknowledged_by w h) w.acks h.history.acked

answered_by : (w : World) → Holds w → (lookup : Lookup) → IsAnswer w.accepted w.published lookup → IsAnswered w lookup
answered_by w h lookup answered = let low : w.published ≤ w.disk.count = h.counts.published_low in record { is_durable = omega (arith, answered.within); verdict = answered.verdict }

pub answered_of : (w : World) → Holds w → Each (IsAnswered w) w.answers
answered_of w h = each_implies (IsAnswer w.accepted w.published) (IsAnswered w) (answered_by w h) w.answers h.history.answered

retained_by : (w : World) (looker : LookerState) → IsServed w.accepted w.published w.versions looker → IsRetained w looker
retained_by w offline served = tt
retained_by w (online announced None) served = tt
retained_by w (online announced (Some held)) served = (served.low, served.is_kept)

pub retained_of : (w : World) → Holds w → Each (IsRetained w) w.lookers
retained_of w h = each_implies (IsServed w.accepted w.published w.versions) (IsRetained w) (retained_by w) w.lookers h.history.served
