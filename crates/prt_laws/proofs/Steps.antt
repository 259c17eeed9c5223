-- One event of a publisher's call.
use Rattle.std.proofs.Common.{◌≡◌, ℕ, ◌+◌, ◌≤◌, Bool, length, take, true, false, List, [], ◌∷◌, ◌++◌, Option, Some, None, refl, sym, ap, ◌∙◌, subst, arith}
use Rattle.prt_refusals.specs.declared.refusal.Refusal.{Refusal}
use Rattle.prt_refusals.specs.declared.refusal.Refusal.TheVariants as refusals
use Rattle.prt_refusals.specs.declared.refusal.StoreCall.{StoreCall}
use Rattle.prt_refusals.specs.declared.refusal.StoreCall.TheVariants as calls
use Rattle.prt_command.specs.declared.request.Command.{Command}
use Rattle.prt_published.specs.Line.{Line, grown_by, line_state}
use Rattle.prt_version.proofs.Folds.{fold_append, none_refused}
use Rattle.std.proofs.lemmas.List.{append-nil, append_assoc, take-append-le, take_all}
use Rattle.prt_version.specs.Accepted.{IsAccepted, refusal_all}
use Rattle.prt_version.specs.Change.{fold}
use Rattle.prt_version.specs.State.{State, opening_state}
use Rattle.prt_replay.specs.Durability.{state_after}
use Rattle.prt_replay.specs.World as world
use Rattle.prt_replay.specs.World.{Phase as Moment, Step, World, has_room, published_version, run_from, start, step}
use Rattle.prt_replay.specs.declared.event.Event.{Event}
use Rattle.prt_replay.specs.declared.event.Event.TheVariants as events
use Rattle.prt_replay.specs.declared.event.Fate.TheVariants.{Kept, Lost}
use Rattle.prt_replay.specs.declared.outcome.Outcome.{Outcome}
use Rattle.prt_replay.specs.declared.outcome.Outcome.TheVariants as outcomes
use Rattle.prt_replay.proofs.KeptVersions.{kept_count}
use Rattle.prt_replay.proofs.Phases.{Holds, Phased, every_run_holds, settled_version, shown_version}
use Rattle.prt_laws.specs.Events.{AsksSome, asked}
use Rattle.prt_laws.specs.Spots.{HasRoom, IsAt, IsReached, IsTold, Spot}

-- ---- worlds that are reached

pub run_more : (w : World) (list rest : List Event) → run_from w (list ++ rest) ≡ run_from (run_from w list) rest
run_more w [] rest = refl
run_more w (event ∷ list) rest = run_more (step w event).world list rest

pub reached_run : (w : World) (rest : List Event) → IsReached w → IsReached (run_from w rest)
reached_run w rest reached = (reached.0 ++ rest, ap (λ v. run_from v rest) reached.1 ∙ sym (run_more start reached.0 rest))

pub holds_of : (w : World) → IsReached w → Holds w
holds_of w reached = subst Holds (sym reached.1) (every_run_holds reached.0)

pub phased_of : (w : World) (moment : Moment) → IsReached w → w.phase ≡ moment → Phased w moment
phased_of w moment reached is = subst (Phased w) is (holds_of w reached).phased

-- the published version has the published number
pub shown_number : (w : World) → IsReached w → (published_version w).count ≡ w.published
shown_number w reached =
    let holds : Holds w = holds_of w reached in
    ap (λ state. state.count) (shown_version w holds) ∙ kept_count w.versions w.published (state_after w.accepted w.published) holds.history.top_kept

pub number_of : (spot : Spot) (w : World) → IsAt spot w → (line_state spot.line).count ≡ w.published
number_of spot w h = ap (λ state. state.count) (sym h.shown) ∙ shown_number w h.reached

-- ---- what an event submits

asked_step : (w : World) (event : Event) → AsksSome event → step w event ≡ world.submit w (asked event) w.phase
asked_step w (events.Submit command) some = refl
asked_step w (events.SubmitAll commands) some = refl
asked_step w event some = absurd (omega (arith, some))

submit_ready : (w : World) (commands : List Command) → 1 ≤ length commands → world.submit w commands world.Ready ≡ world.prepare w commands (refusal_all (published_version w) commands) (has_room w)
submit_ready w [] some = absurd (omega (arith, some))
submit_ready w (first ∷ more) some = refl

submit_closed : (w : World) (commands : List Command) → 1 ≤ length commands → world.submit w commands world.Closed ≡ record { world = w; outcome = outcomes.Refused refusals.Closed }
submit_closed w [] some = absurd (omega (arith, some))
submit_closed w (first ∷ more) some = refl

asked_ready : (w : World) (event : Event) → AsksSome event → w.phase ≡ world.Ready → step w event ≡ world.prepare w (asked event) (refusal_all (published_version w) (asked event)) (has_room w)
asked_ready w event some is = asked_step w event some ∙ ap (world.submit w (asked event)) is ∙ submit_ready w (asked event) some

pub asked_closed : (w : World) (event : Event) → AsksSome event → w.phase ≡ world.Closed → step w event ≡ record { world = w; outcome = outcomes.Refused refusals.Closed }
asked_closed w event some is = asked_step w event some ∙ ap (world.submit w (asked event)) is ∙ submit_closed w (asked event) some

-- ---- the commands of a line

le_through : (a b c : ℕ) → a ≤ b → b ≤ c → a ≤ c
le_through a b c low high = omega arith

told_more : (line : Line) (accepted : List Command) (published : ℕ) (commands : List Command) → published ≤ length accepted → IsTold line accepted published → IsTold line (accepted ++ commands) published
told_more line accepted published commands low h =
    let first : take line.base.count (accepted ++ commands) ≡ take line.base.count accepted = take-append-le line.base.count accepted commands (le_through line.base.count published (length accepted) h.low low) in
    record {
      low = h.low;
      base = h.base ∙ ap (fold opening_state) (sym first);
      list = take-append-le published accepted commands low ∙ h.list ∙ ap (λ xs. xs ++ line.list) (sym first);
    }

-- all accepted commands, which end with these
told_next : (line : Line) (accepted : List Command) (published durable : ℕ) (commands : List Command) → length accepted ≤ durable → published ≤ durable → accepted ≡ take published accepted ++ commands → IsTold line accepted published → IsTold (grown_by line commands) accepted durable
told_next line accepted published durable commands all more ends h = record {
  low = le_through line.base.count published durable h.low more;
  base = h.base;
  list = take_all durable accepted all ∙ ends ∙ ap (λ xs. xs ++ commands) h.list ∙ append_assoc (take line.base.count accepted) line.list commands;
}

-- a line that was just opened
pub told_opened : (line : Line) (accepted : List Command) (disk : State) → line.base ≡ disk → line.list ≡ [] → disk ≡ state_after accepted disk.count → IsTold line accepted disk.count
told_opened line accepted disk base list is =
    let same : disk.count ≡ line.base.count = ap (λ (s : State). s.count) (sym base) in
    subst (λ n. IsTold line accepted n) (sym same) (record {
      low = omega arith;
      base = base ∙ is ∙ ap (state_after accepted) same;
      list = sym (append-nil (take line.base.count accepted)) ∙ ap (λ xs. take line.base.count accepted ++ xs) (sym list);
    })

-- ---- where a reached world is

-- a list that begins with the published version
abbrev pub line_at : World → Line
line_at w = record { book = record { number = 0; log_name = 0; cells_name = 0 }; base = published_version w; list = [] }

pub placed : (w : World) (moment : Moment) → IsReached w → w.phase ≡ moment → HasRoom w moment → IsAt (record { line = line_at w; disk = w.disk; moment = moment }) w
placed w moment reached is room =
    let count = shown_number w reached in
    let base : published_version w ≡ state_after w.accepted (published_version w).count = shown_version w (holds_of w reached) ∙ ap (state_after w.accepted) (sym count) in
    record {
      reached = reached;
      moment = is;
      disk = refl;
      shown = refl;
      told = subst (λ n. IsTold (line_at w) w.accepted n) count (told_opened (line_at w) w.accepted (published_version w) refl refl base);
      room = room;
    }

-- ---- one event

-- the event shows this, and leads there
abbrev pub Moves : World → Event → Outcome → Spot → Type 0
Moves w event shown spot = ((step w event).outcome ≡ shown) × IsAt spot (step w event).world

pub moved : (w : World) (event : Event) (s : Step) (spot : Spot) → IsReached w → step w event ≡ s → s.world.phase ≡ spot.moment → s.world.disk ≡ spot.disk → published_version s.world ≡ line_state spot.line → IsTold spot.line s.world.accepted s.world.published → HasRoom s.world spot.moment → Moves w event s.outcome spot
moved w event s spot reached is moment disk shown told room =
    let there : IsReached (step w event).world = reached_run w (event ∷ []) reached in
    subst (λ (t : Step). IsReached t.world → (t.outcome ≡ s.outcome) × IsAt spot t.world) (sym is) (λ reached. (refl, record { reached = reached; moment = moment; disk = disk; shown = shown; told = told; room = room })) there

module _ (line : Line) (disk : State) (w : World) where
  abbrev pub Here : Moment → Type 0
  Here moment = IsAt (record { line = line; disk = disk; moment = moment }) w

  -- ---- what an event submits is checked

  asked_here : (event : Event) → AsksSome event → (first : Option Refusal) (room : Bool) → refusal_all (line_state line) (asked event) ≡ first → has_room w ≡ room → Here world.Ready → step w event ≡ world.prepare w (asked event) first room
  asked_here event some first room is has h =
      asked_ready w event some h.moment
      ∙ ap (λ (s : State). world.prepare w (asked event) (refusal_all s (asked event)) (has_room w)) h.shown
      ∙ ap (λ r. world.prepare w (asked event) r (has_room w)) is
      ∙ ap (world.prepare w (asked event) first) has

  pub takes : (event : Event) → AsksSome event → IsAccepted (line_state line) (asked event) → has_room w ≡ true → Here world.Ready
      → Moves w event (outcomes.Prepared ((line_state line).count + length (asked event))) (record { line = line; disk = disk; moment = world.Prepared (asked event) 0 calls.Begin })
  takes event some allowed room h =
      let commands = asked event in
      let is = asked_here event some None true (none_refused (line_state line) commands allowed) room h in
      let there : Spot = record { line = line; disk = disk; moment = world.Prepared commands 0 calls.Begin } in
      let number = number_of (record { line = line; disk = disk; moment = world.Ready }) w h in
      subst (λ n. Moves w event (outcomes.Prepared (n + length commands)) there) (sym number)
      (moved w event (world.prepare w commands None true) there h.reached is refl h.disk h.shown h.told room)

  pub refuses : (event : Event) (why : Refusal) → AsksSome event → refusal_all (line_state line) (asked event) ≡ Some why → Here world.Ready → Moves w event (outcomes.Refused why) (record { line = line; disk = disk; moment = world.Ready })
  refuses event why some refused h =
      let is = asked_here event some (Some why) (has_room w) refused refl h in
      moved w event (world.prepare w (asked event) (Some why) (has_room w)) (record { line = line; disk = disk; moment = world.Ready }) h.reached is h.moment h.disk h.shown h.told tt

  pub busy : (event : Event) → AsksSome event → IsAccepted (line_state line) (asked event) → has_room w ≡ false → Here world.Ready → Moves w event (outcomes.Refused refusals.Busy) (record { line = line; disk = disk; moment = world.Ready })
  busy event some allowed none h =
      let is = asked_here event some None false (none_refused (line_state line) (asked event) allowed) none h in
      moved w event (world.prepare w (asked event) None false) (record { line = line; disk = disk; moment = world.Ready }) h.reached is h.moment h.disk h.shown h.told tt

  pub shut : (event : Event) → AsksSome event → Here world.Closed → Moves w event (outcomes.Refused refusals.Closed) (record { line = line; disk = disk; moment = world.Closed })
  shut event some h =
      moved w event (record { world = w; outcome = outcomes.Refused refusals.Closed }) (record { line = line; disk = disk; moment = world.Closed }) h.reached (asked_closed w event some h.moment) h.moment h.disk h.shown h.told tt

  -- ---- store calls

  module _ (commands : List Command) where
    abbrev pub prepared : ℕ → StoreCall → Moment
    prepared done call = world.Prepared commands done call

    abbrev There : ℕ → StoreCall → Spot
    There done call = record { line = line; disk = disk; moment = world.Prepared commands done call }

    abbrev next : State
    next = fold (line_state line) commands

    pub begins : (done : ℕ) → Here (prepared done calls.Begin) → Moves w events.Call (outcomes.Called calls.Begin) (There 0 calls.Write)
    begins done h =
        let holds : Holds w = holds_of w h.reached in
        let low : w.published ≤ length w.accepted = le_through w.published w.disk.count (length w.accepted) holds.counts.published_low holds.counts.durable_low in
        moved w events.Call (world.call w (prepared done calls.Begin)) (There 0 calls.Write) h.reached (ap (world.call w) h.moment) refl h.disk h.shown (told_more line w.accepted w.published commands low h.told) h.room

    pub writes : (done : ℕ) → Here (prepared done calls.Write) → Moves w events.Call (outcomes.Called calls.Write) (There (done + 1) (world.call_after (done + 1) (length commands)))
    writes done h =
        moved w events.Call (world.call w (prepared done calls.Write)) (There (done + 1) (world.call_after (done + 1) (length commands))) h.reached (ap (world.call w) h.moment) refl h.disk h.shown h.told h.room

    pub counts : (done : ℕ) → Here (prepared done calls.Count) → Moves w events.Call (outcomes.Called calls.Count) (There (length commands) calls.Commit)
    counts done h = moved w events.Call (world.call w (prepared done calls.Count)) (There (length commands) calls.Commit) h.reached (ap (world.call w) h.moment) refl h.disk h.shown h.told h.room

    -- before the transaction the disk holds the published version
    pub disk_before : (done : ℕ) → Here (prepared done calls.Begin) → disk ≡ line_state line
    disk_before done h = sym h.disk ∙ sym (settled_version w (holds_of w h.reached) (phased_of w (prepared done calls.Begin) h.reached h.moment).0) ∙ h.shown

    -- what the open transaction holds before the commit
    pub pending : (done : ℕ) → Here (prepared done calls.Commit) → w.pending ≡ next
    pending done h =
        let holds : Holds w = holds_of w h.reached in
        let phased : Phased w (prepared done calls.Commit) = phased_of w (prepared done calls.Commit) h.reached h.moment in
        let settled : w.disk ≡ published_version w = holds.counts.prefix ∙ ap (state_after w.accepted) (sym phased.0.shown) ∙ sym (shown_version w holds) in
        phased.2 ∙ ap (λ (s : State). fold s commands) (settled ∙ h.shown)

    pub commits : (done : ℕ) → Here (prepared done calls.Commit) → Moves w events.Call (outcomes.Called calls.Commit) (record { line = line; disk = next; moment = world.Committed commands })
    commits done h =
        moved w events.Call (world.call w (prepared done calls.Commit)) (record { line = line; disk = next; moment = world.Committed commands }) h.reached (ap (world.call w) h.moment) refl (pending done h) h.shown h.told h.room

    -- ---- a store call fails

    pub loses : (done : ℕ) (call : StoreCall) → Here (prepared done call) → Moves w (events.Fail Lost) (outcomes.Refused (refusals.StoreFailed call)) (record { line = line; disk = disk; moment = world.Closed })
    loses done call h = moved w (events.Fail Lost) (world.fail w Lost (prepared done call)) (record { line = line; disk = disk; moment = world.Closed }) h.reached (ap (world.fail w Lost) h.moment) refl h.disk h.shown h.told tt

    pub keeps : (done : ℕ) → Here (prepared done calls.Commit) → Moves w (events.Fail Kept) (outcomes.Refused (refusals.StoreFailed calls.Commit)) (record { line = line; disk = next; moment = world.Closed })
    keeps done h =
        moved w (events.Fail Kept) (world.fail w Kept (prepared done calls.Commit)) (record { line = line; disk = next; moment = world.Closed }) h.reached (ap (world.fail w Kept) h.moment) refl (pending done h) h.shown h.told tt

    -- ---- the version of committed commands

    pub disk_after : Here (world.Committed commands) → w.disk ≡ next
    disk_after h =
        let holds : Holds w = holds_of w h.reached in
        let phased : Phased w (world.Committed commands) = phased_of w (world.Committed commands) h.reached h.moment in
        phased.after ∙ ap (λ (s : State). fold s commands) (sym (shown_version w holds) ∙ h.shown)

    -- one more version, above the noted one, takes no room
    pub publishes : Here (world.Committed commands) → HasRoom (world.publish w (world.Committed commands)).world (world.Published commands)
        → Moves w events.Publish (outcomes.Published (line_state (grown_by line commands)).count) (record { line = grown_by line commands; disk = disk; moment = world.Published commands })
    publishes h room =
        let grown : Line = grown_by line commands in
        let there : Spot = record { line = grown; disk = disk; moment = world.Published commands } in
        let after : World = (world.publish w (world.Committed commands)).world in
        let is : step w events.Publish ≡ world.publish w (world.Committed commands) = ap (world.publish w) h.moment in
        let reached : IsReached after = subst (λ (s : Step). IsReached s.world) is (reached_run w (events.Publish ∷ []) h.reached) in
        let holds : Holds after = holds_of after reached in
        let made : w.disk ≡ line_state grown = disk_after h ∙ sym (fold_append line.base line.list commands) in
        let shown : published_version after ≡ line_state grown = shown_version after holds ∙ sym holds.counts.prefix ∙ made in
        let phased : Phased w (world.Committed commands) = phased_of w (world.Committed commands) h.reached h.moment in
        let all : length w.accepted ≡ w.disk.count = phased.all in
        let told : IsTold grown w.accepted w.disk.count = told_next line w.accepted w.published w.disk.count commands (omega arith) (holds_of w h.reached).counts.published_low phased.ends h.told in
        subst (λ n. Moves w events.Publish (outcomes.Published n) there) (ap (λ state. state.count) made)
        (moved w events.Publish (world.publish w (world.Committed commands)) there h.reached is refl h.disk shown told room)

    pub publishes_not : Here (world.Committed commands) → Moves w events.PublishFail (outcomes.Refused refusals.NotPublished) (record { line = line; disk = disk; moment = world.Closed })
    publishes_not h =
        moved w events.PublishFail (world.fail_publication w (world.Committed commands)) (record { line = line; disk = disk; moment = world.Closed }) h.reached (ap (world.fail_publication w) h.moment) refl h.disk h.shown h.told tt

    pub notes : Here (world.Published commands) → Moves w events.Note (outcomes.Noted (line_state line).count) (record { line = line; disk = disk; moment = world.Noted commands })
    notes h =
        let number = number_of (record { line = line; disk = disk; moment = world.Published commands }) w h in
        subst (λ n. Moves w events.Note (outcomes.Noted n) (record { line = line; disk = disk; moment = world.Noted commands })) (sym number)
        (moved w events.Note (world.note w (world.Published commands)) (record { line = line; disk = disk; moment = world.Noted commands }) h.reached (ap (world.note w) h.moment) refl h.disk h.shown h.told tt)

    pub acknowledges : Here (world.Noted commands) → Moves w events.Ack (outcomes.Acknowledged (line_state line).count) (record { line = line; disk = disk; moment = world.Ready })
    acknowledges h =
        let number = number_of (record { line = line; disk = disk; moment = world.Noted commands }) w h in
        subst (λ n. Moves w events.Ack (outcomes.Acknowledged n) (record { line = line; disk = disk; moment = world.Ready })) (sym number)
        (moved w events.Ack (world.acknowledge w (world.Noted commands)) (record { line = line; disk = disk; moment = world.Ready }) h.reached (ap (world.acknowledge w) h.moment) refl h.disk h.shown h.told tt)
