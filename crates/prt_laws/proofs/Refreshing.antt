-- A looker in a world, whatever others do, and what it is there to refresh, to rest or to look.
use Rattle.std.proofs.Common.{◌≡◌, ◌≢◌, ℕ, ◌<◌, Bool, true, false, not, List, [], ◌∷◌, Option, Some, None, length, get_or, refl, sym, ap, ◌∙◌, subst, arith, cond, ◌+◌, ◌≤◌, ◌++◌, Result, Ok, Err, take, length-append}
use Rattle.std.specs.Prelude.{◌==◌, IfSome}
use Rattle.std.proofs.lemmas.Bool.Decides.{nat_tests}
use Rattle.std.proofs.lemmas.List.{get_or-set_other, length-set, append_assoc, length-take-le, take-append-le, take-take, take_all}
use Rattle.prt_published.specs.Line.{Line, Begins, line_state}
use Rattle.prt_rule.specs.declared.packet.Packet.{Packet}
use Rattle.prt_service.specs.Look.{Look}
use Rattle.prt_replay.specs.World as world
use Rattle.prt_replay.specs.World.{LookerState, Step, World, looker_state, offline, online, run_from, step}
use Rattle.prt_replay.specs.declared.event.Event.{Event}
use Rattle.prt_replay.specs.declared.event.Event.TheVariants as events
use Rattle.prt_laws.specs.Lookers.{seat}
use Rattle.prt_laws.proofs.Looking.{runs, sits_there}
use Rattle.prt_laws.proofs.Scripts.{event_seats}
use Rattle.prt_laws.specs.Seated.{Others, Runs, Seated, held_number, is_others, IsMade, Learns, Looks, Refreshes, RefreshesNot, Rests, announcing_at, fetching}
use Rattle.prt_refusals.specs.declared.refusal.Refusal.{Refusal}
use Rattle.prt_command.specs.declared.request.Command.{Command}
use Rattle.prt_version.proofs.Folds.{fold_append, put_count}
use Rattle.prt_version.specs.Change.{apply, check, fold, put_if}
use Rattle.prt_version.specs.Select.{select}
use Rattle.prt_version.specs.State.{State, opening_state}
use Rattle.prt_version.specs.declared.answer.Answer.{Answer}
use Rattle.prt_version.specs.declared.change.Change.{Change}
use Rattle.prt_replay.specs.Durability.{state_after}
use Rattle.prt_replay.specs.declared.outcome.Outcome.TheVariants as outcomes
use Rattle.prt_replay.proofs.History.{IsServed}
use Rattle.prt_replay.proofs.Phases.{Holds, looker_served, version_kept}
use Rattle.prt_laws.proofs.Steps.{holds_of, number_of, reached_run, shown_number}
use Rattle.prt_laws.specs.Spots.{IsAt, IsReached, Spot}

-- ---- a looker's state

-- the looker of this number is there, in that state
abbrev pub At : ℕ → LookerState → World → Type 0
At i state w = (i < length w.lookers) × (looker_state w i ≡ state)

-- one that has announced the number of what it holds
abbrev pub seat_of : Option Line → LookerState
seat_of held = seat (held_number held) (held_number held)

pub at_seat : (look : Look) (i : ℕ) (w : World) → Seated look i w → At i (seat_of look.held) w
at_seat look i w s = (s.1, s.2 ∙ ap (λ told. seat told (held_number look.held)) s.0)

pub seated_at : (look : Look) (i : ℕ) (w : World) → look.announced ≡ held_number look.held → At i (seat_of look.held) w → Seated look i w
seated_at look i w is at = (is, at.0, at.1 ∙ sym (ap (λ told. seat told (held_number look.held)) is))

-- ---- others leave a looker where it is

other_by : (i j : ℕ) → not (j == i) ≡ true → i ≢ j
other_by i j is same = absurd (let e : j == i ≡ true = grind (arith, nat_tests) in let f : false ≡ true = ap not (sym e) ∙ is in cc)

-- another looker changes
aside : (i j : ℕ) (state new : LookerState) (w : World) → not (j == i) ≡ true → At i state w → At i state (world.with_looker w j new)
aside i j state new w is h = (
  subst (λ n. i < n) (sym (length-set w.lookers j new)) h.0,
  get_or-set_other w.lookers j i new offline (other_by i j is) ∙ h.1,
)

onlines : (i j : ℕ) (state : LookerState) (w : World) (past : LookerState) → not (j == i) ≡ true → At i state w → At i state (world.go_online w j past).world
onlines i j state w offline is h = aside i j state (online w.noted None) w is h
onlines i j state w (online told held) is h = h

fetches : (i j : ℕ) (state : LookerState) (w : World) (past : LookerState) → not (j == i) ≡ true → At i state w → At i state (world.fetch w j past).world
fetches i j state w offline is h = h
fetches i j state w (online told held) is h = aside i j state (online told (Some w.published)) w is h

announces : (i j : ℕ) (state : LookerState) (w : World) (past : LookerState) → not (j == i) ≡ true → At i state w → At i state (world.announce w j past).world
announces i j state w (online told (Some held)) is h = aside i j state (online held (Some held)) w is h
announces i j state w past is h = h

offlines : (i j : ℕ) (state : LookerState) (w : World) (past : LookerState) → not (j == i) ≡ true → At i state w → At i state (world.go_offline w j past).world
offlines i j state w offline is h = h
offlines i j state w (online told held) is h = aside i j state offline w is h

looked : (i : ℕ) (state : LookerState) (w : World) (packet : Packet) (past : LookerState) → At i state w → At i state (world.look w packet past).world
looked i state w packet (online told None) h = h
looked i state w packet past h = h

unless : (i : ℕ) (state : LookerState) (w : World) (s : Step) (b : Bool) → At i state w → At i state s.world → At i state (cond b (world.unmet w) s).world
unless i state w s true h there = h
unless i state w s false h there = there

same_lookers : (i : ℕ) (state : LookerState) (w : World) (s : Step) → s.world.lookers ≡ w.lookers → At i state w → At i state s.world
same_lookers i state w s is h = subst (λ (ls : List LookerState). (i < length ls) × (get_or ls i offline ≡ state)) (sym is) h

other : (i : ℕ) (state : LookerState) (w : World) (event : Event) → is_others i event ≡ true → At i state w → At i state (step w event).world
other i state w (events.Online j) is h = unless i state w (world.go_online w j (looker_state w j)) (world.is_stopped w.phase) h (onlines i j state w (looker_state w j) is h)
other i state w (events.Fetch j) is h = unless i state w (world.fetch w j (looker_state w j)) (world.is_stopped w.phase) h (fetches i j state w (looker_state w j) is h)
other i state w (events.Announce j) is h = unless i state w (world.announce w j (looker_state w j)) (world.is_stopped w.phase) h (announces i j state w (looker_state w j) is h)
other i state w (events.Offline j) is h = unless i state w (world.go_offline w j (looker_state w j)) (world.is_stopped w.phase) h (offlines i j state w (looker_state w j) is h)
other i state w (events.Look j packet) is h = unless i state w (world.look w packet (looker_state w j)) (world.is_stopped w.phase) h (looked i state w packet (looker_state w j) h)
other i state w events.Reclaim is h = unless i state w (world.reclaim w) (world.is_stopped w.phase) h h
other i state w (events.Stop fate) is h = absurd cc
other i state w events.Reopen is h = absurd cc
other i state w event is h = same_lookers i state w (step w event) (event_seats w event refl) h

pub others : (i : ℕ) (state : LookerState) (list : List Event) (w : World) → Others i list → At i state w → At i state (run_from w list)
others i state [] w all h = h
others i state (event ∷ list) w all h = others i state list (step w event).world all.1 (other i state w event all.0 h)

-- ---- its own events

module _ (i : ℕ) (w : World) (going : Runs w) where
  moves_to : (state : LookerState) (event : Event) (s : Step) → i < length w.lookers → step w event ≡ s → s.world ≡ world.with_looker w i state → At i state (step w event).world
  moves_to state event s within is there = subst (At i state) (sym (ap (λ (t : Step). t.world) is ∙ there)) (subst (λ n. i < n) (sym (length-set w.lookers i state)) within, sits_there w i state within)

  pub goes_online : At i offline w → At i (online w.noted None) (step w (events.Online i)).world
  goes_online h = moves_to (online w.noted None) (events.Online i) (world.go_online w i offline) h.0 (runs w (world.go_online w i (looker_state w i)) going ∙ ap (world.go_online w i) h.1) refl

  pub stays_online : (told : ℕ) (held : Option ℕ) → At i (online told held) w → At i (online told held) (step w (events.Online i)).world
  stays_online told held h =
      let is : step w (events.Online i) ≡ world.unmet w = runs w (world.go_online w i (looker_state w i)) going ∙ ap (world.go_online w i) h.1 in
      subst (λ (t : Step). At i (online told held) t.world) (sym is) h

  pub fetches_it : (told : ℕ) (held : Option ℕ) → At i (online told held) w → At i (online told (Some w.published)) (step w (events.Fetch i)).world
  fetches_it told held h = moves_to (online told (Some w.published)) (events.Fetch i) (world.fetch w i (online told held)) h.0 (runs w (world.fetch w i (looker_state w i)) going ∙ ap (world.fetch w i) h.1) refl

  pub announces_it : (told held : ℕ) → At i (online told (Some held)) w → At i (online held (Some held)) (step w (events.Announce i)).world
  announces_it told held h = moves_to (online held (Some held)) (events.Announce i) (world.announce w i (online told (Some held))) h.0 (runs w (world.announce w i (looker_state w i)) going ∙ ap (world.announce w i) h.1) refl

  pub goes_offline : (state : LookerState) → At i state w → At i offline (step w (events.Offline i)).world
  goes_offline offline h =
      let is : step w (events.Offline i) ≡ world.unmet w = runs w (world.go_offline w i (looker_state w i)) going ∙ ap (world.go_offline w i) h.1 in
      subst (λ (t : Step). At i offline t.world) (sym is) h
  goes_offline (online told held) h = moves_to offline (events.Offline i) (world.go_offline w i (online told held)) h.0 (runs w (world.go_offline w i (looker_state w i)) going ∙ ap (world.go_offline w i) h.1) refl

-- ---- refresh

-- after its Online the looker is online, with some announced number
abbrev IsUp : ℕ → World → Type 0
IsUp i w = (told : ℕ) × (held : Option ℕ) × At i (online told held) w

up : (i : ℕ) (held : Option Line) (w : World) → Runs w → At i (seat_of held) w → IsUp i (step w (events.Online i)).world
up i None w going h = (w.noted, None, goes_online i w going h)
up i (Some line) w going h =
    let number = (line_state line).count in
    (number, Some number, stays_online i w going number (Some number) h)

pub refreshes : (old new : Look) → new.held ≡ Some new.known → new.announced ≡ Some (line_state new.known).count → Refreshes old new
refreshes old new held announced i w before between after reached seated first second third going at_fetch at_announce shown =
    let a : World = run_from w before in
    let was = up i old.held a going (others i (seat_of old.held) before w first (at_seat old i w seated)) in
    let b : World = fetching w i before between in
    let mid = others i (online was.0 was.1) between (step a (events.Online i)).world second was.2 in
    let c : World = announcing_at w i before between after in
    let has = others i (online was.0 (Some b.published)) after (step b (events.Fetch i)).world third (fetches_it i b at_fetch was.0 was.1 mid) in
    let told = announces_it i c at_announce was.0 b.published has in
    let there : IsReached b = reached_run (step a (events.Online i)).world between (reached_run a (events.Online i ∷ []) (reached_run w before reached)) in
    let number : b.published ≡ (line_state new.known).count = sym (shown_number b there) ∙ ap (λ (state : State). state.count) shown in
    let is : online b.published (Some b.published) ≡ seat_of new.held = ap (λ n. online n (Some n)) number ∙ sym (ap seat_of held) in
    seated_at new i (step c (events.Announce i)).world (announced ∙ sym (ap held_number held)) (told.0, told.1 ∙ is)

pub refreshes_not : (old new : Look) → new.held ≡ old.held → new.announced ≡ old.announced → RefreshesNot old new
refreshes_not old new held announced i w before between seated first second =
    let agrees : new.announced ≡ held_number new.held = announced ∙ seated.0 ∙ sym (ap held_number held) in
    let same : seat_of old.held ≡ seat_of new.held = sym (ap seat_of held) in
    let a : World = run_from w before in
    let was = others i (seat_of old.held) before w first (at_seat old i w seated) in (
      seated_at new i a agrees (was.0, was.1 ∙ same),
      λ none going at_offline.
          let here : seat_of old.held ≡ offline = ap seat_of none in
          let on = goes_online i a going (was.0, was.1 ∙ here) in
          let mid = others i (online a.noted None) between (step a (events.Online i)).world second on in
          let off = goes_offline i (fetching w i before between) at_offline (online a.noted None) mid in
          seated_at new i (step (fetching w i before between) (events.Offline i)).world agrees (off.0, off.1 ∙ sym here ∙ same),
    )

pub rests : (old new : Look) → new.held ≡ None → new.announced ≡ None → Rests old new
rests old new none untold i w seated going =
    let off = goes_offline i w going (seat_of old.held) (at_seat old i w seated) in
    seated_at new i (step w (events.Offline i)).world (untold ∙ sym (ap held_number none)) (off.0, off.1 ∙ sym (ap seat_of none))

-- ---- learn, and a new looker

pub learns : (old new : Look) → new.held ≡ old.held → new.announced ≡ old.announced → Learns old new
learns old new held announced i w seated =
    let at = at_seat old i w seated in
    seated_at new i w (announced ∙ seated.0 ∙ sym (ap held_number held)) (at.0, at.1 ∙ sym (ap seat_of held))

pub made : (look : Look) → look.held ≡ None → look.announced ≡ None → IsMade look
made look none untold i w within off = seated_at look i w (untold ∙ sym (ap held_number none)) (within, off ∙ sym (ap seat_of none))

-- ---- look

counted_by : (state : State) (r : Result Change Refusal) → (put_if state r).count ≤ state.count + 1
counted_by state (Ok made) = omega (arith, put_count state made)
counted_by state (Err reason) = omega arith

-- the count rises by one a command at most
count_most : (state : State) (commands : List Command) → (fold state commands).count ≤ state.count + length commands
count_most state [] = omega arith
count_most state (command ∷ commands) =
    let first = counted_by state (check state command) in
    let rest = count_most (apply state command) commands in
    omega (arith, first, rest)

-- the numbers of a list that is a prefix of the published one: each of its commands was accepted
number_by : (base part rest all first last : ℕ) → first ≤ base + part → last ≤ first + rest → last ≡ all → all ≡ base + (part + rest) → (first ≡ base + part) × (first ≤ all)
number_by base part rest all first last low high is sum = (omega arith, omega arith)

module _ (spot : Spot) (w : World) (h : IsAt spot w) (line : Line) (begins : Begins line spot.line) where
  base_is : spot.line.base ≡ line.base
  base_is = begins.1

  abbrev rest : List Command
  rest = begins.2.0

  whole : line.list ++ rest ≡ spot.line.list
  whole = begins.2.1

  all_length : w.published ≡ line.base.count + (length line.list + length rest)
  all_length =
      let holds : Holds w = holds_of w h.reached in
      let b = spot.line.base.count in
      let low : b ≤ w.published = h.told.low in
      let high : w.published ≤ length w.accepted = omega (arith, holds.counts.published_low, holds.counts.durable_low) in
      let taken : length (take w.published w.accepted) ≡ w.published = length-take-le w.published w.accepted high in
      let first : length (take b w.accepted) ≡ b = length-take-le b w.accepted (omega arith) in
      let both : length (take w.published w.accepted) ≡ length (take b w.accepted) + length spot.line.list = ap length h.told.list ∙ length-append (take b w.accepted) spot.line.list in
      let parts : length spot.line.list ≡ length line.list + length rest = ap length (sym whole) ∙ length-append line.list rest in
      let same : b ≡ line.base.count = ap (λ (state : State). state.count) base_is in
      omega arith

  number_is : ((line_state line).count ≡ line.base.count + length line.list) × ((line_state line).count ≤ w.published)
  number_is =
      let full : line_state spot.line ≡ fold (line_state line) rest = ap (λ (state : State). fold state spot.line.list) base_is ∙ ap (fold line.base) (sym whole) ∙ fold_append line.base line.list rest in
      let last : (fold (line_state line) rest).count ≡ w.published = sym (ap (λ (state : State). state.count) full) ∙ number_of spot w h in
      number_by line.base.count (length line.list) (length rest) w.published (line_state line).count (fold (line_state line) rest).count (count_most line.base line.list) (count_most (line_state line) rest) last all_length

  -- the version that the list leads to is the state after so many accepted commands
  pub state_is : line_state line ≡ state_after w.accepted (line_state line).count
  state_is =
      let n = (line_state line).count in
      let b = spot.line.base.count in
      let xs = take b w.accepted ++ line.list in
      let holds : Holds w = holds_of w h.reached in
      let same : b ≡ line.base.count = ap (λ (state : State). state.count) base_is in
      let low : b ≤ w.published = h.told.low in
      let high : w.published ≤ length w.accepted = omega (arith, holds.counts.published_low, holds.counts.durable_low) in
      let first : length (take b w.accepted) ≡ b = length-take-le b w.accepted (omega arith) in
      let long : length xs ≡ length (take b w.accepted) + length line.list = length-append (take b w.accepted) line.list in
      let count : n ≡ line.base.count + length line.list = number_is.0 in
      let within : n ≤ w.published = number_is.1 in
      let taken : take n w.accepted ≡ xs =
      sym (take-take n w.published w.accepted within)
      ∙ ap (take n) (h.told.list ∙ ap (λ l. take b w.accepted ++ l) (sym whole) ∙ sym (append_assoc (take b w.accepted) line.list rest))
      ∙ take-append-le n xs rest (omega arith)
      ∙ take_all n xs (omega arith) in
      sym (
      ap (fold opening_state) taken
      ∙ fold_append opening_state (take b w.accepted) line.list
      ∙ ap (λ (state : State). fold state line.list) (sym h.told.base ∙ base_is)
      )

answer_is : (answer : Answer) (line : Line) (packet : Packet) → answer.number ≡ (line_state line).count → answer.verdict ≡ select (line_state line) packet → world.answer_by (line_state line) packet ≡ answer
answer_is answer line packet number verdict = sym (ap (λ n. record { number = n; verdict = answer.verdict }) number ∙ ap (λ v. record { number = (line_state line).count; verdict = v }) verdict)

pub looks_by : (held : Option Line) (packet : Packet) (answer : Answer) (i : ℕ) (spot : Spot) (w : World) → IsAt spot w → At i (seat_of held) w → Runs w → (line : Line) → held ≡ Some line → Begins line spot.line
    → answer.number ≡ (line_state line).count → answer.verdict ≡ select (line_state line) packet → (step w (events.Look i packet)).outcome ≡ outcomes.Answered answer
looks_by held packet answer i spot w h seated going line is begins number verdict =
    let n = (line_state line).count in
    let at : world.looker_state w i ≡ online n (Some n) = seated.1 ∙ ap seat_of is in
    let served : IsServed w.accepted w.published w.versions (online n (Some n)) = subst (IsServed w.accepted w.published w.versions) at (looker_served w i (holds_of w h.reached)) in
    let to : step w (events.Look i packet) ≡ world.look w packet (online n (Some n)) = runs w (world.look w packet (world.looker_state w i)) going ∙ ap (world.look w packet) at in
    let version : world.version w n ≡ line_state line = version_kept w n (state_after w.accepted n) served.is_kept ∙ sym (state_is spot w h line begins) in
    ap (λ (t : Step). t.outcome) to ∙ ap (λ (state : State). outcomes.Answered (world.answer_by state packet)) version ∙ ap outcomes.Answered (answer_is answer line packet number verdict)

pub looks : (look : Look) (packet : Packet) (answer : Answer) (held : Option Line) → look.held ≡ held → IfSome held (λ line. answer.number ≡ (line_state line).count) → IfSome held (λ line. answer.verdict ≡ select (line_state line) packet) → (held ≡ None → ⊥) → Looks look packet answer
looks look packet answer None is number verdict some i spot w h seated going begins = absurd (some refl)
looks look packet answer (Some line) is number verdict some i spot w h seated going begins = looks_by look.held packet answer i spot w h (at_seat look i w seated) going line is (subst (λ o. IfSome o (λ line. Begins line spot.line)) is begins) number verdict
