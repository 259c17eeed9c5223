-- What a world acknowledged and answered: no event except Ack yields an acknowledgement, and answers stay in its list.
use Rattle.std.proofs.Common.{◌≡◌, List, [], ◌∷◌, ◌++◌, sym, subst, Bool, true, false, Some, None, refl, cond, ℕ, ◌+◌, ◌-◌, ◌≤◌, length, ap, ◌∙◌, arith}
use Rattle.prt_version.specs.State.{State}
use Rattle.std.specs.List.{AllByRecursion as Each}
use Rattle.prt_replay.specs.Durability.{IsAcknowledged, IsAnswered}
use Rattle.prt_replay.specs.World.{Ack, Lookup, World, Phase as Moment, LookerState, Step, looker_state, offline, online, run_from, step, acks_after}
use Rattle.prt_replay.proofs.Claims.{acknowledged_of, answered_of, durable_of}
use Rattle.prt_replay.proofs.Phases.{Holds, Phased}
use Rattle.prt_laws.specs.Runs.{HoldsAll}
use Rattle.prt_rule.specs.declared.packet.Packet.{Packet}
use Rattle.prt_version.specs.declared.answer.Answer.{Answer}
use Rattle.prt_replay.specs.World as world
use Rattle.prt_replay.specs.declared.event.Event.{Event}
use Rattle.prt_replay.specs.declared.event.Event.TheVariants as events
use Rattle.prt_replay.specs.declared.outcome.Outcome.TheVariants as outcomes
use Rattle.prt_laws.proofs.Keeping.{most_keep, Keeps, unless_keeps}
use Rattle.std.proofs.lemmas.List.{append-nil}
use Rattle.prt_refusals.specs.declared.refusal.StoreCall.{StoreCall}
use Rattle.prt_command.specs.declared.request.Command.{Command}
use Rattle.prt_published.specs.Line.{Line, line_state}
use Rattle.prt_replay.specs.declared.event.Fate.{Fate}
use Rattle.prt_laws.specs.Events.{AsksSome, acks_to, commit_events, fail_events, is_lookers, own, stop_events}
use Rattle.prt_laws.specs.Spots.{IsAt}
use Rattle.prt_laws.proofs.Between.{stays_there}
use Rattle.prt_laws.proofs.Exits.{spot}
use Rattle.prt_laws.proofs.Woven.{calls_then, committed_then, heads, tails, by_own}
use Rattle.prt_laws.proofs.Steps.{number_of, phased_of}

pub each_last : {X : Type 0} (P : X → Type 0) (xs ys : List X) → Each P (xs ++ ys) → Each P ys
each_last P [] ys h = h
each_last P (x ∷ xs) ys h = each_last P xs ys h.1

-- in a world with these receipts, if its disk is left
pub holds_all : (w : World) (before receipts : List Ack) (answers : List Lookup) (left : State) → Holds w → left ≡ w.disk → w.acks ≡ before ++ receipts → (Each (IsAnswered w) w.answers → Each (IsAnswered w) answers) → HoldsAll w receipts answers left
holds_all w before receipts answers left holds is acks given = record {
  is = sym is;
  durable = durable_of w holds;
  acknowledged = each_last (IsAcknowledged w) before receipts (subst (λ (xs : List Ack). Each (IsAcknowledged w) xs) acks (acknowledged_of w holds));
  answered = given (answered_of w holds);
  all_answered = answered_of w holds;
}

pub each_first : {X : Type 0} (P : X → Type 0) (xs ys : List X) → Each P (xs ++ ys) → Each P xs
each_first P [] ys h = tt
each_first P (x ∷ xs) ys h = (h.0, each_first P xs ys h.1)

module _ (P : Lookup → Type 0) where
  -- what holds of each answer after the event held of each before it
  abbrev Had : World → Step → Type 0
  Had w s = Each P s.world.answers → Each P w.answers

  ack_had : (w : World) (moment : Moment) → Had w (world.acknowledge w moment)
  ack_had w (world.Noted commands) h = h
  ack_had w moment h = h

  look_had : (w : World) (packet : Packet) (state : LookerState) → Had w (world.look w packet state)
  look_had w packet offline h = h
  look_had w packet (online announced None) h = h
  look_had w packet (online announced (Some held)) h = each_first P w.answers (record { packet = packet; answer = world.answer_by (world.version w held) packet } ∷ []) h

  unless : (w : World) (s : Step) (b : Bool) → Had w s → Had w (cond b (world.unmet w) s)
  unless w s true had h = h
  unless w s false had h = had h

  event_had : (w : World) (event : Event) → Had w (step w event)
  event_had w events.Ack h = ack_had w w.phase h
  event_had w (events.Look at packet) h = unless w (world.look w packet (looker_state w at)) (world.is_stopped w.phase) (look_had w packet (looker_state w at)) h
  event_had w event h = subst (λ (answers : List Lookup). Each P answers) (most_keep (λ v. v.answers) (λ w accepted last disk pending moment published noted versions lookers. refl) w event refl) h

  pub list_had : (list : List Event) (w : World) → Each P (run_from w list).answers → Each P w.answers
  list_had [] w h = h
  list_had (event ∷ list) w h = event_had w event (list_had list (step w event).world h)

  -- ---- what a lookup shows is one of them

  look_shows : (w : World) (packet : Packet) (state : LookerState) (answer : Answer) → (world.look w packet state).outcome ≡ outcomes.Answered answer → Each P (world.look w packet state).world.answers → P (record { packet = packet; answer = answer })
  look_shows w packet offline answer is all = absurd cc
  look_shows w packet (online announced None) answer is all = absurd cc
  look_shows w packet (online announced (Some held)) answer is all =
      let given : world.answer_by (world.version w held) packet ≡ answer = cc in
      subst (λ (a : Answer). P (record { packet = packet; answer = a })) given (each_last P w.answers (record { packet = packet; answer = world.answer_by (world.version w held) packet } ∷ []) all).0

  pub unless_shows : (w : World) (packet : Packet) (state : LookerState) (answer : Answer) (b : Bool) → (cond b (world.unmet w) (world.look w packet state)).outcome ≡ outcomes.Answered answer → Each P (cond b (world.unmet w) (world.look w packet state)).world.answers → P (record { packet = packet; answer = answer })
  unless_shows w packet state answer true is all = absurd cc
  unless_shows w packet state answer false is all = look_shows w packet state answer is all

abbrev pub is_ack : Event → Bool
is_ack events.Ack = true
is_ack event = false

-- ---- their numbers

pub acks_from : (commands : List Command) (n last : ℕ) → last ≡ n + length commands → acks_after n commands ≡ acks_to last commands
acks_from [] n last is = refl
acks_from (command ∷ commands) n last is =
    let number : n + 1 ≡ last - length commands = omega (arith, is) in
    let rest : last ≡ n + 1 + length commands = omega (arith, is) in
    ap (λ k. record { number = k; command = command } ∷ acks_after (n + 1) commands) number ∙ ap (λ acks. record { number = last - length commands; command = command } ∷ acks) (acks_from commands (n + 1) last rest)

-- the last has the last number
pub acks_end : (commands : List Command) (last : ℕ) → length commands ≤ last → acks_after (last - length commands) commands ≡ acks_to last commands
acks_end commands last within = acks_from commands (last - length commands) last (omega (arith, within))

-- ---- events that yield none

look_keeps : (w : World) (packet : _) (state : LookerState) → Keeps (λ v. v.acks) w (world.look w packet state)
look_keeps w packet (online announced None) = refl
look_keeps w packet state = refl

pub event_keeps : (w : World) (event : Event) → is_ack event ≡ false → Keeps (λ v. v.acks) w (step w event)
event_keeps w events.Ack is = absurd cc
event_keeps w (events.Look at packet) is = unless_keeps (λ v. v.acks) w (world.look w packet (looker_state w at)) (world.is_stopped w.phase) (look_keeps w packet (looker_state w at))
event_keeps w event is = most_keep (λ v. v.acks) (λ w accepted last disk pending moment published noted versions lookers. refl) w event refl

pub lookers_none : (event : Event) → is_lookers event ≡ true → is_ack event ≡ false
lookers_none events.Ack is = absurd cc
lookers_none event is = refl

pub list_keeps : (list : List Event) → Each (λ event. is_ack event ≡ false) list → (w : World) → (run_from w list).acks ≡ w.acks ++ []
list_keeps [] none w = sym (append-nil w.acks)
list_keeps (event ∷ list) none w = list_keeps list none.1 (step w event).world ∙ ap (λ acks. acks ++ []) (event_keeps w event none.0)

pub asks_none : (event : Event) → AsksSome event → is_ack event ≡ false
asks_none events.Ack some = absurd (omega (arith, some))
asks_none event some = refl

pub failed_none : (commands : List Command) (call : StoreCall) (fate : Fate) → Each (λ event. is_ack event ≡ false) (fail_events commands call fate)
failed_none commands call fate = calls_then (λ event. is_ack event ≡ false) refl commands call (events.Fail fate ∷ []) (refl, tt)

pub stopped_none : (commands : List Command) (call : StoreCall) (fate : Fate) → Each (λ event. is_ack event ≡ false) (stop_events commands call fate)
stopped_none commands call fate = calls_then (λ event. is_ack event ≡ false) refl commands call (events.Stop fate ∷ []) (refl, tt)

pub committed_none : (commands : List Command) (rest : List Event) → Each (λ event. is_ack event ≡ false) rest → Each (λ event. is_ack event ≡ false) (commit_events commands ++ rest)
committed_none commands rest none = committed_then (λ event. is_ack event ≡ false) refl commands rest none

-- ---- whatever lookers do between

-- events that yield none
pub woven_keeps : (all list : List Event) → own all ≡ list → Each (λ event. is_ack event ≡ false) list → (w : World) → (run_from w all).acks ≡ w.acks
woven_keeps all list e none =
    by_own (λ all list. Each (λ event. is_ack event ≡ false) list → (w : World) → (run_from w all).acks ≡ w.acks) (λ _ w. refl)
    (λ event all is again none w. again none (step w event).world ∙ event_keeps w event (lookers_none event is))
    (λ event all is again none w. again none.1 (step w event).world ∙ event_keeps w event none.0)
    all (subst (λ (xs : List Event). Each (λ event. is_ack event ≡ false) xs) (sym e) none)

-- the acknowledgements of noted commands
pub woven_acks : (line : Line) (disk : State) (commands : List Command) (all : List Event) (w : World) → own all ≡ events.Ack ∷ [] → IsAt (spot line disk (world.Noted commands)) w
    → (run_from w all).acks ≡ w.acks ++ acks_to (line_state line).count commands
woven_acks line disk commands all w e h =
    by_own (λ all list. (w : World) → list ≡ events.Ack ∷ [] → IsAt (spot line disk (world.Noted commands)) w → (run_from w all).acks ≡ w.acks ++ acks_to (line_state line).count commands) (λ w e h. absurd cc)
    (λ event all is again w e h.
    again (step w event).world e (stays_there (spot line disk (world.Noted commands)) w event is h)
    ∙ ap (λ acks. acks ++ acks_to (line_state line).count commands) (event_keeps w event (lookers_none event is)))
    (λ event all is again w e h.
    let at : events.Ack ≡ event = heads event events.Ack (own all) [] e in
    let number = number_of (spot line disk (world.Noted commands)) w h in
    let phased : Phased w (world.Noted commands) = phased_of w (world.Noted commands) h.reached h.moment in
    let here : (step w events.Ack).world.acks ≡ w.acks ++ acks_to (line_state line).count commands =
    ap (λ (m : Moment). (world.acknowledge w m).world.acks) h.moment
    ∙ ap (λ acks. w.acks ++ acks) (acks_end commands w.published phased.0.within)
    ∙ ap (λ n. w.acks ++ acks_to n commands) (sym number) in
    woven_keeps all [] (tails event events.Ack (own all) [] e) tt (step w event).world ∙ subst (λ (ev : Event). (step w ev).world.acks ≡ w.acks ++ acks_to (line_state line).count commands) at here)
    all w e h
