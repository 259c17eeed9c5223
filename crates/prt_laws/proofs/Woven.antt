-- Lists of a publisher's events, with the store calls of commands that are made together, whatever lookers do between them.
use Rattle.std.proofs.Common.{List, [], ◌∷◌, ◌++◌, subst, sym, ◌≡◌, Bool, true, false, not, refl, ap, ◌∙◌, cond, arith}
use Rattle.std.specs.List.{AllByRecursion as Each}
use Rattle.std.proofs.lemmas.List.{append-nil, append_assoc}
use Rattle.prt_refusals.specs.declared.refusal.StoreCall.{StoreCall}
use Rattle.prt_refusals.specs.declared.refusal.StoreCall.TheVariants as calls
use Rattle.prt_command.specs.declared.request.Command.{Command}
use Rattle.prt_replay.specs.declared.event.Event.{Event}
use Rattle.prt_replay.specs.declared.event.Event.TheVariants as events
use Rattle.prt_laws.specs.Events.{commit_events, events_before, write_events, AsksSome, is_lookers, own, own_outcomes}
use Rattle.prt_replay.specs.World.{World, run_from, step}
use Rattle.prt_replay.specs.declared.outcome.Outcome.{Outcome}
use Rattle.prt_laws.specs.Spots.{IsAt, Spot}
use Rattle.prt_laws.proofs.Between.{stays_there}
use Rattle.prt_laws.proofs.Steps.{Moves}

-- what holds of a call, and of each event that comes after them, holds of all
module _ (P : Event → Type 0) (one : P events.Call) where
  writes_then : (commands : List Command) (rest : List Event) → Each P rest → Each P (write_events commands ++ rest)
  writes_then [] rest each = each
  writes_then (command ∷ commands) rest each = (one, writes_then commands rest each)

  pub calls_then : (commands : List Command) (call : StoreCall) (rest : List Event) → Each P rest → Each P (events_before commands call ++ rest)
  calls_then commands calls.Begin rest each = each
  calls_then commands calls.Write rest each = (one, each)
  calls_then commands calls.Count rest each = (one, writes_then commands rest each)
  calls_then commands calls.Commit rest each = (one, subst (λ (xs : List Event). Each P xs) (sym (append_assoc (write_events commands) (events.Call ∷ []) rest)) (writes_then commands (events.Call ∷ rest) (one, each)))

  pub only_calls : (commands : List Command) (call : StoreCall) → Each P (events_before commands call)
  only_calls commands call = subst (λ (xs : List Event). Each P xs) (append-nil (events_before commands call)) (calls_then commands call [] tt)

  pub only_committed : (commands : List Command) → Each P (commit_events commands)
  only_committed commands = calls_then commands calls.Commit (events.Call ∷ []) (one, tt)

  pub committed_then : (commands : List Command) (rest : List Event) → Each P rest → Each P (commit_events commands ++ rest)
  committed_then commands rest each = subst (λ (xs : List Event). Each P xs) (sym (append_assoc (events_before commands calls.Commit) (events.Call ∷ []) rest)) (calls_then commands calls.Commit (events.Call ∷ rest) (one, each))

-- from each world of the first spot the events show this, and lead to one of the last
abbrev pub Goes : Spot → List Event → List Outcome → Spot → Type 0
Goes spot [] [] last = spot ≡ last
Goes spot (event ∷ list) (shown ∷ outcomes) last = (next : Spot) × ((w : World) → IsAt spot w → Moves w event shown next) × Goes next list outcomes last
Goes spot [] (shown ∷ outcomes) last = ⊥
Goes spot (event ∷ list) [] last = ⊥

abbrev pub Woven : World → List Event → List Outcome → Spot → Type 0
Woven w all shown last = (own_outcomes w all ≡ shown) × IsAt last (run_from w all)

-- a looker's event
aside : (w : World) (event : Event) (all : List Event) (shown : List Outcome) (last : Spot) → is_lookers event ≡ true → Woven (step w event).world all shown last → Woven w (event ∷ all) shown last
aside w event all shown last is rest = (ap (λ b. cond b (own_outcomes (step w event).world all) ((step w event).outcome ∷ own_outcomes (step w event).world all)) is ∙ rest.0, rest.1)

-- one of the publisher's
ahead : (w : World) (event : Event) (all : List Event) (first : Outcome) (shown : List Outcome) (last : Spot) → is_lookers event ≡ false → (step w event).outcome ≡ first → Woven (step w event).world all shown last → Woven w (event ∷ all) (first ∷ shown) last
ahead w event all first shown last is shows rest = (
  ap (λ b. cond b (own_outcomes (step w event).world all) ((step w event).outcome ∷ own_outcomes (step w event).world all)) is
      ∙ ap (λ o. o ∷ own_outcomes (step w event).world all) shows
      ∙ ap (λ os. first ∷ os) rest.0,
  rest.1,
)

abbrev IsWoven : List Event → Type 0
IsWoven all = (list : List Event) (shown : List Outcome) (spot last : Spot) (w : World) → own all ≡ list → Goes spot list shown last → IsAt spot w → Woven w all shown last

pub own_by : (event : Event) (all : List Event) (b : Bool) → is_lookers event ≡ b → own (event ∷ all) ≡ cond (not b) (event ∷ own all) (own all)
own_by event all b is = ap (λ b. cond (not b) (event ∷ own all) (own all)) is

-- what holds of no event holds of each list beside its own ones, if an event keeps it, of a looker or of the publisher
pub by_own : (P : List Event → List Event → Type 0) → P [] [] → ((event : Event) (all : List Event) → is_lookers event ≡ true → P all (own all) → P (event ∷ all) (own all))
    → ((event : Event) (all : List Event) → is_lookers event ≡ false → P all (own all) → P (event ∷ all) (event ∷ own all)) → (all : List Event) → P all (own all)
by_own P none beside next [] = none
by_own P none beside next (event ∷ all) = by (is_lookers event) refl (by_own P none beside next all)
  where
    by : (b : Bool) → is_lookers event ≡ b → P all (own all) → P (event ∷ all) (own (event ∷ all))
    by true is rest = subst (P (event ∷ all)) (sym (own_by event all true is)) (beside event all is rest)
    by false is rest = subst (P (event ∷ all)) (sym (own_by event all false is)) (next event all is rest)

pub asks_own : (event : Event) → AsksSome event → is_lookers event ≡ false
asks_own (events.Submit command) some = refl
asks_own (events.SubmitAll commands) some = refl
asks_own event some = absurd (omega (arith, some))

-- what an event submits comes first
pub own_asked : (event : Event) (all : List Event) → AsksSome event → own (event ∷ all) ≡ event ∷ own all
own_asked event all some = own_by event all false (asks_own event some)

-- a list of the publisher's own events
pub own_all : (list : List Event) → Each (λ event. is_lookers event ≡ false) list → own list ≡ list
own_all [] all = refl
own_all (event ∷ list) all = own_by event list false all.0 ∙ ap (λ xs. event ∷ xs) (own_all list all.1)

pub own_commit : (commands : List Command) → own (commit_events commands) ≡ commit_events commands
own_commit commands = own_all (commit_events commands) (only_committed (λ event. is_lookers event ≡ false) refl commands)

pub heads : (event first : Event) (all list : List Event) → event ∷ all ≡ first ∷ list → first ≡ event
heads event first all list is = cc

pub tails : (event first : Event) (all list : List Event) → event ∷ all ≡ first ∷ list → all ≡ list
tails event first all list is = cc

woven_own : (event : Event) (all : List Event) (list : List Event) (shown : List Outcome) (spot last : Spot) (w : World) → is_lookers event ≡ false → event ∷ own all ≡ list → Goes spot list shown last → IsAt spot w → IsWoven all → Woven w (event ∷ all) shown last
woven_own event all [] shown spot last w is e goes h rest = absurd cc
woven_own event all (first ∷ list) [] spot last w is e goes h rest = absurd goes
woven_own event all (first ∷ list) (o ∷ shown) spot last w is e goes h rest =
    let moves : Moves w event o goes.0 = subst (λ (ev : Event). Moves w ev o goes.0) (heads event first (own all) list e) (goes.1 w h) in
    ahead w event all o shown last is moves.0 (rest list shown goes.0 last (step w event).world (tails event first (own all) list e) goes.2 moves.1)

woven_by : (event : Event) (all : List Event) (b : Bool) → is_lookers event ≡ b → IsWoven all → IsWoven (event ∷ all)
woven_by event all true is rest list shown spot last w e goes h = aside w event all shown last is (rest list shown spot last (step w event).world (sym (own_by event all true is) ∙ e) goes (stays_there spot w event is h))
woven_by event all false is rest list shown spot last w e goes h = woven_own event all list shown spot last w is (sym (own_by event all false is) ∙ e) goes h rest

pub woven : (all : List Event) → IsWoven all
woven [] [] [] spot last w e goes h = (refl, subst (λ (s : Spot). IsAt s w) goes h)
woven [] [] (o ∷ shown) spot last w e goes h = absurd goes
woven [] (event ∷ list) shown spot last w e goes h = absurd cc
woven (event ∷ all) list shown spot last w e goes h = woven_by event all (is_lookers event) refl (woven all) list shown spot last w e goes h
