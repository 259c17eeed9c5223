-- Events of lookers beside what a publisher stands for, and one list of events after another.
use Rattle.std.proofs.Common.{◌≡◌, Bool, true, false, List, [], ◌∷◌, ◌++◌, refl, sym, ap, ◌∙◌, subst, cond}
use Rattle.sqlite.specs.Held.{Held}
use Rattle.sqlite.specs.Store.{Ghosts}
use Rattle.prt_publisher.specs.Standing.{Standing}
use Rattle.prt_publisher.specs.declared.phase.Phase.{Phase}
use Rattle.prt_publisher.specs.declared.phase.Phase.TheVariants.{Admitted}
use Rattle.prt_replay.specs.World.{World, has_room, run_from, step}
use Rattle.prt_replay.specs.declared.event.Event.{Event}
use Rattle.prt_replay.specs.declared.outcome.Outcome.{Outcome}
use Rattle.prt_laws.specs.Events.{is_lookers, own, own_outcomes}
use Rattle.prt_laws.specs.Publishers.{Leads, LeadsTo, SawRoom, IsPublisherOf, moment_of}
use Rattle.prt_version.specs.State.{State}
use Rattle.prt_laws.proofs.Between.{room_stays, stays_there}
use Rattle.prt_laws.proofs.Exits.{spot, stands}
use Rattle.prt_laws.proofs.Steps.{run_more}
use Rattle.prt_laws.proofs.Woven.{heads, own_by, tails, by_own}

saw_stays : (phase : Phase) (w v : World) → (has_room w ≡ true → has_room v ≡ true) → SawRoom phase w → SawRoom phase v
saw_stays Admitted w v stays room = stays room
saw_stays phase w v stays room = tt

-- ---- lists of events in two parts

-- two lists, one after the other, with these own events
abbrev pub Parts : List Event → List Event → List Event → Type 0
Parts all first rest = (a : List Event) × (b : List Event) × (all ≡ a ++ b) × (own a ≡ first) × (own b ≡ rest)

pub split : (all first rest : List Event) → own all ≡ first ++ rest → Parts all first rest
split all [] rest e = ([], all, refl, refl, e)
split [] (x ∷ first) rest e = absurd cc
split (event ∷ all) (x ∷ first) rest e = by (is_lookers event) refl (λ f e. split all f rest e)
  where
    by : (b : Bool) → is_lookers event ≡ b → ((f : List Event) → own all ≡ f ++ rest → Parts all f rest) → Parts (event ∷ all) (x ∷ first) rest
    by true is again =
        let p = again (x ∷ first) (sym (own_by event all true is) ∙ e) in
        (event ∷ p.0, p.1, ap (λ xs. event ∷ xs) p.2, own_by event p.0 true is ∙ p.3, p.4)
    by false is again =
        let e' : event ∷ own all ≡ x ∷ (first ++ rest) = sym (own_by event all false is) ∙ e in
        let p = again first (tails event x (own all) (first ++ rest) e') in
        (event ∷ p.0, p.1, ap (λ xs. event ∷ xs) p.2, own_by event p.0 false is ∙ ap (λ xs. event ∷ xs) p.3 ∙ ap (λ y. y ∷ first) (sym (heads event x (own all) (first ++ rest) e')), p.4)

shown_more_by : (b : Bool) (o : Outcome) (xs ys zs : List Outcome) → xs ≡ ys ++ zs → cond b xs (o ∷ xs) ≡ cond b ys (o ∷ ys) ++ zs
shown_more_by true o xs ys zs is = is
shown_more_by false o xs ys zs is = ap (λ l. o ∷ l) is

pub shown_more : (w : World) (a b : List Event) → own_outcomes w (a ++ b) ≡ own_outcomes w a ++ own_outcomes (run_from w a) b
shown_more w [] b = refl
shown_more w (event ∷ a) b =
    let v : World = (step w event).world in
    shown_more_by (is_lookers event) (step w event).outcome (own_outcomes v (a ++ b)) (own_outcomes v a) (own_outcomes (run_from v a) b) (shown_more v a b)

shown_by : (w : World) (event : Event) (all : List Event) (b : Bool) → is_lookers event ≡ b → own_outcomes w (event ∷ all) ≡ cond b (own_outcomes (step w event).world all) ((step w event).outcome ∷ own_outcomes (step w event).world all)
shown_by w event all b is = ap (λ b. cond b (own_outcomes (step w event).world all) ((step w event).outcome ∷ own_outcomes (step w event).world all)) is

-- an event of the publisher's own shows its outcome
pub shown_own : (w : World) (event : Event) (all : List Event) → is_lookers event ≡ false → own_outcomes w (event ∷ all) ≡ (step w event).outcome ∷ own_outcomes (step w event).world all
shown_own w event all is = shown_by w event all false is

module _ {S : Type 0} (g : Ghosts S) where
  -- a publisher stands for a world after an event of a looker, too
  pub stands_beside : (p : Standing (Held S)) (w : World) (event : Event) → is_lookers event ≡ true → IsPublisherOf g p w → IsPublisherOf g p (step w event).world
  stands_beside p w event is s =
      stands g p (step w event).world w.disk (stays_there (spot p.line w.disk (moment_of p.phase p.commands)) w event is s.place) s.stored
      (saw_stays p.phase w (step w event).world (room_stays w event is s.place.reached) s.room)

  -- no event of its own
  pub idle : (p : Standing (Held S)) (w : World) → IsPublisherOf g p w → Leads g w [] [] p
  idle p w s all e =
      by_own (λ all list. (w : World) → IsPublisherOf g p w → list ≡ [] → (own_outcomes w all ≡ []) × IsPublisherOf g p (run_from w all)) (λ w s e. (refl, s))
      (λ event all is again w s e. let r = again (step w event).world (stands_beside p w event is s) e in (shown_by w event all true is ∙ r.0, r.1))
      (λ event all is again w s e. absurd cc)
      all w s e

  -- one event
  pub leads_by : (old new : Standing (Held S)) (event : Event) (shown : Outcome) → ((v : World) → IsPublisherOf g old v → ((step v event).outcome ≡ shown) × IsPublisherOf g new (step v event).world)
      → (w : World) → IsPublisherOf g old w → Leads g w (event ∷ []) (shown ∷ []) new
  leads_by old new event shown law w s all e =
      by_own (λ all list. (w : World) → IsPublisherOf g old w → list ≡ event ∷ [] → (own_outcomes w all ≡ shown ∷ []) × IsPublisherOf g new (run_from w all)) (λ w s e. absurd cc)
      (λ first all is again w s e. let r = again (step w first).world (stands_beside old w first is s) e in (shown_by w first all true is ∙ r.0, r.1))
      (λ first all is again w s e.
      let m : ((step w first).outcome ≡ shown) × IsPublisherOf g new (step w first).world = subst (λ (ev : Event). ((step w ev).outcome ≡ shown) × IsPublisherOf g new (step w ev).world) (heads first event (own all) [] e) (law w s) in
      let r = idle new (step w first).world m.1 all (tails first event (own all) [] e) in
      (shown_by w first all false is ∙ ap (λ o. o ∷ own_outcomes (step w first).world all) m.0 ∙ ap (λ os. shown ∷ os) r.0, r.1))
      all w s e

  -- one list of events after another, to a world of which that holds
  leads_there : (There : World → Type 0) (w : World) (mid : Standing (Held S)) (first rest : List Event) (shown others : List Outcome) → Leads g w first shown mid
      → ((v : World) → IsPublisherOf g mid v → (all : List Event) → own all ≡ rest → (own_outcomes v all ≡ others) × There (run_from v all)) → (all : List Event) → own all ≡ first ++ rest → (own_outcomes w all ≡ shown ++ others) × There (run_from w all)
  leads_there There w mid first rest shown others leads law all e =
      let p = split all first rest e in
      let r = leads p.0 p.3 in
      let v : World = run_from w p.0 in
      let t = law v r.1 p.1 p.4 in
      let out : own_outcomes w (p.0 ++ p.1) ≡ shown ++ others = shown_more w p.0 p.1 ∙ ap (λ os. os ++ own_outcomes v p.1) r.0 ∙ ap (λ os. shown ++ os) t.0 in
      subst (λ (es : List Event). (own_outcomes w es ≡ shown ++ others) × There (run_from w es)) (sym p.2) (out, subst There (sym (run_more w p.0 p.1)) t.1)

  pub leads_then : (w : World) (mid last : Standing (Held S)) (first rest : List Event) (shown others : List Outcome) → Leads g w first shown mid → ((v : World) → IsPublisherOf g mid v → Leads g v rest others last)
      → Leads g w (first ++ rest) (shown ++ others) last
  leads_then w mid last first rest shown others leads law = leads_there (IsPublisherOf g last) w mid first rest shown others leads law

  -- and to one whose disk is that state
  pub leads_then_to : (w : World) (mid last : Standing (Held S)) (left : State) (first rest : List Event) (shown others : List Outcome) → Leads g w first shown mid → ((v : World) → IsPublisherOf g mid v → LeadsTo g v rest others last left)
      → LeadsTo g w (first ++ rest) (shown ++ others) last left
  leads_then_to w mid last left first rest shown others leads law all e =
      let there = leads_there (λ v. IsPublisherOf g last v × (v.disk ≡ left)) w mid first rest shown others leads (λ v s all e. let t = law v s all e in (t.0, (t.1, t.2))) all e in
      (there.0, there.1.0, there.1.1)
