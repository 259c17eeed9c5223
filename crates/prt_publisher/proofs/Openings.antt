-- What an opening makes of a database, and what it leaves if it is refused.
use Rattle.std.proofs.Common.{◌≡◌, inl, inr, sym, subst, ◌∙◌, arith, Result, Ok, Err}
use Rattle.std.specs.Prelude.{IfOk, IsTrue}
use Rattle.sqlite.proofs.StateLemmas.{survives_then}
use Rattle.sqlite.specs.Effect.{Database, IsDatabase}
use Rattle.sqlite.specs.Held.{Held, state}
use Rattle.sqlite.specs.State.{HasCleanDisk, IsUnchanged, Survives}
use Rattle.sqlite.specs.Store.{Ghosts}
use Rattle.sqlite.specs.Tree.{Trees}
use Rattle.sqlite.specs.declared.error.Error.{Error}
use Rattle.prt_refusals.specs.Opening.{IsOpenRefusal}
use Rattle.prt_refusals.specs.declared.refusal.Refusal.{Refusal}
use Rattle.prt_refusals.specs.declared.refusal.Refusal.TheVariants.{Damaged, NoMemory}
use Rattle.prt_rows.specs.Effects.{AreEmpty}
use Rattle.prt_rows.specs.Format.{BeginsFormat2, IsFormat2, SuitsFormat2}
use Rattle.prt_store.specs.Adopted.{Adopts, AdoptsPart, IsSettled, LeavesPart}
use Rattle.prt_store.specs.Loaded.{StaysSettled}
use Rattle.prt_store.specs.Stored.{Stores, StoresFormat1}
use Rattle.prt_version.specs.Sound.{IsSound}
use Rattle.prt_version.specs.State.{State, opening_state}
use Rattle.prt_store.proofs.Exits.{found_is, is_stored}
use Rattle.prt_store.proofs.Openings.{part_of}
use Rattle.prt_store.proofs.Shown.{state_moved}
use Rattle.prt_store.proofs.Spelled.{stored_there}
use Rattle.prt_store.specs.Exits.{HasState, IsStored}
use Rattle.prt_store.specs.Openings.{MakesAndFills}
use Rattle.prt_store.specs.Shown.{ShowsState}
use Rattle.prt_publisher.specs.Openings.{HasOpened, HasRefused, Lasts, OpensOne, RefusesToOpen}
use Rattle.prt_publisher.specs.Standing.{Standing}

-- ---- adopted, and then loaded

module _ {S : Type 0} (g : Ghosts S) (was adopted loaded : Held S) (live : IsTrue (state g was).is_open → IsDatabase (state g was).now)
    (adopts : HasCleanDisk (state g adopted) → BeginsFormat2 (state g was).now.schema → Adopts (state g was).now (state g adopted).now) (crash : Lasts g was adopted)
    (suits : (SuitsFormat2 (state g was).now.schema → ⊥) → ⊥) (quiet : Survives (state g adopted) (state g loaded) (λ _. ⊥)) where
  lasts : Lasts g was loaded
  lasts begins =
      survives_then (state g was) (state g adopted) (state g loaded) (LeavesPart (state g was).now) (λ _. ⊥) (LeavesPart (state g was).now) (λ clean trees left. left) (λ clean trees none. absurd none)
      (crash begins) quiet

  clean_then : HasCleanDisk (state g loaded) → HasCleanDisk (state g adopted)
  clean_then clean = omega (arith, quiet.clean, clean)

  module _ (version : State) (sound : IsSound version)
      (does : HasCleanDisk (state g adopted) → MakesAndFills g was adopted)
      (shows : HasCleanDisk (state g loaded) → ShowsState g adopted version)
      (spells : HasCleanDisk (state g loaded) → IsFormat2 (state g adopted).now.schema → Stores (state g adopted).now version)
      (same : HasCleanDisk (state g loaded) → IsUnchanged (state g adopted) (state g loaded))
      (leaves : HasCleanDisk (state g adopted) → BeginsFormat2 (state g was).now.schema → (trees : Trees) → (state g adopted).may_leave trees → trees ≡ (state g adopted).now.trees)
      (still : HasCleanDisk (state g loaded) → IsDatabase (state g loaded).now) where
    stored_now : HasCleanDisk (state g loaded) → BeginsFormat2 (state g was).now.schema → Adopts (state g was).now (state g loaded).now × IsStored g loaded version
    stored_now clean begins =
        let before = clean_then clean in
        let made = adopts before begins in (
          subst (λ (db : Database). Adopts (state g was).now db) (sym (same clean).0.now_is) made,
          is_stored g adopted loaded version (spells clean made.tables) (same clean) (still clean) quiet (leaves before begins) clean,
        )

    -- the version is that of what the opening made of the file
    pub has_opened : HasOpened g was loaded version
    has_opened = record {
      sound = sound;
      suits = suits;
      does = λ clean. (adopted, does (clean_then clean), same clean);
      shown = λ clean. state_moved g loaded adopted (sym (same clean).0.now_is) version (shows clean);
      adopts = stored_now;
      found = λ clean is_open stored spelled.
          let held = stored_there (state g was).now stored (live is_open) spelled in
          let begins : BeginsFormat2 (state g was).now.schema = inr (inr (inr (inr held.tables))) in
          let now = stored_now clean begins in
          (begins, found_is (state g was).now version stored ((state g loaded).now, now.0, now.1.now) (live is_open) spelled);
      lasts = lasts;
    }

  -- tables that encode a state encode it once they are adopted, so their load finds no damage
  module _ (reason : Refusal) (left : Held S) (released : left ≡ loaded) (why : IsOpenRefusal reason)
      (keeps : HasCleanDisk (state g adopted) → (stored : State) → Stores (state g was).now stored → Stores (state g adopted).now stored)
      (former : HasCleanDisk (state g adopted) → (stored : State) → StoresFormat1 (state g was).now stored → Stores (state g adopted).now stored)
      (fresh : HasCleanDisk (state g adopted) → BeginsFormat2 (state g was).now.schema → AreEmpty (state g was).now → Stores (state g adopted).now opening_state)
      (settled : HasCleanDisk (state g adopted) → BeginsFormat2 (state g was).now.schema → IsSettled g adopted)
      (damaged : HasCleanDisk (state g loaded) → IsFormat2 (state g adopted).now.schema → reason ≡ Damaged → (stored : State) → Stores (state g adopted).now stored → ⊥)
      (stays : HasCleanDisk (state g loaded) → IsTrue (state g loaded).is_open → IsSettled g adopted → StaysSettled g adopted loaded) where
    -- what the file had is stored once it is adopted
    kept : HasCleanDisk (state g adopted) → IsTrue (state g was).is_open → (stored : State) → HasState (state g was).now stored → BeginsFormat2 (state g was).now.schema × Stores (state g adopted).now stored
    kept clean is_open stored (inl spelled) = let held = stored_there (state g was).now stored (live is_open) spelled in (inr (inr (inr (inr held.tables))), keeps clean stored held)
    kept clean is_open stored (inr (inl held)) = (inr (inr (inr held.tables)), former clean stored held)
    kept clean is_open stored (inr (inr empty)) = (empty.0, subst (Stores (state g adopted).now) (sym empty.2) (fresh clean empty.0 empty.1))

    pub load_refused : HasRefused g was left reason
    load_refused = subst (λ (conn : Held S). HasRefused g was conn reason) (sym released) (record {
      why = why;
      damaged = λ is clean is_open stored has.
          let before = clean_then clean in
          let held = kept before is_open stored has in
          damaged clean (adopts before held.0).tables is stored held.1;
      other_columns = λ others. absurd (suits others);
      part = λ clean is_open begins.
          let before = clean_then clean in
          subst (λ (db : Database). AdoptsPart (state g was).now db) (sym (stays clean is_open (settled before begins)).1) (part_of (state g was).now (state g adopted).now (adopts before begins));
      lasts = lasts;
    })

module _ {S : Type 0} (g : Ghosts S) (was made left : Held S) (reason : Refusal) where
  -- what was opened is returned
  pub memory_refused : (opened : State) → reason ≡ NoMemory → left ≡ made → HasOpened g was made opened → HasRefused g was left reason
  memory_refused opened is released made_so = subst (λ (conn : Held S). HasRefused g was conn reason) (sym released) (record {
    why = inr (inr is);
    damaged = λ damaged. absurd (let both : NoMemory ≡ Damaged = sym is ∙ damaged in cc);
    other_columns = λ others. absurd (made_so.suits others);
    part = λ clean _ begins. part_of (state g was).now (state g made).now (made_so.adopts clean begins).0;
    lasts = made_so.lasts;
  })

-- ---- what an open gives is found so

module _ {S : Type 0} (g : Ghosts S) (IsFound : Held S → Type 0) (opened : Result (Held S) Error) (found : IfOk opened IsFound) where
  found_so : (was : Held S) → opened ≡ Ok was → IsFound was
  found_so was is = subst (λ (r : Result (Held S) Error). IfOk r IsFound) is found

  pub opens_found : (made : Standing (Held S)) → OpensOne g (λ was. opened ≡ Ok was) made → OpensOne g IsFound made
  opens_found made one = record { was = one.was; found = found_so one.was one.found; format = one.format; opened = one.opened; begun = one.begun }

  pub refuses_found : (reason : Refusal) (left : Result (Held S) Error) → IfOk left (RefusesToOpen g (λ was. opened ≡ Ok was) reason) → IfOk left (RefusesToOpen g IsFound reason)
  refuses_found reason (Err error) one = tt
  refuses_found reason (Ok left) one = record { was = one.was; found = found_so one.was one.found; refused = one.refused }
