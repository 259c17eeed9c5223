-- The commit of one change is that of several changes, of which there is one.
use Rattle.std.proofs.Common.{ℕ, Option, [], ◌∷◌, inl, inr, refl, sym, subst, arith}
use Rattle.sqlite.specs.Effect.{Database}
use Rattle.sqlite.specs.Held.{Held}
use Rattle.sqlite.specs.Store.{Ghosts}
use Rattle.sqlite.specs.declared.error.Error.{Error}
use Rattle.prt_refusals.specs.declared.refusal.StoreCall.{StoreCall}
use Rattle.prt_refusals.specs.declared.refusal.StoreCall.TheVariants.{Begin, Write, Count, Commit}
use Rattle.prt_version.specs.State.{State}
use Rattle.prt_version.specs.declared.change.Change.{Change}
use Rattle.prt_store.specs.Failures.{AllFailFor, FailsFor, RefusesOneOf, RefusesRows}
use Rattle.prt_store.specs.Made.{MakesChange, MakesChanges, WritesAll, WritesRows}
use Rattle.prt_store.specs.Next.{AreNext, IsNext}
use Rattle.prt_store.specs.Openings.{HasDone, begun_from}
use Rattle.prt_store.specs.Stops.{AllStoppedIn, MakesAllCalls, MakesCalls, StoppedIn, Writes, WritesEach}

pub next_one : (before : State) (made : Change) (number : ℕ) → IsNext before made number → AreNext before (made ∷ []) number
next_one before made number next = record { sound = next.sound; made = ((next.command, next.storable, next.makes), tt); counts = omega (arith, next.counts) }

module _ {S : Type 0} (g : Ghosts S) (made : Change) where
  wrote_one : (old new : Held S) → WritesAll g (made ∷ []) old new → WritesRows g made old new
  wrote_one old new did = subst (WritesRows g made old) (sym did.2) did.1

  refused_one : (error : Error) (old new : Held S) → RefusesOneOf g (made ∷ []) error old new → RefusesRows g made error old new
  refused_one error old new (inl refused) = refused
  refused_one error old new (inr more) = absurd more.2

  each_one : (old written : Held S) → WritesEach g (made ∷ []) old written → Writes g made old written
  each_one old written wrote = (wrote.0.0, (wrote_one (begun_from old) written wrote.1.0, wrote.1.1))

  all_wrote : (old written : Held S) → Writes g made old written → WritesEach g (made ∷ []) old written
  all_wrote old written wrote = ((wrote.0, tt), ((written, wrote.1.0, refl), wrote.1.1))

  module _ (number : ℕ) (old : Held S) where
    pub done_one : (db : Database) → HasDone g (MakesChanges g (made ∷ []) number) old db → HasDone g (MakesChange g made number) old db
    done_one db done = (done.0, (done.1.0, wrote_one (begun_from old) done.1.0 done.1.1, done.1.2), done.2)

    pub calls_one : (new : Held S) → MakesAllCalls g (made ∷ []) number old new → MakesCalls g made number old new
    calls_one new calls = record { written = calls.written; counted = calls.counted; write = each_one old calls.written calls.write; count = calls.count; commit = calls.commit }

    pub stopped_one : (call : StoreCall) (left : Held S) → AllStoppedIn g (made ∷ []) number old call left → StoppedIn g made number old call left
    stopped_one Begin left stopped = stopped
    stopped_one Write left stopped = stopped
    stopped_one Count left stopped = (stopped.0, each_one old stopped.0 stopped.1, stopped.2)
    stopped_one Commit left stopped = (stopped.0, each_one old stopped.0 stopped.1, stopped.2, stopped.3, stopped.4)

    pub fails_one : (call : StoreCall) (left : Held S) (failure : Option Error) → AllFailFor g (made ∷ []) number old call left failure → FailsFor g made number old call left failure
    fails_one Begin left failure fails = fails
    fails_one Write left failure fails = (fails.0, fails.1, λ clean. let refused = fails.2 clean in (refused.0, refused_one fails.0 (begun_from old) refused.0 refused.1))
    fails_one Count left failure fails = (fails.0, fails.1, λ clean. let why = fails.2 clean in (why.0, each_one old why.0 why.1, why.2, why.3))
    fails_one Commit left failure fails = (fails.0, fails.1, λ clean. let why = fails.2 clean in (why.0, each_one old why.0 why.1, why.2, why.3, why.4))

    -- and the other way
    pub all_stopped : (call : StoreCall) (left : Held S) → StoppedIn g made number old call left → AllStoppedIn g (made ∷ []) number old call left
    all_stopped Begin left stopped = stopped
    all_stopped Write left stopped = stopped
    all_stopped Count left stopped = (stopped.0, all_wrote old stopped.0 stopped.1, stopped.2)
    all_stopped Commit left stopped = (stopped.0, all_wrote old stopped.0 stopped.1, stopped.2, stopped.3, stopped.4)
