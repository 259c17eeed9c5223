-- What a service leaves that was begun over an opened database.
use Rattle.std.proofs.Common.{◌≡◌, ◌≢◌, ℕ, All, List, [], Bool, true, false, Option, Some, None, if◌then◌else◌, inl, inr, refl, sym, ap, ◌∙◌}
use Rattle.std.proofs.lemmas.List.Elements.{All-nil}
use Rattle.logbook.specs.Pages.{Book}
use Rattle.sqlite.specs.Held.{Held}
use Rattle.sqlite.specs.Store.{Ghosts}
use Rattle.prt_published.specs.Line.{Line}
use Rattle.prt_publisher.specs.Openings.{OpensOne}
use Rattle.prt_publisher.specs.Standing.{Standing}
use Rattle.prt_refusals.specs.declared.refusal.Refusal.{Refusal}
use Rattle.prt_serve.specs.Kept.{Keeps, Work}
use Rattle.prt_serve.specs.declared.accept_loop.Accepting.{Accepting}
use Rattle.prt_serve.specs.declared.accept_loop.Accepting.TheVariants.{Ended, Failed, NoWorkers}
use Rattle.prt_service.specs.Named.{IsReleased}
use Rattle.prt_machine.specs.declared.database_opener.DatabaseOpener.{Ghosts as Opener}
use Rattle.prt_version.specs.State.{State}
use Rattle.prt_args.specs.Faults.{fault_status}
use Rattle.prt_args.specs.declared.fault.Fault.{Fault}
use Rattle.prt_args.specs.declared.fault.Fault.TheVariants.{Listener, Opening}
use Rattle.prt_args.specs.declared.fault.TheConstants.{FAULT}
use Rattle.prt_host.specs.Serving.{HasServed, IsFaultOfServing, IsLeft, IsNotServed, fault_of, is_listeners, looker_fault}

abbrev pub has_served : {S : Type 0} (g : Ghosts S) (IsFound : Held S → Type 0) (begun : Standing (Held S)) (last : Held S) (made : OpensOne g IsFound begun) (shifts : List Work) → IsLeft g begun.line.book begun.line.base begun.ours_first shifts last → HasServed g made.was last
has_served g IsFound begun last made shifts left = record {
  begun = begun;
  opens = record { was = made.was; found = refl; format = made.format; opened = made.opened; begun = made.begun };
  shifts = shifts;
  left = left;
}

-- nothing is said of any worker
pub left_alone : {S : Type 0} (g : Ghosts S) (book : Book) (base : State) (ours_first : Bool) (published : Line) (tables : Held S) → IsReleased g book base ours_first published tables → IsLeft g book base ours_first [] tables
left_alone g book base ours_first published tables released = record { published = published; released = released; kept = All-nil (Keeps published) }

-- ---- what a service left that was ended

module _ {S : Type 0} (g : Ghosts S) (book : Book) (base : State) (ours_first : Bool) (published : Line) (tables : Held S) (released : IsReleased g book base ours_first published tables) where
  -- the list is of its front
  pub of_book : published.book ≡ book
  of_book = ap (λ (l : Line). l.book) (sym released.line) ∙ released.named.0

  -- the shifts that this list keeps
  pub left_with : (shifts : List Work) → All (Keeps published) shifts → IsLeft g book base ours_first shifts tables
  left_with shifts kept = record { published = published; released = released; kept = kept }

-- ---- faults

-- if there is none, accepting did not fail, and no worker was refused its looker
pub no_fault : (accepting feeding : Accepting) (refused : Option Refusal) → fault_of (record { accepting = accepting; feeding = feeding; refused = refused }) ≡ None → (accepting ≢ Failed) × (refused ≡ None)
no_fault Failed feeding refused none = absurd (cc none)
no_fault Ended Failed refused none = absurd (cc none)
no_fault Ended Ended None none = ((λ is. absurd (cc is)), refl)
no_fault Ended Ended (Some reason) none = absurd (cc none)
no_fault Ended NoWorkers None none = ((λ is. absurd (cc is)), refl)
no_fault Ended NoWorkers (Some reason) none = absurd (cc none)
no_fault NoWorkers Failed refused none = absurd (cc none)
no_fault NoWorkers Ended None none = absurd (cc none)
no_fault NoWorkers Ended (Some reason) none = absurd (cc none)
no_fault NoWorkers NoWorkers None none = absurd (cc none)
no_fault NoWorkers NoWorkers (Some reason) none = absurd (cc none)

-- the exit status for each of them is 3
status_of : (blamed : Bool) (refused : Option Refusal) (fault : Fault) → (if blamed then Some Listener else looker_fault refused) ≡ Some fault → fault_status fault ≡ FAULT
status_of true refused fault is =
    let same : fault ≡ Listener = cc is in
    ap fault_status same
status_of false None fault is = absurd (cc is)
status_of false (Some reason) fault is =
    let same : fault ≡ Opening reason = cc is in
    ap fault_status same

serving_status : (fault : Fault) → IsFaultOfServing fault → fault_status fault ≡ FAULT
serving_status fault (inl is) = ap fault_status is
serving_status fault (inr is) = status_of (is_listeners is.0) is.0.refused fault is.1

pub not_served_status : {M S : Type 0} (g : Ghosts S) (by : Opener M (Held S)) (old new : M) (path : List ℕ) (fault : Fault)
    → IsNotServed g by old new path fault → fault_status fault ≡ FAULT
not_served_status g by old new path fault (inl none) = ap fault_status none.1
not_served_status g by old new path fault (inr served) = serving_status fault served.1
