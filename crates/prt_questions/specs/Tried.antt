-- What a try to change the tables of a server says.
use Rattle.std.specs.Prelude.{◌≡◌, ℕ, Bool, List}
use Rattle.prt_version.specs.State.{State}
use Rattle.prt_args.specs.declared.fault.TheConstants.{FAULT}
use Rattle.prt_questions.specs.Applying.{IsPlanText}
use Rattle.prt_questions.specs.declared.apply_remote.Tried.{Tried}
use Rattle.prt_questions.specs.declared.apply_remote.Tried.TheVariants.{Failed, Moved, Text}

-- a text is that of a plan for the tables that the server told, which was carried out, and a status is that of a fault
abbrev pub IsTriedFor : (tells done : State → Type 0) → (shows : Bool) → State → Tried → Type 0
IsTriedFor tells done shows wanted (Text text) = (told : State) × tells told × done told × IsPlanText shows told wanted text.items
IsTriedFor tells done shows wanted Moved = Unit {0}
IsTriedFor tells done shows wanted (Failed status) = status ≡ FAULT

-- a text is this one, once this was done, and a status is that of a fault
abbrev pub IsTriedWith : (done : Type 0) → List ℕ → Tried → Type 0
IsTriedWith done planned (Text text) = (text.items ≡ planned) × done
IsTriedWith done planned Moved = Unit {0}
IsTriedWith done planned (Failed status) = status ≡ FAULT
