-- What it says to read back what was written.
use Rattle.std.specs.Prelude.{◌≡◌, ◌≢◌, ◌⊎◌, List, Any, Option, Some, None}
use Rattle.prt_refusals.specs.declared.refusal.Refusal.{Refusal}
use Rattle.prt_refusals.specs.declared.refusal.Refusal.TheVariants.{Damaged, NoMemory}

-- x fits and is written as v, or nothing that fits is written as v
abbrev pub Decodes : {V X : Type 0} → (X → V) → (X → Type 0) → V → Option X → Type 0
Decodes write Fits v (Some x) = Fits x × (v ≡ write x)
Decodes {X = X} write Fits v None = (x : X) → Fits x → v ≢ write x

-- why a list is not decoded: nothing that fits is written as one of its members, or memory was refused
abbrev pub FailsToDecode : {V X : Type 0} → (X → V) → (X → Type 0) → List V → Refusal → Type 0
FailsToDecode write Fits vs refusal = ((refusal ≡ Damaged) × Any (λ v. Decodes write Fits v None) vs) ⊎ (refusal ≡ NoMemory)

-- what is written for x, if it fits, is decoded as x
abbrev pub ReadsBack : {V X : Type 0} → (X → V) → (X → Type 0) → Type 0
ReadsBack {X = X} write Fits = (x : X) → Fits x → (read : Option X) → Decodes write Fits (write x) read → read ≡ Some x
