-- Rowids of rows as they were read.
use Rattle.std.specs.Prelude.{◌≡◌, ◌⊎◌, ℤ, int_lt, Bool, true, false, ◌&&◌, List, [], ◌∷◌, map, Option, Some, None}
use Rattle.sqlite.specs.Edit.{id_in}
use Rattle.sqlite.specs.Tree.{rowid}
use Rattle.sqlite_value.specs.Order.{Row}
use Rattle.sqlite_value.specs.declared.value.Value.{Value}
use Rattle.sqlite_value.specs.declared.value.Value.TheVariants.{Int}
use Rattle.prt_refusals.specs.declared.refusal.Refusal.{Refusal}
use Rattle.prt_refusals.specs.declared.refusal.Refusal.TheVariants.{Damaged}
use Rattle.prt_rows.specs.Decodes.{FailsToDecode}

-- the number is greater than the last one, if there is one
abbrev pub is_above : Option ℤ → ℤ → Bool
is_above None id = true
is_above (Some last) id = int_lt last id

-- it is an integer greater than the last one
abbrev pub is_next : Option ℤ → Value → Bool
is_next last (Int id) = is_above last id
is_next last _ = false

-- each rowid is an integer greater than the one before it
abbrev pub rise_from : Option ℤ → List Row → Bool
rise_from last [] = true
rise_from last (row ∷ rows) = is_next last (rowid row) && rise_from (Some (id_in (rowid row))) rows

abbrev pub rowids_rise : List Row → Bool
rowids_rise = rise_from None

-- why rows are not read: their rowids don't rise, or their parts are not decoded
abbrev pub FailsToRead : {X : Type 0} → (X → Row) → (X → Type 0) → (Row → Row) → List Row → Refusal → Type 0
FailsToRead write Fits part rows refusal = ((refusal ≡ Damaged) × (rowids_rise rows ≡ false)) ⊎ FailsToDecode write Fits (map part rows) refusal
