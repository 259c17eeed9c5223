-- What rows say of an argument, if one row more is found.
use Rattle.std.proofs.Common.{◌≡◌, ◌∙◌, Bool, cond, ◌||◌, true, false, refl, ap, List, [], ◌∷◌, ◌++◌, Some, None, true≢false}
use Rattle.std.proofs.lemmas.List.{append-nil}
use Rattle.std.specs.Prelude.{find}
use Rattle.std.specs.Str.{bytes_eq}
use Rattle.clap.specs.Walk.{Row, Text, at_row, has_row, more_values, with_values, without}
use Rattle.clap.specs.declared.builder.value_parser.Reading.{Reading}
use Rattle.clap.specs.declared.parser.matches.ValueSource.{ValueSource}

abbrev pub row : Text → Reading → ValueSource → List Text → Row
row id how source values = record { id = id; values = values; count = None; source = Some source; reading = how }

neither : (a b : Bool) → (a || b) ≡ false → (a ≡ false) × (b ≡ false)
neither true b e = absurd (true≢false e)
neither false b e = (refl, e)

or_true : (a : Bool) → (a || true) ≡ true
or_true true = refl
or_true false = refl

at_row_end : (id : Text) (change : Row → List Row) (missing rows : List Row) → has_row id rows ≡ false → at_row id change missing rows ≡ rows ++ missing
at_row_end id change missing [] none = refl
at_row_end id change missing (r ∷ rows) none =
    let other = neither (bytes_eq r.id id) (has_row id rows) none in
    rw other.0 (ap (λ rs. r ∷ rs) (at_row_end id change missing rows other.1))

-- an argument that has no row yet gets one at the end
pub valued : (id : Text) (how : Reading) (source : ValueSource) (values : List Text) (rows : List Row) → has_row id rows ≡ false
    → with_values id how source values rows ≡ rows ++ row id how source values ∷ []
valued id how source values rows none = at_row_end id (more_values source values) (row id how source values ∷ []) rows none

-- also if what it had before is taken out first
pub used_once : (id : Text) (how : Reading) (source : ValueSource) (values : List Text) (rows : List Row) → has_row id rows ≡ false
    → with_values id how source values (without id rows) ≡ rows ++ row id how source values ∷ []
used_once id how source values rows none =
    ap (with_values id how source values) (at_row_end id (λ _. []) [] rows none ∙ append-nil rows) ∙ valued id how source values rows none

pub find_kept : (id : Text) (rows : List Row) (last : Row) → bytes_eq last.id id ≡ false → find (λ r. bytes_eq r.id id) (rows ++ last ∷ []) ≡ find (λ r. bytes_eq r.id id) rows
find_kept id [] last other = rw other refl
find_kept id (r ∷ rows) last other = ap (λ found. cond (bytes_eq r.id id) (Some r) found) (find_kept id rows last other)

pub find_last : (id : Text) (rows : List Row) (last : Row) → has_row id rows ≡ false → bytes_eq last.id id ≡ true → find (λ r. bytes_eq r.id id) (rows ++ last ∷ []) ≡ Some last
find_last id [] last none is = rw is refl
find_last id (r ∷ rows) last none is =
    let other = neither (bytes_eq r.id id) (has_row id rows) none in
    rw other.0 (find_last id rows last other.1 is)

pub has_kept : (id : Text) (rows : List Row) (last : Row) → bytes_eq last.id id ≡ false → has_row id (rows ++ last ∷ []) ≡ has_row id rows
has_kept id [] last other = rw other refl
has_kept id (r ∷ rows) last other = ap (λ has. bytes_eq r.id id || has) (has_kept id rows last other)

pub has_last : (id : Text) (rows : List Row) (last : Row) → bytes_eq last.id id ≡ true → has_row id (rows ++ last ∷ []) ≡ true
has_last id [] last is = rw is refl
has_last id (r ∷ rows) last is = ap (λ has. bytes_eq r.id id || has) (has_last id rows last is) ∙ or_true (bytes_eq r.id id)
