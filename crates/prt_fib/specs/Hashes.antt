-- An index of outcomes: those of one hash are linked, each with the one before it.
use Rattle.std.specs.Prelude.{ℕ, ◌≡◌, ◌≢◌, ◌+◌, ◌-◌, ◌*◌, ◌%◌, ◌<◌, ◌≤◌, List, [], ◌∷◌, length, slice_index, Option, Some, None, option_map}
use Rattle.std.specs.List.{slice_get}
use Rattle.prt_addr.specs.Word.{Word}
use Rattle.prt_addr.specs.declared.addr.Addr.{Addr}
use Rattle.prt_partition.specs.declared.sameness.Outcome.{Outcome}
use Rattle.prt_fib.specs.Fib.{AreDistinct}

abbrev pub bits_of : Option Addr → ℕ
bits_of None = 0
bits_of (Some addr) = addr.0

-- the number that the bytes of a name make of a number
abbrev pub name_hash : ℕ → Word → ℕ
name_hash hash [] = hash
name_hash hash (byte ∷ bytes) = name_hash ((hash * 31 + byte) % 8191) bytes

abbrev pub dev_hash : Option Word → ℕ
dev_hash None = 0
dev_hash (Some name) = name_hash 0 name

unfoldable pub hash_of : Outcome → ℕ
hash_of outcome = (bits_of outcome.via * 31 + bits_of outcome.src * 7 + dev_hash outcome.dev) % 8191

-- the last place before a bound at which an outcome has this hash, counted from 1; 0 if there is none
pub record IsLast (hash : Outcome → ℕ) (outcomes : List Outcome) (value bound last : ℕ) : Type 0 where
  pub within : last ≤ bound
  pub has : 0 < last → option_map hash (slice_get outcomes (last - 1)) ≡ Some value
  pub none : (k : ℕ) → last ≤ k → k < bound → option_map hash (slice_get outcomes k) ≢ Some value

-- the last place of each hash, and for each place the last one of the same hash before it
pub record IsIndex (hash : Outcome → ℕ) (outcomes : List Outcome) (heads next : List ℕ) : Type 0 where
  pub size : length heads ≡ 8191
  pub same : length next ≡ length outcomes
  pub few : length outcomes ≤ 65536
  pub begin : (value : ℕ) → value < 8191 → IsLast hash outcomes value (length outcomes) (slice_index heads value)
  pub follow : (k value : ℕ) → option_map hash (slice_get outcomes k) ≡ Some value → IsLast hash outcomes value k (slice_index next k)
  pub distinct : AreDistinct outcomes

-- the outcome is none of these
abbrev pub IsNew : List Outcome → Outcome → Type 0
IsNew outcomes outcome = (k : ℕ) → k < length outcomes → slice_get outcomes k ≢ Some outcome

-- the outcome has the place, if there is one
abbrev pub IsFound : List Outcome → Outcome → Option ℕ → Type 0
IsFound outcomes outcome None = IsNew outcomes outcome
IsFound outcomes outcome (Some place) = slice_get outcomes place ≡ Some outcome
