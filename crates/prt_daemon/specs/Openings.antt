-- By which calls a database file is opened.
use Rattle.std.specs.Prelude.{◌≡◌, ◌≢◌, ◌⊎◌, ℕ, List, true, codes, Option, Some}
use Rattle.sqlite.specs.Held.{Held}
use Rattle.prt_rows.specs.Format.{has_table}
use Rattle.prt_machine.specs.declared.database_opener.Wanted.{Wanted}
use Rattle.prt_machine.specs.declared.database_opener.Wanted.TheVariants.{Any, Ours}

-- the system said that the file at a path has a byte at least
abbrev pub IsThere : {M : Type 0} → (has_size : M → List ℕ → Option ℕ → Type 0) → M → List ℕ → Type 0
IsThere has_size old path = (size : ℕ) × has_size old path (Some size) × (size ≢ 0)

-- the file has a table of ours
abbrev pub IsOurs : {S : Type 0} → Held S → Type 0
IsOurs conn = has_table (codes "meta") conn.schema ≡ true

-- The file at a path was opened. One of ours was there before, so the opening made none.
abbrev pub Opens : {M S : Type 0} → (has_size : M → List ℕ → Option ℕ → Type 0) → (opens : M → M → List ℕ → Held S → Type 0) → M → M →
    List ℕ → Wanted → Held S → Type 0
Opens has_size opens old new path Any conn = opens old new path conn
Opens has_size opens old new path Ours conn = IsThere has_size old path × opens old new path conn × IsOurs conn

-- An opening failed. If one of ours is wanted nothing was done, or what was there was opened in vain or closed again.
abbrev pub Refuses : {M S : Type 0} → (has_size : M → List ℕ → Option ℕ → Type 0) → (opens : M → M → List ℕ → Held S → Type 0) →
    (fails : M → M → List ℕ → Type 0) → (closes : M → M → Held S → Type 0) → M → M → List ℕ → Wanted → Type 0
Refuses has_size opens fails closes old new path Any = fails old new path
Refuses {M} {S} has_size opens fails closes old new path Ours =
    (new ≡ old) ⊎ (IsThere has_size old path × (fails old new path ⊎ ((between : M) × (conn : Held S) × opens old between path conn × closes between new conn)))
