-- A database is determined by its rows.
use Rattle.std.proofs.Common.{◌≡◌, subst}
use Rattle.sqlite.specs.Effect.{Database, IsDatabase}
use Rattle.sqlite_catalog.proofs.ReadLemmas.{lists_once}
use Rattle.sqlite_catalog.specs.Listing.{IsSound}

-- the rows list the schema
pub same_database : (one other : Database) → IsDatabase one → IsDatabase other → one.trees ≡ other.trees → one ≡ other
same_database one other left right is =
    let there : IsSound one.schema other.trees = subst (IsSound one.schema) is left in
    let schema : one.schema ≡ other.schema = lists_once _ one.schema other.schema there.lists right.lists in
    λ i. record { schema = schema i; trees = is i }
