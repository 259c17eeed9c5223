-- The same trees encode one state.
use Rattle.std.proofs.Common.{◌≡◌, ◌+◌, subst, sym}
use Rattle.std.proofs.lemmas.List.Sorted.{Contains-permutation, IsPermutation-sym}
use Rattle.sqlite.specs.Effect.{Database, IsDatabase}
use Rattle.sqlite.specs.Schema.{Schema}
use Rattle.sqlite.specs.Tree.{Trees}
use Rattle.sqlite_catalog.proofs.ReadLemmas.{lists_once}
use Rattle.prt_rows.specs.Format.{IsFormat2}
use Rattle.prt_rows.specs.RuleRow.{IsRule}
use Rattle.prt_store.proofs.Loads.{count_stored, routes_same, rules_same}
use Rattle.prt_store.specs.Lengths.{plain}
use Rattle.prt_store.specs.Stored.{Stores}
use Rattle.prt_version.proofs.OneForm.{same_state}
use Rattle.prt_version.specs.State.{State}
use Rattle.prt_store.specs.Exits.{Spells}

abbrev pub database : Schema → Trees → Database
database schema trees = record { schema = schema; trees = trees }

-- the schema says only where the tables are
pub other_schema : (schema other : Schema) (trees : Trees) (stored : State) → IsFormat2 other → Stores (database schema trees) stored → Stores (database other trees) stored
other_schema schema other trees stored tables held = record { tables = tables; rules = held.rules; routes = held.routes; keyed = held.keyed; lengths = held.lengths; count = held.count; fits = held.fits }

pub stored_once : (schema other : Schema) (trees : Trees) (s t : State) → Stores (database schema trees) s → Stores (database other trees) t → s ≡ t
stored_once schema other trees s t stores others =
    let db = database schema trees in
    let held = other_schema other schema trees t stores.tables others in
    let number = count_stored db t held s.count stores.count in
    let rules_are = rules_same db t held (s.count + 3) s.rules stores.fits.sound.distinct_ids stores.fits.rules (λ rule there. subst (λ n. IsRule (n + 3) (plain rule)) number (held.fits.rules rule there)) stores.rules stores.lengths in
    let routes_are = routes_same db t held s.routes stores.routes stores.fits.routes in
    same_state s t stores.fits.sound others.fits.sound (sym number)
    (λ rule there. Contains-permutation s.rules t.rules rule rules_are there)
    (λ rule there. Contains-permutation t.rules s.rules rule (IsPermutation-sym s.rules t.rules rules_are) there)
    (λ route there. Contains-permutation s.routes t.routes route routes_are there)
    (λ route there. Contains-permutation t.routes s.routes route (IsPermutation-sym s.routes t.routes routes_are) there)

pub spelled_once : (trees : Trees) (stored other : State) → Spells trees stored → Spells trees other → stored ≡ other
spelled_once trees stored other spells others = stored_once spells.schema others.schema trees stored other spells.stores others.stores

-- the trees list the schema, so a database over them has that one
pub stored_there : (db : Database) (stored : State) → IsDatabase db → Spells db.trees stored → Stores db stored
stored_there db stored sound spells =
    let same : spells.schema ≡ db.schema = lists_once _ spells.schema db.schema spells.sound.lists sound.lists in
    subst (λ (schema : Schema). Stores (database schema db.trees) stored) same spells.stores
