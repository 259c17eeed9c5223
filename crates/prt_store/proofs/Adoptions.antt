-- What the tables of a file that was adopted encode.
use Rattle.std.proofs.Common.{◌≡◌, ℕ, inl, inr, List, [], ◌∷◌, Ok, Result, IfOk, IfSome, None, Option, Some, drop, map, IsPermutation, refl, sym, ap, subst, ◌∙◌}
use Rattle.std.proofs.lemmas.List.Sorted.{IsPermutation-refl}
use Rattle.sqlite.specs.Effect.{Database}
use Rattle.sqlite.specs.Held.{Held}
use Rattle.sqlite.specs.Schema.{Schema}
use Rattle.sqlite.specs.Store.{Ghosts}
use Rattle.sqlite.specs.Table.{Table}
use Rattle.sqlite.specs.declared.error.Error.{Error}
use Rattle.sqlite_rules.specs.Lists.{Has}
use Rattle.sqlite_value.specs.Order.{Row}
use Rattle.prt_rows.proofs.Keeping.{empty_after, keeps_then}
use Rattle.prt_rows.specs.Effects.{AreEmpty, IsKeyed, IsOfFormat1, KeepsTables}
use Rattle.prt_rows.specs.Format.{BeginsWithMeta, IsFormat2}
use Rattle.prt_rows.specs.Kept.{kept_count, kept_count_1, kept_length, kept_rule}
use Rattle.prt_rows.specs.RouteRow.{route_row}
use Rattle.prt_rows.specs.Tables.{meta_table, our_tables, route_table, rule_table, suppress_table}
use Rattle.prt_version.specs.State.{State, opening_state}
use Rattle.prt_store.proofs.Looks.{no_rows, our_table, ours_there}
use Rattle.prt_store.specs.declared.opening.OurTable.TheVariants as ours
use Rattle.prt_store.proofs.Openings.{due_after, filled_later, migrated_later, not_empty}
use Rattle.prt_store.specs.Adopted.{Adopts, AdoptsOne, AdoptsPart, IsFilled, MigratesTables, RefusesOne}
use Rattle.prt_store.specs.Lengths.{lengths_of}
use Rattle.prt_store.specs.Stored.{FitsTables, Stores, StoresFormat1}

-- tables that encode a state have a row
has_row : (db : Database) (stored : State) → Stores db stored → AreEmpty db → ⊥
has_row db stored held empty = let none : kept_count stored.count ∷ [] ≡ [] = sym held.count ∙ no_rows db held.tables empty ours.Meta in cc

-- and are not those of a file of format 1
not_stored_before : (db : Database) (stored : State) (count : ℕ) → Stores db stored → IsOfFormat1 db count → ⊥
not_stored_before db stored count held was = let same : kept_count stored.count ∷ [] ≡ kept_count_1 count ∷ [] = sym held.count ∙ was.row in cc

-- our tables, if each keeps its rows
module _ (old new : Database) (stored : State) (tables : IsFormat2 new.schema) (rules_stay : new.trees 0 ≡ old.trees 0) (routes_stay : new.trees 1 ≡ old.trees 1) (lengths : IsPermutation (new.trees 4) (map kept_length (lengths_of stored.rules))) (count : new.trees 3 ≡ kept_count stored.count ∷ []) where
  stores_on : IsPermutation (old.trees 0) (map kept_rule stored.rules) → IsPermutation (map (drop 1) (old.trees 1)) (map route_row stored.routes) → IsKeyed (old.trees 1) → FitsTables stored → Stores new stored
  stores_on rules routes keyed fits = record {
    tables = tables;
    rules = subst (λ rows. IsPermutation rows (map kept_rule stored.rules)) (sym rules_stay) rules;
    routes = subst (λ rows. IsPermutation (map (drop 1) rows) (map route_row stored.routes)) (sym routes_stay) routes;
    keyed = subst IsKeyed (sym routes_stay) keyed;
    lengths = lengths;
    count = count;
    fits = fits;
  }

-- tables that are kept encode what they encoded
pub kept_spell : (old new : Database) (stored : State) → KeepsTables old new → IsFormat2 new.schema → Stores old stored → Stores new stored
kept_spell old new stored keeps tables held =
    let stays = λ (table : Table) (ours : Has our_tables table). (keeps.kept table (our_table old.schema held.tables table ours)).1 in
    stores_on old new stored tables (stays rule_table (inl refl)) (stays route_table (inr (inl refl))) (subst (λ rows. IsPermutation rows (map kept_length (lengths_of stored.rules))) (sym (stays suppress_table (inr (inr (inr (inl refl)))))) held.lengths) (stays meta_table (inr (inr (inl refl))) ∙ held.count)
    held.rules held.routes held.keyed held.fits

-- and encode it still
pub stored_still : (old new : Database) (stored : State) → Adopts old new → Stores old stored → Stores new stored
stored_still old new stored adopts held = elim adopts.rows [
  | inl kept ↦ kept_spell old new stored kept.keeps adopts.tables held
  | inr changed ↦ elim changed [
    | inl migrated ↦ absurd (not_stored_before old stored migrated.count held migrated.was)
    | inr filled ↦ absurd (has_row old stored held filled.empty)
  ]
]

-- tables that had no rows encode the opening state
pub opening_stored : (old new : Database) → Adopts old new → AreEmpty old → Stores new opening_state
opening_stored old new adopts empty = elim adopts.rows [
  | inl kept ↦ absurd (kept.some empty)
  | inr changed ↦ elim changed [
    | inl migrated ↦ absurd (not_empty old migrated.count migrated.was empty)
    | inr filled ↦ filled.opening
  ]
]

-- ---- a file of format 1

-- the first three of our tables are there
module _ (schema : Schema) (tables : BeginsWithMeta schema) where
  pub first_rules : Has schema.tables rule_table
  first_rules = elim tables [ inl is ↦ subst (λ (s : Schema). Has s.tables rule_table) (sym is) (inl refl) | inr all ↦ ours_there schema all ours.Rule ]

  pub first_routes : Has schema.tables route_table
  first_routes = elim tables [ inl is ↦ subst (λ (s : Schema). Has s.tables route_table) (sym is) (inr (inl refl)) | inr all ↦ ours_there schema all ours.Route ]

-- what was migrated has no lengths
no_lengths_made : (old new : Database) (migrated : MigratesTables old new) → IsFormat2 new.schema → new.trees 4 ≡ []
no_lengths_made old new migrated tables = elim (migrated.made suppress_table (ours_there new.schema tables ours.Suppress)) [
  | inl was ↦ (migrated.kept suppress_table was (λ is. absurd (cc))).1 ∙ migrated.was.none was
  | inr made ↦ made.1
]

-- as no rule has one
no_lengths_of : (stored : State) (rows : List Row) → rows ≡ [] → lengths_of stored.rules ≡ [] → IsPermutation rows (map kept_length (lengths_of stored.rules))
no_lengths_of stored rows empty none = subst (λ l. IsPermutation rows (map kept_length l)) (sym none) (subst (λ r. IsPermutation r []) (sym empty) (IsPermutation-refl []))

-- the count of a file of format 1 is one
same_former : (db : Database) (count other : ℕ) → IsOfFormat1 db count → IsOfFormat1 db other → count ≡ other
same_former db count other was too = let same : kept_count_1 count ∷ [] ≡ kept_count_1 other ∷ [] = sym was.row ∙ too.row in cc

-- a file of format 1 encodes, once it is adopted, what it encoded
pub migrated_stores : (old new : Database) (stored : State) → Adopts old new → StoresFormat1 old stored → Stores new stored
migrated_stores old new stored adopts held = elim adopts.rows [
  | inl kept ↦ absurd (kept.not_due stored.count held.format)
  | inr changed ↦ elim changed [
    | inl migrated ↦
        let number = same_former old migrated.count stored.count migrated.was held.format in
        stores_on old new stored adopts.tables (migrated.kept rule_table (first_rules old.schema held.tables) (λ is. absurd (cc))).1 (migrated.kept route_table (first_routes old.schema held.tables) (λ is. absurd (cc))).1
        (no_lengths_of stored (new.trees 4) (no_lengths_made old new migrated adopts.tables) held.none) (migrated.row ∙ ap (λ n. kept_count n ∷ []) number) held.rules held.routes held.keyed held.fits
    | inr filled ↦ absurd (not_empty old stored.count held.format filled.empty)
  ]
]

-- ---- an opening that was stopped

kept_later : (old mid new : Database) → IsFilled old mid → KeepsTables mid new → Stores new opening_state → IsFilled old new
kept_later old mid new filled keeps opening = record {
  empty = filled.empty;
  opening = opening;
  others = λ table there not_ours.
      let first = filled.others table there not_ours in
      let second = keeps.kept table first.0 in
      (second.0, second.1 ∙ first.1);
  made = λ table there. elim (keeps.made table there) [ inl before ↦ filled.made table before | inr one_of_ours ↦ inr one_of_ours.0 ];
}

-- what was migrated keeps its rows from then on
migrated_kept : (old mid new : Database) → MigratesTables old mid → KeepsTables mid new → MigratesTables old new
migrated_kept old mid new migrated keeps =
    let meta = keeps.kept meta_table migrated.there in
    record {
      count = migrated.count;
      was = migrated.was;
      row = meta.1 ∙ migrated.row;
      there = meta.0;
      kept = λ table there apart.
          let first = migrated.kept table there apart in
          let second = keeps.kept table first.0 in
          (second.0, second.1 ∙ first.1);
      made = λ table there. elim (keeps.made table there) [
        | inl before ↦ elim (migrated.made table before) [
          | inl was ↦ inl was
          | inr one_of_ours ↦ inr (one_of_ours.0, (keeps.kept table before).1 ∙ one_of_ours.1)
        ]
        | inr none ↦ inr none
      ];
    }

-- what was migrated is not of format 1
not_migrated_twice : (old mid : Database) (count : ℕ) → MigratesTables old mid → IsOfFormat1 mid count → ⊥
not_migrated_twice old mid count migrated was = let same : kept_count migrated.count ∷ [] ≡ kept_count_1 count ∷ [] = sym migrated.row ∙ was.row in cc

migrated_has_row : (old mid : Database) → MigratesTables old mid → AreEmpty mid → ⊥
migrated_has_row old mid migrated empty = let none : kept_count migrated.count ∷ [] ≡ [] = sym migrated.row ∙ empty meta_table (inr (inr (inl refl))) migrated.there in cc

-- what an opening leaves of tables that kept their rows
kept_then : (old mid new : Database) → KeepsTables old mid → Adopts mid new → Adopts old new
kept_then old mid new keeps adopts = record {
  tables = adopts.tables;
  rows = elim adopts.rows [
    | inl kept ↦ inl (record { some = λ empty. kept.some (empty_after old mid keeps empty); not_due = λ count was. kept.not_due count (due_after old mid count keeps was); keeps = keeps_then old mid new keeps kept.keeps })
    | inr changed ↦ elim changed [ inl migrated ↦ inr (inl (migrated_later old mid new keeps migrated)) | inr filled ↦ inr (inr (filled_later old mid new keeps filled)) ]
  ];
}

-- of tables that were migrated
migrated_then : (old mid new : Database) → MigratesTables old mid → Adopts mid new → Adopts old new
migrated_then old mid new first adopts = record {
  tables = adopts.tables;
  rows = elim adopts.rows [
    | inl kept ↦ inr (inl (migrated_kept old mid new first kept.keeps))
    | inr changed ↦ elim changed [ inl again ↦ absurd (not_migrated_twice old mid again.count first again.was) | inr filled ↦ absurd (migrated_has_row old mid first filled.empty) ]
  ];
}

-- and of tables that were filled
filled_then : (old mid new : Database) → IsFilled old mid → Adopts mid new → Adopts old new
filled_then old mid new filled adopts = record {
  tables = adopts.tables;
  rows = elim adopts.rows [
    | inl kept ↦ inr (inr (kept_later old mid new filled kept.keeps (stored_still mid new opening_state adopts filled.opening)))
    | inr changed ↦ elim changed [
      | inl migrated ↦ absurd (not_stored_before mid opening_state migrated.count filled.opening migrated.was)
      | inr again ↦ absurd (has_row mid opening_state filled.opening again.empty)
    ]
  ];
}

-- the next opening goes on from what a stopped one left
pub goes_on : (old mid new : Database) → AdoptsPart old mid → Adopts mid new → Adopts old new
goes_on old mid new part adopts = elim part.rows [
  | inl keeps ↦ kept_then old mid new keeps adopts
  | inr changed ↦ elim changed [ inl migrated ↦ migrated_then old mid new migrated adopts | inr filled ↦ filled_then old mid new filled adopts ]
]

-- what an open says of the connection that it returned holds of the one that was adopted
pub adopts_found : {S : Type 0} (g : Ghosts S) (IsFound : Held S → Type 0) (opened : Result (Held S) Error) → IfOk opened IsFound → (now : Held S) → AdoptsOne g (λ was. opened ≡ Ok was) now → AdoptsOne g IsFound now
adopts_found {S = S} g IsFound opened found now one = record { was = one.was; found = subst (λ (r : Result (Held S) Error). IfOk r IsFound) one.found found; adopted = one.adopted; columns = one.columns; rest = one.rest; survives = one.survives }

-- and so of one that was refused
pub refuses_found : {S : Type 0} (g : Ghosts S) (IsFound : Held S → Type 0) (opened : Result (Held S) Error) → IfOk opened IsFound → (left : Option (Held S)) → IfSome left (RefusesOne g (λ was. opened ≡ Ok was)) → IfSome left (RefusesOne g IsFound)
refuses_found g IsFound opened found None one = tt
refuses_found {S = S} g IsFound opened found (Some left) one =
    record { was = one.was; found = subst (λ (r : Result (Held S) Error). IfOk r IsFound) one.found found; part = one.part; other_columns = one.other_columns; survives = one.survives }
