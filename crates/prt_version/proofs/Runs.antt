-- Rows in the order of listings, cut where a table ends.
use Rattle.std.proofs.Common.{◌≡◌, ℕ, zero, suc, ◌<◌, ◌≤◌, true, false, leb, ltb, List, [], ◌∷◌, ◌++◌, length, get_or, take, drop, None, refl, sym, ap, ◌∙◌, subst, append_assoc, arith}
use Rattle.std.specs.List.{AllByRecursion as Each, AllWithin, slice_get}
use Rattle.std.specs.List.Sorted.{IsPartitionedBy, IsPartitionPoint}
use Rattle.std.proofs.lemmas.Bool.Decides.{nat_tests}
use Rattle.std.proofs.lemmas.List.{append-nil}
use Rattle.std.proofs.lemmas.List.Elements.{All-from_recursion, recursion_from_All}
use Rattle.std.proofs.lemmas.List.Sorted.{IsPartitionedBy-leb}
use Rattle.prt_addr.specs.Rising.{IsRising}
use Rattle.prt_addr.proofs.Each.{each_append, each_implies}
use Rattle.prt_route.specs.Route.{is_listed_before}
use Rattle.prt_route.specs.declared.route.Route.{Route}
use Rattle.prt_trie.specs.Table.{table_of as first_table}
use Rattle.prt_version.specs.Tables.{AreTables, HasOwnRows, TableRows, all_rows, has_rows, is_lower}
use Rattle.prt_version.proofs.ByTable.{rows_append}
use Rattle.prt_version.proofs.SortedRows.{each_parts, rising_numbers, rising_parts, rising_push}

-- ---- the rows of a table that come first

-- what holds up to a place, and from it on
module _ {X : Type 0} (P : X → Type 0) where
  each_front : (xs : List X) (i : ℕ) → i ≤ length xs → AllWithin P xs 0 i → Each P (take i xs)
  each_front [] zero le h = tt
  each_front [] (suc i) le h = absurd (omega arith)
  each_front (x ∷ xs) zero le h = tt
  each_front (x ∷ xs) (suc i) le h = (h zero x (omega arith) (omega arith), each_front xs i (omega arith) (λ k d low below. h (suc k) d (omega arith) (omega arith)))

  pub each_back : (xs : List X) (i : ℕ) → i ≤ length xs → AllWithin P xs i (length xs) → Each P (drop i xs)
  each_back xs zero le h = recursion_from_All P xs (λ k d inside. h k d (omega arith) inside)
  each_back [] (suc i) le h = absurd (omega arith)
  each_back (x ∷ xs) (suc i) le h = each_back xs i (omega arith) (λ k d low below. h (suc k) d (omega arith) (omega arith))

no_lower : (a b : Route) → is_listed_before a b ≡ true → a.table ≤ b.table
no_lower a b ahead = grind (arith, nat_tests)

-- no row is of a lower table than the first
lowest : (rows : List Route) → IsRising is_listed_before rows → Each (λ row. first_table rows ≤ row.table) rows
lowest [] rises = tt
lowest (row ∷ rows) rises = (omega arith, each_implies (λ other. is_listed_before row other ≡ true) (λ other. row.table ≤ other.table) (no_lower row) rows rises.0)

pub is_up_to : (table number : ℕ) → leb table number ≡ true → table ≤ number
is_up_to table number h = grind (arith, nat_tests)

pub is_above : (table number : ℕ) → leb table number ≡ false → number < table
is_above table number h = grind (arith, nat_tests)

-- the rows up to a table come before the others
pub tables_parted : (rows : List Route) (number : ℕ) → IsRising is_listed_before rows → IsPartitionedBy (λ row. leb row.table number) rows
tables_parted rows number rises = IsPartitionedBy-leb (λ (row : Route). row.table) rows number (rising_numbers is_listed_before (λ row. row.table) no_lower rows rises)

module _ (rows : List Route) (number place : ℕ) (rises : IsRising is_listed_before rows) (first : first_table rows ≡ number) (inside : place ≤ length rows) (parts : IsPartitionPoint (λ row. leb row.table number ≡ true) (λ row. leb row.table number ≡ false) rows place) where
  pub own_rows : Each (λ row. row.table ≡ number) (take place rows)
  own_rows =
      each_front (λ row. row.table ≡ number) rows place inside (λ k d low below.
      let up : (get_or rows k d).table ≤ number = is_up_to (get_or rows k d).table number (parts.0 k d low below) in
      let down : first_table rows ≤ (get_or rows k d).table = All-from_recursion (λ row. first_table rows ≤ row.table) rows (lowest rows rises) k d (omega arith) in
      omega arith)

  pub higher_rows : Each (λ row. number < row.table) (drop place rows)
  higher_rows = each_back (λ row. number < row.table) rows place inside (λ k d low below. is_above (get_or rows k d).table number (parts.1 k d low below))

first_above : (rows : List Route) (number : ℕ) → 0 < length rows → first_table rows ≡ number → ((d : Route) → number < (get_or rows 0 d).table) → ⊥
first_above [] number some first above = omega arith
first_above (row ∷ rows) number some first above = let over : number < row.table = above row in omega arith

-- the first row is before the place
pub some_first : (rows : List Route) (number place : ℕ) → 0 < length rows → first_table rows ≡ number → IsPartitionPoint (λ row. leb row.table number ≡ true) (λ row. leb row.table number ≡ false) rows place → 0 < place
some_first rows number zero some first parts = absurd (first_above rows number some first (λ d. is_above (get_or rows 0 d).table number (parts.1 0 d (omega arith) some)))
some_first rows number (suc place) some first parts = omega arith

pub is_below : (a b : ℕ) → a < b → ltb a b ≡ true
is_below a b h = grind (arith, nat_tests)

-- ---- one table more

-- the tables so far, and the rows that are left: of higher tables
pub record IsCut (rows : List Route) (tables : List TableRows) (rest : List Route) : Type 0 where
  pub whole : all_rows tables ++ rest ≡ rows
  pub tables_are : AreTables tables
  pub rising : IsRising is_listed_before rest
  pub higher : Each (λ (table : TableRows). Each (λ row. table.number < row.table) rest) tables

pub none_cut : (rows : List Route) → IsRising is_listed_before rows → IsCut rows [] rows
none_cut rows rises = record { whole = refl; tables_are = record { rise = tt; own = tt; filled = tt }; rising = rises; higher = tt }

-- the rows of the first table of those that are left
module _ (number : ℕ) (own others : List Route) (some : 0 < length own) (is_own : Each (λ row. row.table ≡ number) own) where
  filled_by : (rows : List Route) → 0 < length rows → has_rows (record { number = number; rows = rows }) ≡ true
  filled_by [] some = absurd (omega arith)
  filled_by (row ∷ rows) some = refl

  first_is : (P : ℕ → Type 0) (rows : List Route) → 0 < length rows → Each (λ row. row.table ≡ number) rows → Each (λ row. P row.table) rows → P number
  first_is P [] some are h = absurd (omega arith)
  first_is P (row ∷ rows) some are h = subst P are.0 h.0

  lower_now : (tables : List TableRows) → Each (λ (table : TableRows). Each (λ row. table.number < row.table) (own ++ others)) tables → Each (λ table. is_lower table (record { number = number; rows = own }) ≡ true) tables
  lower_now tables higher =
      each_implies (λ (table : TableRows). Each (λ row. table.number < row.table) (own ++ others)) (λ table. is_lower table (record { number = number; rows = own }) ≡ true)
      (λ table above. is_below table.number number (first_is (λ n. table.number < n) own some is_own (each_parts (λ row. table.number < row.table) own others above).0)) tables higher

  pub cut_more : (rows rest : List Route) (tables after : List TableRows) (table : TableRows) → IsCut rows tables rest → own ++ others ≡ rest → Each (λ row. number < row.table) others → table ≡ record { number = number; rows = own } → after ≡ tables ++ table ∷ [] → IsCut rows after others
  cut_more rows rest tables after table cut parts above is adds =
      let now : TableRows = record { number = number; rows = own } in
      let grown : after ≡ tables ++ now ∷ [] = adds ∙ ap (λ t. tables ++ t ∷ []) is in
      let rising : IsRising is_listed_before own × IsRising is_listed_before others = rising_parts is_listed_before own others (subst (IsRising is_listed_before) (sym parts) cut.rising) in
      let higher : Each (λ (t : TableRows). Each (λ row. t.number < row.table) (own ++ others)) tables = subst (λ rs. Each (λ (t : TableRows). Each (λ row. t.number < row.table) rs) tables) (sym parts) cut.higher in
      subst (λ ts. IsCut rows ts others) (sym grown) (record {
        whole = ap (λ rs. rs ++ others) (rows_append tables (now ∷ []) ∙ ap (λ rs. all_rows tables ++ rs) (append-nil own)) ∙ append_assoc (all_rows tables) own others ∙ ap (λ rs. all_rows tables ++ rs) parts ∙ cut.whole;
        tables_are = record {
          rise = rising_push is_lower tables now cut.tables_are.rise (lower_now tables higher);
          own = each_append HasOwnRows tables (now ∷ []) cut.tables_are.own (is_own, tt);
          filled = each_append (λ t. has_rows t ≡ true) tables (now ∷ []) cut.tables_are.filled (filled_by own some, tt);
        };
        rising = rising.1;
        higher = each_append (λ (t : TableRows). Each (λ row. t.number < row.table) others) tables (now ∷ [])
            (each_implies (λ (t : TableRows). Each (λ row. t.number < row.table) (own ++ others)) (λ t. Each (λ row. t.number < row.table) others) (λ t h. (each_parts (λ row. t.number < row.table) own others h).1) tables higher)
            (above, tt);
      })

none_left : (rows : List Route) → slice_get rows 0 ≡ None → rows ≡ []
none_left [] none = refl
none_left (row ∷ rows) none = absurd cc

-- nothing is left
pub all_cut : (rows : List Route) (tables : List TableRows) (rest : List Route) → slice_get rest 0 ≡ None → IsCut rows tables rest → all_rows tables ≡ rows
all_cut rows tables rest none cut = sym (append-nil (all_rows tables)) ∙ ap (λ rs. all_rows tables ++ rs) (sym (none_left rest none)) ∙ cut.whole
