-- Tables in groups: in which of them a table is, and what an edit of one table makes of its group.
use Rattle.std.proofs.Common.{◌≡◌, ℕ, zero, suc, ◌+◌, ◌-◌, ◌<◌, ◌≤◌, Bool, true, false, ◌&&◌, ◌||◌, eqb, leb, ltb, List, [], ◌∷◌, ◌++◌, length, get_or, map, take, drop, Option, Some, refl, sym, ap, subst, ◌∙◌, append_assoc, arith, cond, ⊎_elim}
use Rattle.std.specs.Prelude.{bytes_eq}
use Rattle.std.specs.List.{filter, AllByRecursion as Each}
use Rattle.std.specs.List.Sorted.{IsPartitionedBy, IsPartitionPoint}
use Rattle.std.proofs.lemmas.Bool.{cases_lt}
use Rattle.std.proofs.lemmas.Bool.Decides.{nat_tests}
use Rattle.std.proofs.lemmas.List.{append-nil, drop_more, length-append, map-append, take-append-drop, take_more}
use Rattle.std.proofs.lemmas.List.Elements.{All-from_recursion, filter-append}
use Rattle.std.proofs.lemmas.List.Folds.{list_any-append}
use Rattle.std.proofs.lemmas.List.Sorted.{IsPartitionedBy-leb}
use Rattle.prt_addr.specs.Given.{agrees, agrees_there}
use Rattle.prt_addr.specs.Order.{insert_by}
use Rattle.prt_addr.specs.Rising.{IsRising}
use Rattle.prt_addr.proofs.Each.{any_none, each_append, each_implies}
use Rattle.prt_route.specs.Edit.{after_edit}
use Rattle.prt_route.specs.RouteChoice.{in_range, is_same_kind, is_selected}
use Rattle.prt_route.specs.declared.choice.Selector.{Selector}
use Rattle.prt_route.specs.declared.edit.RouteEdit.{RouteEdit}
use Rattle.prt_route.specs.declared.edit.RouteEdit.TheVariants.{Put, Remove, Flush}
use Rattle.prt_route.specs.declared.route.Route.{Route}
use Rattle.prt_version.specs.Groups.{AreGroups, IsGroup, StartsWith, TableGroup, joined}
use Rattle.prt_version.specs.Tables.{AreTables, HasOwnRows, TableRows, all_rows, has_rows, has_table, is_lower, named_table, names_table, rows_of_table, table_after, table_of, tables_after, tables_with}
use Rattle.prt_version.proofs.ByTable.{all_rows_with, are_with, filter_absorbed, insert_after, insert_in_front, lower_is_le, no_rows, other_way, rows_append, turned}
use Rattle.prt_version.proofs.Runs.{each_back, is_above, is_below, is_up_to}
use Rattle.prt_version.proofs.SortedRows.{each_parts, rising_numbers, rising_parts}

-- ---- one group after another

pub joined_append : (front back : List TableGroup) → joined (front ++ back) ≡ joined front ++ joined back
joined_append [] back = refl
joined_append (group ∷ front) back = ap (λ tables. group.tables ++ tables) (joined_append front back) ∙ sym (append_assoc group.tables (joined front) (joined back))

-- one group more
pub joined_more : (groups : List TableGroup) (i : ℕ) (group : TableGroup) → i < length groups → group ≡ get_or groups i group → joined (take (i + 1) groups) ≡ joined (take i groups) ++ group.tables
joined_more groups i group lt is =
    ap joined (take_more groups i group lt ∙ ap (λ (g : TableGroup). take i groups ++ g ∷ []) (sym is))
    ∙ joined_append (take i groups) (group ∷ [])
    ∙ ap (λ tables. joined (take i groups) ++ tables) (append-nil group.tables)

pub tables_more : (groups : List TableGroup) (i : ℕ) (group : TableGroup) (more before after : List TableRows) → i < length groups → group ≡ get_or groups i group → before ≡ joined (take i groups) → more ≡ group.tables → after ≡ before ++ more → after ≡ joined (take (i + 1) groups)
tables_more groups i group more before after lt is so_far own adds =
    adds ∙ ap (λ tables. tables ++ more) so_far ∙ ap (λ tables. joined (take i groups) ++ tables) own ∙ sym (joined_more groups i group lt is)

-- the groups before one, that one, and those behind it
pub cut_at : (groups : List TableGroup) (place : ℕ) (group : TableGroup) → place < length groups → group ≡ get_or groups place group → take place groups ++ group ∷ drop (place + 1) groups ≡ groups
cut_at groups place group lt is =
    ap (λ rest. take place groups ++ rest) (ap (λ (g : TableGroup). g ∷ drop (place + 1) groups) is ∙ sym (drop_more groups place group lt))
    ∙ take-append-drop place groups

pub starts_with : (tables : List TableRows) (table : TableRows) → 0 < length tables → table ≡ get_or tables 0 table → StartsWith table.number tables
starts_with [] table some is = absurd (omega arith)
starts_with (first ∷ tables) table some is = ap (λ (t : TableRows). t.number) is

-- a group of the first of the tables that are left, and the others after it
pub one_group_more : (tables own others rest : List TableRows) (groups after : List TableGroup) (group : TableGroup) → joined groups ++ rest ≡ tables → own ++ others ≡ rest → group.tables ≡ own → after ≡ groups ++ group ∷ [] → joined after ++ others ≡ tables
one_group_more tables own others rest groups after group so_far parts is adds =
    ap (λ gs. joined gs ++ others) adds
    ∙ ap (λ ts. ts ++ others) (joined_append groups (group ∷ []) ∙ ap (λ ts. joined groups ++ ts) (append-nil group.tables ∙ is))
    ∙ append_assoc (joined groups) own others
    ∙ ap (λ ts. joined groups ++ ts) parts
    ∙ so_far

-- ---- parts of some tables

are_front : (front back : List TableRows) → AreTables (front ++ back) → AreTables front
are_front front back are = record {
  rise = (rising_parts is_lower front back are.rise).0;
  own = (each_parts HasOwnRows front back are.own).0;
  filled = (each_parts (λ table. has_rows table ≡ true) front back are.filled).0;
}

are_back : (front back : List TableRows) → AreTables (front ++ back) → AreTables back
are_back front back are = record {
  rise = (rising_parts is_lower front back are.rise).1;
  own = (each_parts HasOwnRows front back are.own).1;
  filled = (each_parts (λ table. has_rows table ≡ true) front back are.filled).1;
}

rows_of_parts : (front own back : List TableRows) → all_rows (front ++ (own ++ back)) ≡ all_rows front ++ (all_rows own ++ all_rows back)
rows_of_parts front own back = rows_append front (own ++ back) ∙ ap (λ rows. all_rows front ++ rows) (rows_append own back)

count_of_parts : (front own back : List TableRows) → length (all_rows (front ++ (own ++ back))) ≡ length (all_rows front) + (length (all_rows own) + length (all_rows back))
count_of_parts front own back =
    ap length (rows_of_parts front own back)
    ∙ length-append (all_rows front) (all_rows own ++ all_rows back)
    ∙ ap (λ n. length (all_rows front) + n) (length-append (all_rows own) (all_rows back))

is_under : (a b : ℕ) → a < b → eqb a b ≡ false
is_under a b h = grind (arith, nat_tests)

is_over : (a b : ℕ) → b < a → eqb a b ≡ false
is_over a b h = grind (arith, nat_tests)

all_under : (number : ℕ) (tables : List TableRows) → Each (λ table. table.number < number) tables → Each (λ table. eqb table.number number ≡ false) tables
all_under number tables lower = each_implies (λ table. table.number < number) (λ table. eqb table.number number ≡ false) (λ table h. is_under table.number number h) tables lower

all_over : (number : ℕ) (tables : List TableRows) → Each (λ table. number < table.number) tables → Each (λ table. eqb table.number number ≡ false) tables
all_over number tables higher = each_implies (λ table. number < table.number) (λ table. eqb table.number number ≡ false) (λ table h. is_over table.number number h) tables higher

-- ---- where a table is

-- what is in front of one comes before it
across : {X : Type 0} (before : X → X → Bool) (front : List X) (x : X) (back : List X) → IsRising before (front ++ x ∷ back) → Each (λ y. before y x ≡ true) front
across before [] x back rises = tt
across before (y ∷ front) x back rises = ((each_parts (λ z. before y z ≡ true) front (x ∷ back) rises.0).1.0, across before front x back rises.1)

below_it : (a b first number : ℕ) → ltb a b ≡ true → first ≡ b → first ≤ number → a < number
below_it a b first number lower is le = grind (arith, nat_tests)

above_it : (a b first number : ℕ) → ltb a b ≡ true → first ≡ a → number ≤ first → number < b
above_it a b first number lower is le = grind (arith, nat_tests)

-- tables before one group that starts no higher than the number
below_group : (number first : ℕ) (front own back : List TableRows) → StartsWith first own → first ≤ number → IsRising is_lower (front ++ (own ++ back)) → Each (λ table. table.number < number) front
below_group number first front [] back starts le rises = absurd starts
below_group number first front (table ∷ own) back starts le rises =
    each_implies (λ other. is_lower other table ≡ true) (λ other. other.number < number) (λ other h. below_it other.number table.number first number h starts le) front (across is_lower front table (own ++ back) rises)

above_first : (first other number : ℕ) → first ≡ other → number < first → number < other
above_first first other number is lt = omega arith

-- tables of a group that starts higher than the number
above_group : (number first : ℕ) (own : List TableRows) → StartsWith first own → number < first → IsRising is_lower own → Each (λ table. number < table.number) own
above_group number first [] starts lt rises = tt
above_group number first (table ∷ own) starts lt rises =
    (above_first first table.number number starts lt, each_implies (λ other. is_lower table other ≡ true) (λ other. number < other.number) (λ other h. above_it table.number other.number first number h starts (omega arith)) own rises.0)

above_groups : (number : ℕ) (groups : List TableGroup) → Each IsGroup groups → IsRising is_lower (joined groups) → Each (λ group. number < group.first) groups → Each (λ table. number < table.number) (joined groups)
above_groups number [] are rises higher = tt
above_groups number (group ∷ groups) are rises higher =
    let parts : IsRising is_lower group.tables × IsRising is_lower (joined groups) = rising_parts is_lower group.tables (joined groups) rises in
    each_append (λ table. number < table.number) group.tables (joined groups) (above_group number group.first group.tables are.0 higher.0 parts.0) (above_groups number groups are.1 parts.1 higher.1)

-- ---- the groups rise by their first numbers

first_over : (first : ℕ) (number : ℕ) (own : List TableRows) → StartsWith first own → Each (λ table. number < table.number) own → ltb number first ≡ true
first_over first number [] starts higher = absurd starts
first_over first number (table ∷ own) starts higher = is_below number first (let lt : number < table.number = higher.0 in let is : first ≡ table.number = starts in omega arith)

firsts_over : (number : ℕ) (groups : List TableGroup) → Each IsGroup groups → Each (λ table. number < table.number) (joined groups) → Each (λ group. ltb number group.first ≡ true) groups
firsts_over number [] are higher = tt
firsts_over number (group ∷ groups) are higher =
    let parts : Each (λ table. number < table.number) group.tables × Each (λ table. number < table.number) (joined groups) = each_parts (λ table. number < table.number) group.tables (joined groups) higher in
    (first_over group.first number group.tables are.0 parts.0, firsts_over number groups are.1 parts.1)

rest_over : (first : ℕ) (own : List TableRows) (groups : List TableGroup) → StartsWith first own → Each IsGroup groups → IsRising is_lower (own ++ joined groups) → Each (λ group. ltb first group.first ≡ true) groups
rest_over first [] groups starts are rises = absurd starts
rest_over first (table ∷ own) groups starts are rises =
    firsts_over first groups are
    (each_implies (λ other. is_lower table other ≡ true) (λ other. first < other.number) (λ other h. above_it table.number other.number first first h starts (omega arith)) (joined groups) (each_parts (λ other. is_lower table other ≡ true) own (joined groups) rises.0).1)

groups_rise : (groups : List TableGroup) → Each IsGroup groups → IsRising is_lower (joined groups) → IsRising (λ group other. ltb group.first other.first) groups
groups_rise [] are rises = tt
groups_rise (group ∷ groups) are rises =
    (rest_over group.first group.tables groups are.0 are.1 rises, groups_rise groups are.1 (rising_parts is_lower group.tables (joined groups) rises).1)

-- those that start no higher than the number come before the others
pub groups_parted : (groups : List TableGroup) (number : ℕ) → AreGroups groups → IsPartitionedBy (λ group. leb group.first number) groups
groups_parted groups number are =
    IsPartitionedBy-leb (λ (group : TableGroup). group.first) groups number
    (rising_numbers (λ (group : TableGroup) (other : TableGroup). ltb group.first other.first) (λ group. group.first) (λ group other h. lower_is_le group.first other.first h) groups (groups_rise groups are.each are.tables.rise))

-- the last of those that start no higher than the number, or the first group
module _ (groups : List TableGroup) (number place at : ℕ) (are : AreGroups groups) (some : 0 < length groups) (inside : place ≤ length groups) (parts : IsPartitionPoint (λ (group : TableGroup). leb group.first number ≡ true) (λ group. leb group.first number ≡ false) groups place) (is : at ≡ place - 1) where
  pub place_bound : at < length groups
  place_bound = omega arith

  lower_before : at + 1 ≡ place → Each (λ table. table.number < number) (joined (take at groups))
  lower_before one_more =
      let none : TableGroup = record { first = 0; tables = [] } in
      let group : TableGroup = get_or groups at none in
      let whole : take at groups ++ group ∷ drop (at + 1) groups ≡ groups = ap (λ gs. take at groups ++ gs) (sym (drop_more groups at none (omega arith))) ∙ take-append-drop at groups in
      below_group number group.first (joined (take at groups)) group.tables (joined (drop (at + 1) groups))
      (All-from_recursion IsGroup groups are.each at none (omega arith)) (is_up_to group.first number (parts.0 at none (omega arith) (omega arith)))
      (subst (IsRising is_lower) (ap joined (sym whole) ∙ joined_append (take at groups) (group ∷ drop (at + 1) groups)) are.tables.rise)

  pub lower_tables : Each (λ table. table.number < number) (joined (take at groups))
  lower_tables =
      ⊎_elim
      (λ (up : 0 < place). lower_before (omega arith))
      (λ (zero_it : place ≤ 0). let first : 0 ≡ at = omega arith in subst (λ n. Each (λ (table : TableRows). table.number < number) (joined (take n groups))) first tt)
      (cases_lt 0 place)

  pub higher_tables : Each (λ table. number < table.number) (joined (drop (at + 1) groups))
  higher_tables =
      above_groups number (drop (at + 1) groups)
      (each_parts IsGroup (take (at + 1) groups) (drop (at + 1) groups) (subst (Each IsGroup) (sym (take-append-drop (at + 1) groups)) are.each)).1
      (rising_parts is_lower (joined (take (at + 1) groups)) (joined (drop (at + 1) groups))
      (subst (IsRising is_lower) (ap joined (sym (take-append-drop (at + 1) groups)) ∙ joined_append (take (at + 1) groups) (drop (at + 1) groups)) are.tables.rise)).1
      (each_back (λ group. number < group.first) groups (at + 1) (omega arith) (λ k d low below. is_above (get_or groups k d).first number (parts.1 k d (omega arith) below)))

-- ---- an edit of one table

unnamed_by : (table n m : ℕ) → Some table ≡ Some n → eqb m n ≡ false → eqb table m ≡ false
unnamed_by table n m named other = let same : table ≡ n = cc in grind (arith, nat_tests)

unnamed : (edit : RouteEdit) (n m : ℕ) → named_table edit ≡ Some n → eqb m n ≡ false → names_table edit m ≡ false
unnamed (Put route) n m named other = unnamed_by route.table n m named other
unnamed (Remove key) n m named other = unnamed_by key.table n m named other
unnamed (Flush selector) n m named other = ap (λ (table : Option ℕ). agrees (λ a b. eqb a b) table m) named ∙ turned n m other

kept_by : (edit : RouteEdit) (table : TableRows) (tables : List TableRows) → has_rows table ≡ true → names_table edit table.number ≡ false → tables_after edit (table ∷ tables) ≡ table ∷ tables_after edit tables
kept_by edit table tables filled other =
    let kept : table_after edit table ≡ table = ap (λ b. let t : TableRows = record { number = table.number; rows = cond b (after_edit edit table.rows) table.rows } in t) other in
    ap (λ (t : TableRows). cond (has_rows t) (t ∷ tables_after edit tables) (tables_after edit tables)) kept
    ∙ ap (λ b. cond b (table ∷ tables_after edit tables) (tables_after edit tables)) filled

-- tables that the edit doesn't name stay as they are
untouched : (edit : RouteEdit) (n : ℕ) → named_table edit ≡ Some n → (tables : List TableRows) → Each (λ table. has_rows table ≡ true) tables → Each (λ table. eqb table.number n ≡ false) tables → tables_after edit tables ≡ tables
untouched edit n named [] filled others = refl
untouched edit n named (table ∷ tables) filled others =
    kept_by edit table tables filled.0 (unnamed edit n table.number named others.0)
    ∙ ap (λ ts. table ∷ ts) (untouched edit n named tables filled.1 others.1)

after_append : (edit : RouteEdit) (front back : List TableRows) → tables_after edit (front ++ back) ≡ tables_after edit front ++ tables_after edit back
after_append edit front back = ap (filter has_rows) (map-append (table_after edit) front back) ∙ filter-append has_rows (map (table_after edit) front) (map (table_after edit) back)

or_false : (b : Bool) → (b || false) ≡ b
or_false true = refl
or_false false = refl

same_table : (table n : ℕ) → Some table ≡ Some n → table ≡ n
same_table table n named = cc

not_before : (a b n : ℕ) → b < n → a ≡ n → ltb a b ≡ false
not_before a b n lt is = grind (arith, nat_tests)

is_before : (a b n : ℕ) → n < b → a ≡ n → ltb a b ≡ true
is_before a b n lt is = grind (arith, nat_tests)

-- the tables before those of one group, and after them
module _ (number : ℕ) (front own back : List TableRows) (are : AreTables (front ++ (own ++ back))) (lower : Each (λ table. table.number < number) front) (higher : Each (λ table. number < table.number) back) where
  pub own_are : AreTables own
  own_are = are_front own back (are_back front (own ++ back) are)

  pub own_rows : rows_of_table number (all_rows own) ≡ rows_of_table number (all_rows (front ++ (own ++ back)))
  own_rows =
      let parts : AreTables (own ++ back) = are_back front (own ++ back) are in
      sym
      (ap (rows_of_table number) (rows_of_parts front own back)
      ∙ filter-append (λ row. eqb row.table number) (all_rows front) (all_rows own ++ all_rows back)
      ∙ ap (λ rows. rows ++ rows_of_table number (all_rows own ++ all_rows back)) (no_rows number front (are_front front (own ++ back) are).own (all_under number front lower))
      ∙ filter-append (λ row. eqb row.table number) (all_rows own) (all_rows back)
      ∙ ap (λ rows. rows_of_table number (all_rows own) ++ rows) (no_rows number back (are_back own back parts).own (all_over number back higher))
      ∙ append-nil (rows_of_table number (all_rows own)))

  has_own : has_table number (front ++ (own ++ back)) ≡ has_table number own
  has_own =
      list_any-append (λ table. eqb table.number number) front (own ++ back)
      ∙ ap (λ b. b || has_table number (own ++ back)) (any_none (λ table. eqb table.number number) front (all_under number front lower))
      ∙ list_any-append (λ table. eqb table.number number) own back
      ∙ ap (λ b. has_table number own || b) (any_none (λ table. eqb table.number number) back (all_over number back higher))
      ∙ or_false (has_table number own)

  module _ (edit : RouteEdit) (named : named_table edit ≡ Some number) where
    after_around : tables_after edit (front ++ (own ++ back)) ≡ front ++ (tables_after edit own ++ back)
    after_around =
        let parts : AreTables (own ++ back) = are_back front (own ++ back) are in
        after_append edit front (own ++ back)
        ∙ ap (λ ts. ts ++ tables_after edit (own ++ back)) (untouched edit number named front (are_front front (own ++ back) are).filled (all_under number front lower))
        ∙ ap (λ ts. front ++ ts)
        (after_append edit own back
        ∙ ap (λ ts. tables_after edit own ++ ts) (untouched edit number named back (are_back own back parts).filled (all_over number back higher)))

  put_around : (route : Route) (tables : List TableRows) (b : Bool) → route.table ≡ number → cond b (front ++ (tables ++ back)) (insert_by is_lower (table_of route) (front ++ (tables ++ back))) ≡ front ++ (cond b tables (insert_by is_lower (table_of route) tables) ++ back)
  put_around route tables true same = refl
  put_around route tables false same =
      insert_after is_lower (table_of route) front (tables ++ back) (each_implies (λ table. table.number < number) (λ table. is_lower (table_of route) table ≡ false) (λ table h. not_before route.table table.number number h same) front lower)
      ∙ ap (λ ts. front ++ ts) (insert_in_front is_lower (table_of route) tables back (each_implies (λ table. number < table.number) (λ table. is_lower (table_of route) table ≡ true) (λ table h. is_before route.table table.number number h same) back higher))

  -- an edit of one table changes only those of the group
  pub with_around : (edit : RouteEdit) → named_table edit ≡ Some number → tables_with edit (front ++ (own ++ back)) ≡ front ++ (tables_with edit own ++ back)
  with_around (Put route) named =
      let same : route.table ≡ number = same_table route.table number named in
      let there : has_table route.table (front ++ (own ++ back)) ≡ has_table route.table own = ap (λ n. has_table n (front ++ (own ++ back))) same ∙ has_own ∙ ap (λ n. has_table n own) (sym same) in
      ap (λ b. cond b (tables_after (Put route) (front ++ (own ++ back))) (insert_by is_lower (table_of route) (tables_after (Put route) (front ++ (own ++ back))))) there
      ∙ ap (λ ts. cond (has_table route.table own) ts (insert_by is_lower (table_of route) ts)) (after_around (Put route) named)
      ∙ put_around route (tables_after (Put route) own) (has_table route.table own) same
  with_around (Remove key) named = after_around (Remove key) named
  with_around (Flush selector) named = after_around (Flush selector) named

-- ---- an edit of one group

module _ (groups : List TableGroup) (number : ℕ) (front back : List TableGroup) (group : TableGroup) (are : AreGroups groups) (whole : front ++ group ∷ back ≡ groups) (lower : Each (λ table. table.number < number) (joined front)) (higher : Each (λ table. number < table.number) (joined back)) where
  in_parts : joined groups ≡ joined front ++ (group.tables ++ joined back)
  in_parts = ap joined (sym whole) ∙ joined_append front (group ∷ back)

  parts_are : AreTables (joined front ++ (group.tables ++ joined back))
  parts_are = subst AreTables in_parts are.tables

  pub group_are : AreTables group.tables
  group_are = own_are number (joined front) group.tables (joined back) parts_are lower higher

  pub group_rows : rows_of_table number (all_rows group.tables) ≡ rows_of_table number (all_rows (joined groups))
  group_rows = own_rows number (joined front) group.tables (joined back) parts_are lower higher ∙ ap (λ tables. rows_of_table number (all_rows tables)) (sym in_parts)

  group_count : length (all_rows (joined groups)) ≡ length (all_rows (joined front)) + (length (all_rows group.tables) + length (all_rows (joined back)))
  group_count = ap (λ tables. length (all_rows tables)) in_parts ∙ count_of_parts (joined front) group.tables (joined back)

  pub group_within : length (all_rows group.tables) ≤ length (all_rows (joined groups))
  group_within = let count = group_count in omega arith

  module _ (edit : RouteEdit) (named : named_table edit ≡ Some number) (routes : List Route) (view : all_rows (joined groups) ≡ routes) (tables : List TableRows) (made : tables ≡ tables_with edit group.tables) where
    tables_around : joined front ++ (tables ++ joined back) ≡ tables_with edit (joined groups)
    tables_around =
        ap (λ ts. joined front ++ (ts ++ joined back)) made
        ∙ sym (with_around number (joined front) group.tables (joined back) parts_are lower higher edit named)
        ∙ ap (tables_with edit) (sym in_parts)

    rows_around : all_rows (joined front ++ (tables ++ joined back)) ≡ after_edit edit routes
    rows_around = all_rows_with edit routes (joined groups) (joined groups) (joined front ++ (tables ++ joined back)) are.tables view refl tables_around

    count_around : length (after_edit edit routes) ≡ length (all_rows (joined front)) + (length (all_rows tables) + length (all_rows (joined back)))
    count_around = ap length (sym rows_around) ∙ count_of_parts (joined front) tables (joined back)

    pub tables_within : length (all_rows tables) ≤ length (after_edit edit routes)
    tables_within = let count = count_around in omega arith

    -- as many rows come as the group has more than before
    pub count_changed : (before after : ℕ) → before ≡ length (all_rows group.tables) → after ≡ length (all_rows tables) → length (all_rows (joined groups)) - before + after ≡ length (after_edit edit routes)
    count_changed before after was now = let old = group_count in let new = count_around in omega arith

    module _ (new : TableGroup) (is : new.tables ≡ tables) (is_group : IsGroup new) (made_groups : List TableGroup) (around : made_groups ≡ front ++ new ∷ back) where
      joined_around : joined made_groups ≡ joined front ++ (tables ++ joined back)
      joined_around = ap joined around ∙ joined_append front (new ∷ back) ∙ ap (λ ts. joined front ++ (ts ++ joined back)) is

      pub groups_with : AreGroups made_groups
      groups_with =
          let each : Each IsGroup front × Each IsGroup (group ∷ back) = each_parts IsGroup front (group ∷ back) (subst (Each IsGroup) (sym whole) are.each) in
          record {
            tables = subst AreTables (sym (joined_around ∙ tables_around)) (are_with edit (joined groups) are.tables);
            each = subst (Each IsGroup) (sym around) (each_append IsGroup front (new ∷ back) each.0 (is_group, each.1.1));
          }

      pub groups_rows : all_rows (joined made_groups) ≡ after_edit edit routes
      groups_rows = ap all_rows joined_around ∙ rows_around

      some_around : (xs : List TableGroup) → 0 < length (xs ++ new ∷ back)
      some_around [] = omega arith
      some_around (x ∷ xs) = omega arith

      pub some_groups : 0 < length made_groups
      some_groups = subst (λ gs. 0 < length gs) (sym around) (some_around front)

-- ---- the routes that a selector takes

own_selected : (a b c d e f : Bool) → (a && b && c && d && e && f) ≡ true → a ≡ true
own_selected true b c d e f h = refl
own_selected false b c d e f h = cc

is_of_table : (selector : Selector) (number : ℕ) (row : Route) → selector.table ≡ Some number → is_selected selector row ≡ true → eqb row.table number ≡ true
is_of_table selector number row named taken =
    let agreed : agrees (λ a b. eqb a b) selector.table row.table ≡ true = own_selected (agrees (λ a b. eqb a b) selector.table row.table) (in_range selector.range row.prefix) (agrees is_same_kind selector.kind row.kind) (agrees (λ a b. eqb a b) selector.proto row.proto) (agrees (λ a b. eqb a b) selector.scope row.scope) (agrees_there bytes_eq selector.dev row.dev) taken in
    other_way number row.table (subst (λ table. agrees (λ a b. eqb a b) table row.table ≡ true) named agreed)

-- those that a selector of one table takes are in the table
pub selected_of_table : (selector : Selector) (number : ℕ) (own routes : List Route) → selector.table ≡ Some number → rows_of_table number own ≡ rows_of_table number routes → filter (is_selected selector) own ≡ filter (is_selected selector) routes
selected_of_table selector number own routes named same =
    sym (filter_absorbed (is_selected selector) (λ row. eqb row.table number) own (λ row h. is_of_table selector number row named h))
    ∙ ap (filter (is_selected selector)) same
    ∙ filter_absorbed (is_selected selector) (λ row. eqb row.table number) routes (λ row h. is_of_table selector number row named h)

-- one group more
pub selected_more_groups : (selector : Selector) (groups : List TableGroup) (i : ℕ) (group : TableGroup) (old before after : List Route) → i < length groups → group ≡ get_or groups i group → before ≡ old ++ filter (is_selected selector) (all_rows (joined (take i groups))) → after ≡ before ++ filter (is_selected selector) (all_rows group.tables) → after ≡ old ++ filter (is_selected selector) (all_rows (joined (take (i + 1) groups)))
selected_more_groups selector groups i group old before after lt is so_far adds =
    adds ∙ ap (λ rows. rows ++ filter (is_selected selector) (all_rows group.tables)) so_far
    ∙ append_assoc old (filter (is_selected selector) (all_rows (joined (take i groups)))) (filter (is_selected selector) (all_rows group.tables))
    ∙ ap (λ rows. old ++ rows)
    (sym (filter-append (is_selected selector) (all_rows (joined (take i groups))) (all_rows group.tables))
    ∙ ap (filter (is_selected selector)) (sym (ap all_rows (joined_more groups i group lt is) ∙ rows_append (joined (take i groups)) group.tables)))

-- each of the tables of a group holds
pub group_holds : (P : TableRows → Type 0) (groups : List TableGroup) (i : ℕ) (group : TableGroup) → Each P (joined groups) → i < length groups → group ≡ get_or groups i group → Each P group.tables
group_holds P [] i group h lt is = absurd (omega arith)
group_holds P (first ∷ groups) zero group h lt is = subst (λ (g : TableGroup). Each P g.tables) (sym is) (each_parts P first.tables (joined groups) h).0
group_holds P (first ∷ groups) (suc i) group h lt is = group_holds P groups i group (each_parts P first.tables (joined groups) h).1 (omega arith) is
