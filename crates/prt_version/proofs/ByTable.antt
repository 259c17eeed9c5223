-- Routes one table after another: what one table says of all, and what an edit makes of each.
use Rattle.std.proofs.Common.{◌≡◌, ℕ, zero, suc, ◌+◌, ◌<◌, ◌≤◌, Bool, true, false, not, ◌&&◌, ◌||◌, eqb, ltb, List, [], ◌∷◌, ◌++◌, length, get_or, map, take, Option, None, refl, sym, ap, subst, ◌∙◌, append_assoc, arith, cond, ⊎_elim}
use Rattle.std.specs.Cmp.{IsStrictWeakOrder}
use Rattle.std.specs.Prelude.{All, bytes_eq, unwrap_or}
use Rattle.std.specs.Ordering.{nat_cmp, ordering_index}
use Rattle.std.specs.List.{filter, insert, list_any, position, AllByRecursion as Each}
use Rattle.std.specs.List.Sorted.{IsNonDecreasingBy, IsPartitionPoint}
use Rattle.std.specs.declared.cmp.Ordering.TheVariants.{Less, Equal, Greater}
use Rattle.std.proofs.lemmas.Bool.{cases_Bool, cases_lt}
use Rattle.std.proofs.lemmas.Bool.Decides.{nat_tests}
use Rattle.std.proofs.lemmas.Cmp.{ranked}
use Rattle.std.proofs.lemmas.List.{append-nil, take_more, length-append}
use Rattle.std.proofs.lemmas.List.Elements.{All-from_recursion, filter-append, recursion_from_All}
use Rattle.prt_addr.specs.Given.{agrees, agrees_there}
use Rattle.prt_addr.specs.Order.{first_by, insert_by}
use Rattle.prt_addr.specs.Rising.{IsRising}
use Rattle.prt_addr.specs.Prefix.{contains, is_same_prefix}
use Rattle.prt_addr.specs.declared.addr.Addr.{Addr}
use Rattle.prt_addr.proofs.Each.{each_append, each_filtered, each_implies, each_fails}
use Rattle.prt_addr.proofs.Orders.{each_inserted, inserted_at, inserted_rises, rising_filtered}
use Rattle.prt_route.specs.Best.{best, is_candidate}
use Rattle.prt_route.specs.Edit.{after_edit, has_key, without_key}
use Rattle.prt_route.specs.Route.{has_lower_metric, is_better, is_listed_before, is_same_key, key_of}
use Rattle.prt_route.specs.RouteChoice.{chosen_route, is_chosen, is_same_addr, is_same_kind, is_selected, takes_metric}
use Rattle.prt_route.specs.declared.choice.RouteChoice.{RouteChoice}
use Rattle.prt_route.specs.declared.choice.Selector.{Selector}
use Rattle.prt_route.specs.declared.edit.RouteEdit.{RouteEdit}
use Rattle.prt_route.specs.declared.edit.RouteEdit.TheVariants.{Put, Remove, Flush}
use Rattle.prt_route.specs.declared.route.Route.{Route}
use Rattle.prt_route.specs.declared.route.RouteKey.{RouteKey}
use Rattle.prt_trie.specs.Table.{IsOfTable}
use Rattle.prt_version.proofs.SortedRows.{rising_numbers}
use Rattle.prt_version.specs.Tables.{AreTables, HasOwnRows, TableRows, all_rows, has_rows, has_table, is_lower, names_table, rows_of_table, table_after, table_of, tables_after, tables_with}

-- ---- filters and tests of lists

contrary : (b c : Bool) → (b ≡ true → c ≡ true) → c ≡ false → b ≡ false
contrary true c more is = absurd (let t : c ≡ true = more refl in cc)
contrary false c more is = refl

module _ {X : Type 0} where
  filter_all : (p : X → Bool) (xs : List X) → Each (λ x. p x ≡ true) xs → filter p xs ≡ xs
  filter_all p [] h = refl
  filter_all p (x ∷ xs) h = rw (h.0, filter_all p xs h.1) refl

  filter_none : (p : X → Bool) (xs : List X) → Each (λ x. p x ≡ false) xs → filter p xs ≡ []
  filter_none p [] h = refl
  filter_none p (x ∷ xs) h = rw (h.0, filter_none p xs h.1) refl

  -- those that pass one test, which all pass that pass the other
  pub filter_absorbed : (p q : X → Bool) (xs : List X) → ((x : X) → p x ≡ true → q x ≡ true) → filter p (filter q xs) ≡ filter p xs
  filter_absorbed p q [] more = refl
  filter_absorbed p q (x ∷ xs) more =
      ⊎_elim
      (λ (yes : q x ≡ true). rw yes (ap (λ rest. cond (p x) (x ∷ rest) rest) (filter_absorbed p q xs more)))
      (λ (no : q x ≡ false). let neither : p x ≡ false = contrary (p x) (q x) (more x) no in rw (no, neither) (filter_absorbed p q xs more))
      (cases_Bool (q x))

  any_absorbed : (p q : X → Bool) (xs : List X) → ((x : X) → p x ≡ true → q x ≡ true) → list_any p (filter q xs) ≡ list_any p xs
  any_absorbed p q [] more = refl
  any_absorbed p q (x ∷ xs) more =
      ⊎_elim
      (λ (yes : q x ≡ true). rw yes (ap (λ rest. p x || rest) (any_absorbed p q xs more)))
      (λ (no : q x ≡ false). let neither : p x ≡ false = contrary (p x) (q x) (more x) no in rw (no, neither) (any_absorbed p q xs more))
      (cases_Bool (q x))

  each_at : (P : X → Type 0) (xs : List X) (i : ℕ) (x : X) → Each P xs → i < length xs → x ≡ get_or xs i x → P x
  each_at P [] i x h lt is = absurd (omega arith)
  each_at P (y ∷ ys) zero x h lt is = subst P (sym is) h.0
  each_at P (y ∷ ys) (suc i) x h lt is = each_at P ys i x h.1 (omega arith) is

passes_by : {X : Type 0} (p : X → Bool) (x : X) (xs : List X) (b : Bool) → p x ≡ b → Each (λ y. p y ≡ true) xs → Each (λ y. p y ≡ true) (cond b (x ∷ xs) xs)
passes_by p x xs true is others = (is, others)
passes_by p x xs false is others = others

each_passes : {X : Type 0} (p : X → Bool) (xs : List X) → Each (λ x. p x ≡ true) (filter p xs)
each_passes p [] = tt
each_passes p (x ∷ xs) = passes_by p x (filter p xs) (p x) refl (each_passes p xs)

-- ---- what one table says of all routes

own_first : (a b : Bool) → (a && b) ≡ true → a ≡ true
own_first true b h = refl
own_first false b h = cc

own_key : (a b c : Bool) → (a && b && c) ≡ true → a ≡ true
own_key true b c h = refl
own_key false b c h = cc

own_choice : (a b c d e f g h i : Bool) → (a && b && c && d && e && f && g && h && i) ≡ true → a ≡ true
own_choice true b c d e f g h i all = refl
own_choice false b c d e f g h i all = cc

pub other_way : (a b : ℕ) → eqb a b ≡ true → eqb b a ≡ true
other_way a b h = grind (arith, nat_tests)

pub best_of_table : (routes : List Route) (table : ℕ) (addr : Addr) → best routes table addr ≡ best (rows_of_table table routes) table addr
best_of_table routes table addr =
    ap (first_by is_better) (sym (filter_absorbed (is_candidate table addr) (λ route. eqb route.table table) routes
    (λ route h. own_first (eqb route.table table) (contains route.prefix addr) h)))

pub has_key_of_table : (key : RouteKey) (routes : List Route) → has_key key routes ≡ has_key key (rows_of_table key.table routes)
has_key_of_table key routes =
    sym (any_absorbed (λ route. is_same_key (key_of route) key) (λ route. eqb route.table key.table) routes
    (λ route h. own_key (eqb route.table key.table) (is_same_prefix route.prefix key.prefix) (eqb route.metric key.metric) h))

chosen_is_own : (choice : RouteChoice) (route : Route) → is_chosen choice route ≡ true → eqb route.table choice.table ≡ true
chosen_is_own choice route taken =
    other_way choice.table route.table
    (own_choice (eqb choice.table route.table) (is_same_prefix choice.prefix route.prefix) (takes_metric choice.metric route.metric) (agrees is_same_kind choice.kind route.kind) (agrees_there is_same_addr choice.via route.via) (agrees_there bytes_eq choice.dev route.dev) (agrees_there is_same_addr choice.src route.src) (agrees (λ a b. eqb a b) choice.proto route.proto) (agrees (λ a b. eqb a b) choice.scope route.scope) taken)

pub chosen_of_table : (choice : RouteChoice) (routes : List Route) → chosen_route choice routes ≡ chosen_route choice (rows_of_table choice.table routes)
chosen_of_table choice routes =
    ap (first_by has_lower_metric) (sym (filter_absorbed (is_chosen choice) (λ route. eqb route.table choice.table) routes (chosen_is_own choice)))

-- ---- the rows of one of the tables

each_row : (P : Route → Type 0) (tables : List TableRows) → Each (λ table. Each P table.rows) tables → Each P (all_rows tables)
each_row P [] h = tt
each_row P (table ∷ tables) h = each_append P table.rows (all_rows tables) h.0 (each_row P tables h.1)

pub both_in_each : {X : Type 0} (P Q : X → Type 0) (xs : List X) → Each P xs → Each Q xs → Each (λ x. P x × Q x) xs
both_in_each P Q [] h k = tt
both_in_each P Q (x ∷ xs) h k = ((h.0, k.0), both_in_each P Q xs h.1 k.1)

pub rows_append : (front back : List TableRows) → all_rows (front ++ back) ≡ all_rows front ++ all_rows back
rows_append [] back = refl
rows_append (table ∷ front) back = ap (λ rows. table.rows ++ rows) (rows_append front back) ∙ sym (append_assoc table.rows (all_rows front) (all_rows back))

-- what the tables' numbers say of their rows
rows_by_number : (P : ℕ → Type 0) (tables : List TableRows) → Each HasOwnRows tables → Each (λ table. P table.number) tables → Each (λ row. P row.table) (all_rows tables)
rows_by_number P tables own numbers =
    each_row (λ row. P row.table) tables
    (each_implies (λ table. HasOwnRows table × P table.number) (λ table. Each (λ row. P row.table) table.rows)
    (λ table h. each_implies (λ row. row.table ≡ table.number) (λ row. P row.table) (λ row is. subst P (sym is) h.1) table.rows h.0) tables
    (both_in_each HasOwnRows (λ table. P table.number) tables own numbers))

is_own : (table number : ℕ) → table ≡ number → eqb table number ≡ true
is_own table number h = grind (arith, nat_tests)

is_not_own : (table number : ℕ) → ltb number table ≡ true → eqb table number ≡ false
is_not_own table number h = grind (arith, nat_tests)

is_lower_one : (table number : ℕ) → ltb table number ≡ true → eqb table number ≡ false
is_lower_one table number h = grind (arith, nat_tests)

pub turned : (a b : ℕ) → eqb b a ≡ false → eqb a b ≡ false
turned a b h = grind (arith, nat_tests)

over : (a b c : ℕ) → ltb a b ≡ true → ltb b c ≡ true → ltb a c ≡ true
over a b c first second = grind (arith, nat_tests)

under : (a b c : ℕ) → ltb a b ≡ true → eqb b c ≡ true → ltb a c ≡ true
under a b c first second = grind (arith, nat_tests)

beneath : (a b : ℕ) → ltb a b ≡ false → eqb b a ≡ false → ltb b a ≡ true
beneath a b over other = grind (arith, nat_tests)

second_holds : (b c : Bool) → b ≡ false → (b || c) ≡ true → c ≡ true
second_holds true c fails h = absurd cc
second_holds false c fails h = h

pub lower_is_le : (a b : ℕ) → ltb a b ≡ true → a ≤ b
lower_is_le a b h = grind (arith, nat_tests)

equal_numbers : (a b : ℕ) → eqb a b ≡ true → a ≡ b
equal_numbers a b h = grind (arith, nat_tests)

tail_of : (table : TableRows) (tables : List TableRows) → AreTables (table ∷ tables) → AreTables tables
tail_of table tables are = record { rise = are.rise.1; own = are.own.1; filled = are.filled.1 }

-- the rows of a table with this number are those of its place
pub rows_at : (tables : List TableRows) (i : ℕ) (table : TableRows) → AreTables tables → i < length tables → table ≡ get_or tables i table → rows_of_table table.number (all_rows tables) ≡ table.rows
rows_at [] i table are lt is = absurd (omega arith)
rows_at (first ∷ others) zero table are lt is =
    let higher : Each (λ row. eqb row.table first.number ≡ false) (all_rows others) = rows_by_number (λ n. eqb n first.number ≡ false) others are.own.1 (each_implies (λ other. is_lower first other ≡ true) (λ other. eqb other.number first.number ≡ false) (λ other h. is_not_own other.number first.number h) others are.rise.0) in
    let here : rows_of_table first.number (first.rows ++ all_rows others) ≡ first.rows =
    filter-append (λ row. eqb row.table first.number) first.rows (all_rows others)
    ∙ rw (filter_all (λ row. eqb row.table first.number) first.rows (each_implies (λ row. row.table ≡ first.number) (λ row. eqb row.table first.number ≡ true) (λ row h. is_own row.table first.number h) first.rows are.own.0), filter_none (λ row. eqb row.table first.number) (all_rows others) higher) (append-nil first.rows) in
    subst (λ (t : TableRows). rows_of_table t.number (all_rows (first ∷ others)) ≡ t.rows) (sym is) here
rows_at (first ∷ others) (suc i) table are lt is =
    let above : is_lower first table ≡ true = each_at (λ other. is_lower first other ≡ true) others i table are.rise.0 (omega arith) is in
    filter-append (λ row. eqb row.table table.number) first.rows (all_rows others)
    ∙ rw (filter_none (λ row. eqb row.table table.number) first.rows (each_implies (λ row. row.table ≡ first.number) (λ row. eqb row.table table.number ≡ false) (λ row h. subst (λ n. eqb n table.number ≡ false) (sym h) (is_lower_one first.number table.number above)) first.rows are.own.0)) (rows_at others i table (tail_of first others are) (omega arith) is)

-- no rows, if no table has the number
pub no_rows : (number : ℕ) (tables : List TableRows) → Each HasOwnRows tables → Each (λ table. eqb table.number number ≡ false) tables → rows_of_table number (all_rows tables) ≡ []
no_rows number tables own others = filter_none (λ row. eqb row.table number) (all_rows tables) (rows_by_number (λ n. eqb n number ≡ false) tables own others)

-- ---- an edit, table by table

module _ {X : Type 0} (before : X → X → Bool) where
  insert_first : (x : X) (ys : List X) → Each (λ y. before x y ≡ true) ys → insert_by before x ys ≡ x ∷ ys
  insert_first x [] h = refl
  insert_first x (y ∷ ys) h = rw h.0 refl

  -- in front of a part that it comes before
  pub insert_in_front : (x : X) (front back : List X) → Each (λ y. before x y ≡ true) back → insert_by before x (front ++ back) ≡ insert_by before x front ++ back
  insert_in_front x [] back h = insert_first x back h
  insert_in_front x (y ∷ front) back h =
      ⊎_elim
      (λ (ahead : before x y ≡ true). rw ahead refl)
      (λ (after : before x y ≡ false). rw after (ap (λ rest. y ∷ rest) (insert_in_front x front back h)))
      (cases_Bool (before x y))

  -- after a part that it does not come before
  pub insert_after : (x : X) (front back : List X) → Each (λ y. before x y ≡ false) front → insert_by before x (front ++ back) ≡ front ++ insert_by before x back
  insert_after x [] back h = refl
  insert_after x (y ∷ front) back h = rw h.0 (ap (λ rest. y ∷ rest) (insert_after x front back h.1))

filled_by : (table : TableRows) (tables : List TableRows) (rows : List Route) → table.rows ≡ rows → all_rows (cond (has_rows table) (table ∷ tables) tables) ≡ table.rows ++ all_rows tables
filled_by table tables [] is = rw is refl
filled_by table tables (row ∷ rows) is = rw is refl

-- a table without rows adds none
rows_of_filled : (tables : List TableRows) → all_rows (filter has_rows tables) ≡ all_rows tables
rows_of_filled [] = refl
rows_of_filled (table ∷ tables) = filled_by table (filter has_rows tables) table.rows refl ∙ ap (λ rest. table.rows ++ rest) (rows_of_filled tables)

unlike_key : (row : Route) (key : RouteKey) → eqb row.table key.table ≡ false → is_same_key (key_of row) key ≡ false
unlike_key row key h = grind (arith, nat_tests)

kept_row : (row : Route) (key : RouteKey) → eqb row.table key.table ≡ false → not (is_same_key (key_of row) key) ≡ true
kept_row row key h = ap not (unlike_key row key h)

-- rows of other tables have another key
without_other_key : (key : RouteKey) (rows : List Route) → Each (λ row. eqb row.table key.table ≡ false) rows → without_key key rows ≡ rows
without_other_key key rows others =
    filter_all (λ row. not (is_same_key (key_of row) key)) rows (each_implies (λ row. eqb row.table key.table ≡ false) (λ row. not (is_same_key (key_of row) key) ≡ true) (λ row. kept_row row key) rows others)

unselected_row : (selector : Selector) (row : Route) → agrees (λ a b. eqb a b) selector.table row.table ≡ false → is_selected selector row ≡ false
unselected_row selector row h = rw h refl

unselected : (selector : Selector) (row : Route) → agrees (λ a b. eqb a b) selector.table row.table ≡ false → not (is_selected selector row) ≡ true
unselected selector row h = ap not (unselected_row selector row h)

differs : (a b c : ℕ) → a ≡ b → eqb c b ≡ false → eqb a c ≡ false
differs a b c same other = grind (arith, nat_tests)

-- an edit leaves a table that it doesn't name as it is
without_by : (key : RouteKey) (table : TableRows) (b : Bool) → eqb key.table table.number ≡ b → HasOwnRows table → cond b (without_key key table.rows) table.rows ≡ without_key key table.rows
without_by key table true named own = refl
without_by key table false other own = sym (without_other_key key table.rows (each_implies (λ row. row.table ≡ table.number) (λ row. eqb row.table key.table ≡ false) (λ row h. differs row.table table.number key.table h other) table.rows own))

left_by_flush : (selector : Selector) (table : TableRows) (b : Bool) → agrees (λ a b. eqb a b) selector.table table.number ≡ b → HasOwnRows table → cond b (after_edit (Flush selector) table.rows) table.rows ≡ after_edit (Flush selector) table.rows
left_by_flush selector table true named own = refl
left_by_flush selector table false other own =
    sym (filter_all (λ row. not (is_selected selector row)) table.rows (each_implies (λ row. row.table ≡ table.number) (λ row. not (is_selected selector row) ≡ true) (λ row h. unselected selector row (subst (λ n. agrees (λ a b. eqb a b) selector.table n ≡ false) (sym h) other)) table.rows own))

-- one table after another
removed_rows : (key : RouteKey) (tables : List TableRows) → Each HasOwnRows tables → all_rows (map (table_after (Remove key)) tables) ≡ without_key key (all_rows tables)
removed_rows key [] own = refl
removed_rows key (table ∷ tables) own =
    ap (λ rows. rows ++ all_rows (map (table_after (Remove key)) tables)) (without_by key table (eqb key.table table.number) refl own.0)
    ∙ ap (λ rows. without_key key table.rows ++ rows) (removed_rows key tables own.1)
    ∙ sym (filter-append (λ row. not (is_same_key (key_of row) key)) table.rows (all_rows tables))

flushed_rows : (selector : Selector) (tables : List TableRows) → Each HasOwnRows tables → all_rows (map (table_after (Flush selector)) tables) ≡ after_edit (Flush selector) (all_rows tables)
flushed_rows selector [] own = refl
flushed_rows selector (table ∷ tables) own =
    ap (λ rows. rows ++ all_rows (map (table_after (Flush selector)) tables)) (left_by_flush selector table (agrees (λ a b. eqb a b) selector.table table.number) refl own.0)
    ∙ ap (λ rows. after_edit (Flush selector) table.rows ++ rows) (flushed_rows selector tables own.1)
    ∙ sym (filter-append (λ row. not (is_selected selector row)) table.rows (all_rows tables))

-- ---- a route put

lower_row : (route row : Route) → ltb row.table route.table ≡ true → is_listed_before route row ≡ false
lower_row route row h = grind (arith, nat_tests)

higher_row : (route row : Route) → ltb route.table row.table ≡ true → is_listed_before route row ≡ true
higher_row route row h = grind (arith, nat_tests)

same_rows_by : (route : Route) (table : TableRows) (b : Bool) → eqb route.table table.number ≡ b → b ≡ false → cond b (after_edit (Put route) table.rows) table.rows ≡ table.rows
same_rows_by route table true is other = absurd cc
same_rows_by route table false is other = refl

unnamed : (route : Route) (tables : List TableRows) → Each (λ table. eqb table.number route.table ≡ false) tables → all_rows (map (table_after (Put route)) tables) ≡ all_rows tables
unnamed route [] h = refl
unnamed route (table ∷ tables) h =
    ap (λ rows. rows ++ all_rows (map (table_after (Put route)) tables)) (same_rows_by route table (eqb route.table table.number) refl (turned route.table table.number h.0))
    ∙ ap (λ rows. table.rows ++ rows) (unnamed route tables h.1)

-- the tables with higher numbers than the route's
put_before : (route : Route) (tables : List TableRows) → Each HasOwnRows tables → Each (λ table. ltb route.table table.number ≡ true) tables → Each (λ row. is_listed_before route row ≡ true) (all_rows tables)
put_before route tables own higher =
    each_implies (λ row. ltb route.table row.table ≡ true) (λ row. is_listed_before route row ≡ true) (λ row. higher_row route row) (all_rows tables) (rows_by_number (λ n. ltb route.table n ≡ true) tables own higher)

other_tables : (route : Route) (tables : List TableRows) → Each HasOwnRows tables → Each (λ table. eqb table.number route.table ≡ false) tables → without_key (key_of route) (all_rows tables) ≡ all_rows tables
other_tables route tables own others = without_other_key (key_of route) (all_rows tables) (rows_by_number (λ n. eqb n route.table ≡ false) tables own others)

above_all : (route : Route) (table : TableRows) (tables : List TableRows) → ltb route.table table.number ≡ true → Each (λ other. is_lower table other ≡ true) tables → Each (λ other. ltb route.table other.number ≡ true) tables
above_all route table tables h rise = each_implies (λ other. is_lower table other ≡ true) (λ other. ltb route.table other.number ≡ true) (λ other k. over route.table table.number other.number h k) tables rise

-- a route in a table that is there
put_in_first : (route : Route) (table : TableRows) (tables : List TableRows) → AreTables (table ∷ tables) → table.number ≡ route.table → all_rows (map (table_after (Put route)) (table ∷ tables)) ≡ after_edit (Put route) (all_rows (table ∷ tables))
put_in_first route table tables are here =
    let named : eqb route.table table.number ≡ true = grind (arith, nat_tests) in
    let higher : Each (λ other. ltb route.table other.number ≡ true) tables = subst (λ n. Each (λ other. ltb n other.number ≡ true) tables) here are.rise.0 in
    let others : Each (λ other. eqb other.number route.table ≡ false) tables = each_implies (λ other. ltb route.table other.number ≡ true) (λ other. eqb other.number route.table ≡ false) (λ other. is_not_own other.number route.table) tables higher in
    ap (λ (b : Bool). cond b (after_edit (Put route) table.rows) table.rows ++ all_rows (map (table_after (Put route)) tables)) named
    ∙ ap (λ rows. after_edit (Put route) table.rows ++ rows) (unnamed route tables others)
    ∙ sym (insert_in_front is_listed_before route (without_key (key_of route) table.rows) (all_rows tables) (put_before route tables are.own.1 higher))
    ∙ ap (λ rows. insert_by is_listed_before route (without_key (key_of route) table.rows ++ rows)) (sym (other_tables route tables are.own.1 others))
    ∙ ap (insert_by is_listed_before route) (sym (filter-append (λ row. not (is_same_key (key_of row) (key_of route))) table.rows (all_rows tables)))

-- the rows of a lower table come before it
put_after_first : (route : Route) (table : TableRows) (rest : List Route) → HasOwnRows table → ltb table.number route.table ≡ true → after_edit (Put route) (table.rows ++ rest) ≡ table.rows ++ after_edit (Put route) rest
put_after_first route table rest own lower =
    let lower_rows : Each (λ row. ltb row.table route.table ≡ true) table.rows = each_implies (λ row. row.table ≡ table.number) (λ row. ltb row.table route.table ≡ true) (λ row h. subst (λ n. ltb n route.table ≡ true) (sym h) lower) table.rows own in
    let kept : without_key (key_of route) table.rows ≡ table.rows = without_other_key (key_of route) table.rows (each_implies (λ row. ltb row.table route.table ≡ true) (λ row. eqb row.table route.table ≡ false) (λ row. is_lower_one row.table route.table) table.rows lower_rows) in
    ap (insert_by is_listed_before route) (filter-append (λ row. not (is_same_key (key_of row) (key_of route))) table.rows rest ∙ ap (λ rows. rows ++ without_key (key_of route) rest) kept)
    ∙ insert_after is_listed_before route table.rows (without_key (key_of route) rest) (each_implies (λ row. ltb row.table route.table ≡ true) (λ row. is_listed_before route row ≡ false) (λ row. lower_row route row) table.rows lower_rows)

lower_than_it : (table : TableRows) (number : ℕ) (tables : List TableRows) → Each (λ other. is_lower table other ≡ true) tables → has_table number tables ≡ true → ltb table.number number ≡ true
lower_than_it table number [] rise h = absurd cc
lower_than_it table number (other ∷ others) rise h =
    ⊎_elim
    (λ (is : eqb other.number number ≡ true). under table.number other.number number rise.0 is)
    (λ (no : eqb other.number number ≡ false). lower_than_it table number others rise.1 (second_holds (eqb other.number number) (has_table number others) no h))
    (cases_Bool (eqb other.number number))

put_rows : (route : Route) (tables : List TableRows) → AreTables tables → has_table route.table tables ≡ true → all_rows (map (table_after (Put route)) tables) ≡ after_edit (Put route) (all_rows tables)
put_rows route [] are there = absurd cc
put_rows route (table ∷ tables) are there =
    ⊎_elim
    (λ (is : eqb table.number route.table ≡ true). put_in_first route table tables are (grind (arith, nat_tests)))
    (λ (no : eqb table.number route.table ≡ false).
    let later : has_table route.table tables ≡ true = second_holds (eqb table.number route.table) (has_table route.table tables) no there in
    ap (λ rows. rows ++ all_rows (map (table_after (Put route)) tables)) (same_rows_by route table (eqb route.table table.number) refl (turned route.table table.number no))
    ∙ ap (λ rows. table.rows ++ rows) (put_rows route tables (tail_of table tables are) later)
    ∙ sym (put_after_first route table (all_rows tables) are.own.0 (lower_than_it table route.table tables are.rise.0 later)))
    (cases_Bool (eqb table.number route.table))

-- a route in a table of its own
put_alone : (route : Route) (tables : List TableRows) → AreTables tables → Each (λ table. eqb table.number route.table ≡ false) tables → all_rows (insert_by is_lower (table_of route) tables) ≡ after_edit (Put route) (all_rows tables)
put_alone route [] are others = refl
put_alone route (table ∷ tables) are others =
    ⊎_elim
    (λ (ahead : ltb route.table table.number ≡ true).
    let higher : Each (λ other. ltb route.table other.number ≡ true) (table ∷ tables) = (ahead, above_all route table tables ahead are.rise.0) in
    ap all_rows (insert_first is_lower (table_of route) (table ∷ tables) higher)
    ∙ sym (insert_first is_listed_before route (all_rows (table ∷ tables)) (put_before route (table ∷ tables) are.own higher))
    ∙ ap (insert_by is_listed_before route) (sym (other_tables route (table ∷ tables) are.own others)))
    (λ (after : ltb route.table table.number ≡ false).
    rw after
    (ap (λ rows. table.rows ++ rows) (put_alone route tables (tail_of table tables are) others.1)
    ∙ sym (put_after_first route table (all_rows tables) are.own.0 (beneath route.table table.number after others.0))))
    (cases_Bool (ltb route.table table.number))

-- ---- what holds of the tables after an edit

numbers_after : (P : ℕ → Type 0) (edit : RouteEdit) (tables : List TableRows) → Each (λ table. P table.number) tables → Each (λ table. P table.number) (map (table_after edit) tables)
numbers_after P edit [] h = tt
numbers_after P edit (table ∷ tables) h = (h.0, numbers_after P edit tables h.1)

rise_after : (edit : RouteEdit) (tables : List TableRows) → IsRising is_lower tables → IsRising is_lower (map (table_after edit) tables)
rise_after edit [] rise = tt
rise_after edit (table ∷ tables) rise = (numbers_after (λ n. ltb table.number n ≡ true) edit tables rise.0, rise_after edit tables rise.1)

own_put : (route : Route) (table : TableRows) → route.table ≡ table.number → HasOwnRows table → Each (λ row. row.table ≡ table.number) (after_edit (Put route) table.rows)
own_put route table is own =
    each_inserted (λ row. row.table ≡ table.number) is_listed_before route (without_key (key_of route) table.rows) is (each_filtered (λ row. row.table ≡ table.number) (λ row. not (is_same_key (key_of row) (key_of route))) table.rows own)

own_after_by : (edit : RouteEdit) (table : TableRows) (b : Bool) → names_table edit table.number ≡ b → HasOwnRows table → Each (λ row. row.table ≡ table.number) (cond b (after_edit edit table.rows) table.rows)
own_after_by edit table false named own = own
own_after_by (Put route) table true named own = own_put route table (grind (arith, nat_tests)) own
own_after_by (Remove key) table true named own = each_filtered (λ row. row.table ≡ table.number) (λ row. not (is_same_key (key_of row) key)) table.rows own
own_after_by (Flush selector) table true named own = each_filtered (λ row. row.table ≡ table.number) (λ row. not (is_selected selector row)) table.rows own

own_after : (edit : RouteEdit) (tables : List TableRows) → Each HasOwnRows tables → Each HasOwnRows (map (table_after edit) tables)
own_after edit [] own = tt
own_after edit (table ∷ tables) own = (own_after_by edit table (names_table edit table.number) refl own.0, own_after edit tables own.1)

are_after : (edit : RouteEdit) (tables : List TableRows) → AreTables tables → AreTables (tables_after edit tables)
are_after edit tables are = record {
  rise = rising_filtered is_lower has_rows (map (table_after edit) tables) (rise_after edit tables are.rise);
  own = each_filtered HasOwnRows has_rows (map (table_after edit) tables) (own_after edit tables are.own);
  filled = each_passes has_rows (map (table_after edit) tables);
}

lower_order : IsStrictWeakOrder is_lower
lower_order = record { one_way = λ a b h. grind (arith, nat_tests); chain = λ a b c h k. grind (arith, nat_tests) }

are_inserted : (route : Route) (tables : List TableRows) → AreTables tables → Each (λ table. eqb table.number route.table ≡ false) tables → AreTables (insert_by is_lower (table_of route) tables)
are_inserted route tables are others = record {
  rise = inserted_rises is_lower lower_order (table_of route) tables (each_implies (λ table. eqb table.number route.table ≡ false) (λ table. is_lower (table_of route) table ≡ false → is_lower table (table_of route) ≡ true) (λ table other after. beneath route.table table.number after other) tables others) are.rise;
  own = each_inserted HasOwnRows is_lower (table_of route) tables (refl, tt) are.own;
  filled = each_inserted (λ table. has_rows table ≡ true) is_lower (table_of route) tables refl are.filled;
}

-- none of them has the number after an edit either
absent_after : (route : Route) (tables : List TableRows) → has_table route.table tables ≡ false → Each (λ table. eqb table.number route.table ≡ false) (tables_after (Put route) tables)
absent_after route tables absent =
    each_filtered (λ table. eqb table.number route.table ≡ false) has_rows (map (table_after (Put route)) tables)
    (numbers_after (λ n. eqb n route.table ≡ false) (Put route) tables (each_fails (λ table. eqb table.number route.table) tables absent))

are_put : (route : Route) (tables : List TableRows) (b : Bool) → has_table route.table tables ≡ b → AreTables tables → AreTables (cond b (tables_after (Put route) tables) (insert_by is_lower (table_of route) (tables_after (Put route) tables)))
are_put route tables true there are = are_after (Put route) tables are
are_put route tables false absent are = are_inserted route (tables_after (Put route) tables) (are_after (Put route) tables are) (absent_after route tables absent)

pub are_with : (edit : RouteEdit) (tables : List TableRows) → AreTables tables → AreTables (tables_with edit tables)
are_with (Put route) tables are = are_put route tables (has_table route.table tables) refl are
are_with (Remove key) tables are = are_after (Remove key) tables are
are_with (Flush selector) tables are = are_after (Flush selector) tables are

rows_put : (route : Route) (tables : List TableRows) (b : Bool) → has_table route.table tables ≡ b → AreTables tables → all_rows (cond b (tables_after (Put route) tables) (insert_by is_lower (table_of route) (tables_after (Put route) tables))) ≡ after_edit (Put route) (all_rows tables)
rows_put route tables true there are = rows_of_filled (map (table_after (Put route)) tables) ∙ put_rows route tables are there
rows_put route tables false absent are =
    put_alone route (tables_after (Put route) tables) (are_after (Put route) tables are) (absent_after route tables absent)
    ∙ ap (after_edit (Put route)) (rows_of_filled (map (table_after (Put route)) tables) ∙ unnamed route tables (each_fails (λ table. eqb table.number route.table) tables absent))

-- the rows of all tables after an edit are the edit of all rows
rows_with : (edit : RouteEdit) (tables : List TableRows) → AreTables tables → all_rows (tables_with edit tables) ≡ after_edit edit (all_rows tables)
rows_with (Put route) tables are = rows_put route tables (has_table route.table tables) refl are
rows_with (Remove key) tables are = rows_of_filled (map (table_after (Remove key)) tables) ∙ removed_rows key tables are.own
rows_with (Flush selector) tables are = rows_of_filled (map (table_after (Flush selector)) tables) ∙ flushed_rows selector tables are.own

pub are_all_with : (edit : RouteEdit) (inside given after : List TableRows) → AreTables inside → given ≡ inside → after ≡ tables_with edit given → AreTables after
are_all_with edit inside given after are same made = subst AreTables (sym (made ∙ ap (tables_with edit) same)) (are_with edit inside are)

pub all_rows_with : (edit : RouteEdit) (routes : List Route) (inside given after : List TableRows) → AreTables inside → all_rows inside ≡ routes → given ≡ inside → after ≡ tables_with edit given → all_rows after ≡ after_edit edit routes
all_rows_with edit routes inside given after are views same made = ap all_rows (made ∙ ap (tables_with edit) same) ∙ rows_with edit inside are ∙ ap (after_edit edit) views

-- ---- one table found by its number

order_rises : (a b number : ℕ) → a ≤ b → ordering_index (nat_cmp a number) ≤ ordering_index (nat_cmp b number)
order_rises a b number le = grind (arith, nat_tests)

less_differs : (n number : ℕ) → nat_cmp n number ≡ Less → eqb n number ≡ false
less_differs n number h = let lt : n < number = ranked n number Less (sym h) in grind (arith, nat_tests)

greater_differs : (n number : ℕ) → nat_cmp n number ≡ Greater → eqb n number ≡ false
greater_differs n number h = let lt : number < n = ranked n number Greater (sym h) in grind (arith, nat_tests)

-- at the place where the search ends
pub found_rows : (tables : List TableRows) (number place : ℕ) (table : TableRows) → AreTables tables → place < length tables → table ≡ get_or tables place table → nat_cmp (get_or tables place table).number number ≡ Equal → table.rows ≡ rows_of_table number (all_rows tables)
found_rows tables number place table are lt is equal =
    let at : (get_or tables place table).number ≡ number = ranked (get_or tables place table).number number Equal (sym equal) in
    let same : table.number ≡ number = ap (λ (t : TableRows). t.number) is ∙ at in
    sym (rows_at tables place table are lt is) ∙ ap (λ n. rows_of_table n (all_rows tables)) same

-- or between the tables where it ends
pub missing_rows : (tables : List TableRows) (number place : ℕ) → AreTables tables → (IsNonDecreasingBy (λ table. ordering_index (nat_cmp table.number number)) tables → IsPartitionPoint (λ table. nat_cmp table.number number ≡ Less) (λ table. nat_cmp table.number number ≡ Greater) tables place) → [] ≡ rows_of_table number (all_rows tables)
missing_rows tables number place are parted =
    let parts : IsPartitionPoint (λ table. nat_cmp table.number number ≡ Less) (λ table. nat_cmp table.number number ≡ Greater) tables place =
    parted (λ i j d le lt. order_rises (get_or tables i d).number (get_or tables j d).number number (rising_numbers is_lower (λ (table : TableRows). table.number) (λ table other lower. lower_is_le table.number other.number lower) tables are.rise i j d le lt)) in
    let others : All (λ table. eqb table.number number ≡ false) tables = λ k d lt.
    ⊎_elim
    (λ (below : k < place). less_differs (get_or tables k d).number number (parts.0 k d (omega arith) below))
    (λ (above : place ≤ k). greater_differs (get_or tables k d).number number (parts.1 k d above lt))
    (cases_lt k place) in
    sym (no_rows number tables are.own (recursion_from_All (λ table. eqb table.number number ≡ false) tables others))

own_rows : (number : ℕ) (routes rows : List Route) → rows ≡ rows_of_table number routes → IsOfTable number rows
own_rows number routes rows are =
    subst (IsOfTable number) (sym are)
    (All-from_recursion (λ row. row.table ≡ number) (rows_of_table number routes)
    (each_implies (λ row. eqb row.table number ≡ true) (λ row. row.table ≡ number) (λ row h. equal_numbers row.table number h) (rows_of_table number routes) (each_passes (λ row. eqb row.table number) routes)))

pub best_in_table : (routes rows : List Route) (table : ℕ) (addr : Addr) (found : Option Route) → rows ≡ rows_of_table table routes → ((number : ℕ) → IsOfTable number rows → found ≡ best rows number addr) → found ≡ best routes table addr
best_in_table routes rows table addr found are finds = finds table (own_rows table routes rows are) ∙ ap (λ rs. best rs table addr) are ∙ sym (best_of_table routes table addr)

pub no_best : (routes : List Route) (table : ℕ) (addr : Addr) → [] ≡ rows_of_table table routes → None ≡ best routes table addr
no_best routes table addr are = ap (λ rs. best rs table addr) are ∙ sym (best_of_table routes table addr)

pub key_in_table : (routes rows : List Route) (key : RouteKey) → rows ≡ rows_of_table key.table routes → has_key key rows ≡ has_key key routes
key_in_table routes rows key are = ap (has_key key) are ∙ sym (has_key_of_table key routes)

pub chosen_in_table : (routes rows : List Route) (choice : RouteChoice) → rows ≡ rows_of_table choice.table routes → chosen_route choice rows ≡ chosen_route choice routes
chosen_in_table routes rows choice are = ap (chosen_route choice) are ∙ sym (chosen_of_table choice routes)

-- ---- one table more

pub rows_more : (tables : List TableRows) (i : ℕ) (table : TableRows) → i < length tables → table ≡ get_or tables i table → all_rows (take (i + 1) tables) ≡ all_rows (take i tables) ++ table.rows
rows_more tables i table lt is =
    ap all_rows (take_more tables i table lt ∙ ap (λ (t : TableRows). take i tables ++ t ∷ []) (sym is))
    ∙ rows_append (take i tables) (table ∷ [])
    ∙ ap (λ rows. all_rows (take i tables) ++ rows) (append-nil table.rows)

pub selected_more : (selector : Selector) (tables : List TableRows) (i : ℕ) (table : TableRows) (old before after : List Route) → i < length tables → table ≡ get_or tables i table → before ≡ old ++ filter (is_selected selector) (all_rows (take i tables)) → after ≡ before ++ filter (is_selected selector) table.rows → after ≡ old ++ filter (is_selected selector) (all_rows (take (i + 1) tables))
selected_more selector tables i table old before after lt is so_far adds =
    adds ∙ ap (λ rows. rows ++ filter (is_selected selector) table.rows) so_far
    ∙ append_assoc old (filter (is_selected selector) (all_rows (take i tables))) (filter (is_selected selector) table.rows)
    ∙ ap (λ rows. old ++ rows)
    (sym (filter-append (is_selected selector) (all_rows (take i tables)) table.rows)
    ∙ ap (filter (is_selected selector)) (sym (rows_more tables i table lt is)))

rows_within : (tables : List TableRows) (i : ℕ) → length (all_rows (take i tables)) ≤ length (all_rows tables)
rows_within [] zero = omega arith
rows_within [] (suc i) = omega arith
rows_within (table ∷ tables) zero = omega arith
rows_within (table ∷ tables) (suc i) = omega (arith, rows_within tables i, length-append table.rows (all_rows (take i tables)), length-append table.rows (all_rows tables))

pub count_more : (tables : List TableRows) (i : ℕ) (table : TableRows) → i < length tables → table ≡ get_or tables i table → length (all_rows (take (i + 1) tables)) ≡ length (all_rows (take i tables)) + length table.rows
count_more tables i table lt is = ap length (rows_more tables i table lt is) ∙ length-append (all_rows (take i tables)) table.rows

-- no more up to this one than in all
pub count_within : (tables : List TableRows) (i : ℕ) (table : TableRows) → i < length tables → table ≡ get_or tables i table → length (all_rows (take i tables)) + length table.rows ≤ length (all_rows tables)
count_within tables i table lt is = omega (arith, count_more tables i table lt is, rows_within tables (i + 1))

-- ---- one table

pub nothing_selected : (selector : Selector) (table inside : TableRows) (rows : List Route) (b : Bool) → inside ≡ table → b ≡ agrees (λ a b. eqb a b) selector.table inside.number → b ≡ false → HasOwnRows table → rows ≡ rows ++ filter (is_selected selector) table.rows
nothing_selected selector table inside rows b is tested fails own =
    let other : agrees (λ a b. eqb a b) selector.table table.number ≡ false = ap (λ (t : TableRows). agrees (λ a b. eqb a b) selector.table t.number) (sym is) ∙ sym tested ∙ fails in
    let none : filter (is_selected selector) table.rows ≡ [] =
    filter_none (is_selected selector) table.rows (each_implies (λ row. row.table ≡ table.number) (λ row. is_selected selector row ≡ false) (λ row h. unselected_row selector row (subst (λ n. agrees (λ a b. eqb a b) selector.table n ≡ false) (sym h) other)) table.rows own) in
    sym (append-nil rows) ∙ ap (λ rs. rows ++ rs) (sym none)

pub put_table : (route : Route) (table : TableRows) (tables after : List TableRows) (place : Option ℕ) (at : ℕ) → table ≡ table_of route → after ≡ insert tables at table → place ≡ position (λ other. ltb route.table other.number) tables → at ≡ unwrap_or place (length tables) → after ≡ insert_by is_lower (table_of route) tables
put_table route table tables after place at is inserts found at_is = inserts ∙ ap (insert tables at) is ∙ inserted_at is_lower (table_of route) tables place at found at_is
