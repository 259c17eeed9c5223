-- The best of the heads of chunks is the best of all rows.
use Rattle.std.proofs.Common.{◌≡◌, ℕ, ◌<◌, Bool, true, false, not, ◌&&◌, ◌||◌, List, [], ◌∷◌, ◌++◌, refl, sym, ap, ◌∙◌, arith, find, ⊎_elim}
use Rattle.std.specs.List.{filter, list_any, AllByRecursion as Each}
use Rattle.std.proofs.lemmas.Bool.{cases_Bool, false_from_ne_true}
use Rattle.std.proofs.lemmas.Bool.Decides.{nat_tests}
use Rattle.std.proofs.lemmas.List.Elements.{All-from_recursion, recursion_from_All}
use Rattle.std.proofs.lemmas.List.Folds.{list_any-append}
use Rattle.prt_addr.specs.Block.{Block}
use Rattle.prt_addr.specs.Prefix.{contains, is_same_prefix}
use Rattle.prt_addr.specs.declared.addr.Addr.{Addr}
use Rattle.prt_addr.proofs.Each.{any_none, each_implies}
use Rattle.prt_addr.proofs.Orders.{is_first}
use Rattle.prt_route.specs.Best.{best}
use Rattle.prt_route.specs.Route.{is_better, is_listed_before}
use Rattle.prt_route.specs.declared.route.Route.{Route}
use Rattle.prt_trie.specs.Chunks.{AreAlike, AreChunks, IsChunk, heads_of, rows_of_chunks}
use Rattle.prt_trie.specs.Heaviest.{best_for}
use Rattle.prt_trie.specs.Table.{IsOfOneTable, IsOfTable, IsRising, table_of}
use Rattle.prt_trie.proofs.KeyPlaces.{each_back, each_front, rising_back}
use Rattle.prt_trie.proofs.Filters.{any_filter, each_of, find_same_tests}
use Rattle.prt_trie.proofs.Finds.{best_of_table, find-filter}
use Rattle.prt_trie.proofs.Order.{one_table_of}

-- ---- heads are some of the rows

pub each_head : (P : Route → Type 0) (chunks : List (List Route)) → Each P (rows_of_chunks chunks) → Each P (heads_of chunks)
each_head P [] h = tt
each_head P ([] ∷ chunks) h = each_head P chunks h
each_head P ((head ∷ rows) ∷ chunks) h = (h.0, each_head P chunks (each_back P rows (rows_of_chunks chunks) h.1))

pub heads_rise : (chunks : List (List Route)) → IsRising (rows_of_chunks chunks) → IsRising (heads_of chunks)
heads_rise [] rises = tt
heads_rise ([] ∷ chunks) rises = heads_rise chunks rises
heads_rise ((head ∷ rows) ∷ chunks) rises =
    (each_head (λ other. is_listed_before head other ≡ true) chunks (each_back (λ other. is_listed_before head other ≡ true) rows (rows_of_chunks chunks) rises.0), heads_rise chunks (rising_back rows (rows_of_chunks chunks) rises.1))

pub heads_of_table : (table : ℕ) (chunks : List (List Route)) → IsOfTable table (rows_of_chunks chunks) → IsOfTable table (heads_of chunks)
heads_of_table table chunks all =
    All-from_recursion (λ row. row.table ≡ table) (heads_of chunks) (each_head (λ row. row.table ≡ table) chunks (recursion_from_All (λ row. row.table ≡ table) (rows_of_chunks chunks) all))

pub heads_of_one_table : (chunks : List (List Route)) → IsOfOneTable (rows_of_chunks chunks) → IsOfOneTable (heads_of chunks)
heads_of_one_table chunks all = one_table_of (table_of (rows_of_chunks chunks)) (heads_of chunks) (heads_of_table (table_of (rows_of_chunks chunks)) chunks all)

-- ---- a head is better than the other rows of its chunk

abbrev IsLed : Route → Route → Type 0
IsLed head row = (is_same_prefix head.prefix row.prefix ≡ true) × (head.metric < row.metric)

abbrev IsLedChunk : List Route → Type 0
IsLedChunk [] = Unit {0}
IsLedChunk (head ∷ rows) = Each (IsLed head) rows

is_led : (table : ℕ) (head row : Route) → head.table ≡ table → row.table ≡ table → is_same_prefix head.prefix row.prefix ≡ true → is_listed_before head row ≡ true → head.metric < row.metric
is_led table head row first second alike later = grind (arith, nat_tests)

are_led : (table : ℕ) (head : Route) (rows : List Route) → head.table ≡ table → Each (λ row. row.table ≡ table) rows → AreAlike head rows → Each (λ row. is_listed_before head row ≡ true) rows → Each (IsLed head) rows
are_led table head [] first all alike later = tt
are_led table head (row ∷ rows) first all alike later = ((alike.0, is_led table head row first all.0 alike.0 later.0), are_led table head rows first all.1 alike.1 later.1)

led_chunks : (table : ℕ) (chunks : List (List Route)) → Each IsChunk chunks → Each (λ row. row.table ≡ table) (rows_of_chunks chunks) → IsRising (rows_of_chunks chunks) → Each IsLedChunk chunks
led_chunks table [] all of rises = tt
led_chunks table ([] ∷ chunks) all of rises = absurd all.0
led_chunks table ((head ∷ rows) ∷ chunks) all of rises =
    let rest : List Route = rows_of_chunks chunks in (
      are_led table head rows of.0 (each_front (λ row. row.table ≡ table) rows rest of.1) all.0.0 (each_front (λ row. is_listed_before head row ≡ true) rows rest rises.0),
      led_chunks table chunks all.1 (each_back (λ row. row.table ≡ table) rows rest of.1) (rising_back rows rest rises.1),
    )

-- ---- a test that a head passes if a row of its chunk does

or_true : (b c : Bool) → c ≡ true → (b || c) ≡ true
or_true true c h = refl
or_true false c h = h

and_false : (b : Bool) → (b && false) ≡ false
and_false true = refl
and_false false = refl

first_passes : (p : Route → Bool) (row : Route) (rows : List Route) → p row ≡ true → list_any p (row ∷ rows) ≡ true
first_passes p row rows h = rw h refl

any_head : (p : Route → Bool) → ((head row : Route) → IsLed head row → p row ≡ true → p head ≡ true) → (chunks : List (List Route)) → Each IsLedChunk chunks → list_any p (rows_of_chunks chunks) ≡ list_any p (heads_of chunks)
any_head p first [] led = refl
any_head p first ([] ∷ chunks) led = any_head p first chunks led.1
any_head p first ((head ∷ rows) ∷ chunks) led =
    ⊎_elim
    (λ (yes : p head ≡ true). rw yes refl)
    (λ (no : p head ≡ false).
    let none : Each (λ row. p row ≡ false) rows = each_implies (IsLed head) (λ row. p row ≡ false) (λ row is. false_from_ne_true (p row) (λ e. let n : true ≡ false = sym (first head row is e) ∙ no in cc)) rows led.0 in
    rw no (list_any-append p rows (rows_of_chunks chunks) ∙ ap (λ b. b || list_any p (rows_of_chunks chunks)) (any_none p rows none) ∙ any_head p first chunks led.1))
    (cases_Bool (p head))

-- the rows behind the head of a chunk fail
abbrev IsHeadAlone : (Route → Bool) → List Route → Type 0
IsHeadAlone u [] = Unit {0}
IsHeadAlone u (head ∷ rows) = Each (λ row. u row ≡ false) rows

find_behind : (u : Route → Bool) (xs ys : List Route) → Each (λ row. u row ≡ false) xs → find u (xs ++ ys) ≡ find u ys
find_behind u [] ys h = refl
find_behind u (x ∷ xs) ys h = rw h.0 (find_behind u xs ys h.1)

find_head : (u : Route → Bool) (chunks : List (List Route)) → Each (IsHeadAlone u) chunks → find u (rows_of_chunks chunks) ≡ find u (heads_of chunks)
find_head u [] alone = refl
find_head u ([] ∷ chunks) alone = find_head u chunks alone.1
find_head u ((head ∷ rows) ∷ chunks) alone =
    let rest : find u (rows ++ rows_of_chunks chunks) ≡ find u (heads_of chunks) = find_behind u rows (rows_of_chunks chunks) alone.0 ∙ find_head u chunks alone.1 in
    ⊎_elim (λ (yes : u head ≡ true). rw yes refl) (λ (no : u head ≡ false). rw no rest) (cases_Bool (u head))

both_true : (a b : Bool) → (a && b) ≡ true → (a ≡ true) × (b ≡ true)
both_true true b h = (refl, h)
both_true false b h = absurd cc

module _ (addr : Addr) where
  abbrev is_in : Route → Bool
  is_in row = contains row.prefix addr

  -- none of all rows that have the address is better
  abbrev is_best : List Route → Route → Bool
  is_best all row = is_in row && is_first is_better (filter is_in all) row

  in_alike : (a b : Block) → is_same_prefix a b ≡ true → contains b addr ≡ contains a addr
  in_alike a b same =
      let bits : a.bits ≡ b.bits = grind (arith, nat_tests) in
      let len : a.len ≡ b.len = grind (arith, nat_tests) in
      rw (← bits, ← len) refl

  head_better : (head row : Route) → IsLed head row → is_better head row ≡ true
  head_better head row is = let same : is_same_prefix head.prefix row.prefix ≡ true = is.0 in let less : head.metric < row.metric = is.1 in grind (arith, nat_tests)

  better_by_head : (head row other : Route) → IsLed head row → is_better row other ≡ true → is_better head other ≡ true
  better_by_head head row other is over = let same : is_same_prefix head.prefix row.prefix ≡ true = is.0 in let less : head.metric < row.metric = is.1 in grind (arith, nat_tests)

  both_are : (a b : Bool) → a ≡ true → b ≡ true → (a && b) ≡ true
  both_are a b h k = rw (h, k) refl

  head_in : (head row : Route) → IsLed head row → is_in row ≡ true → is_in head ≡ true
  head_in head row is h = sym (in_alike head.prefix row.prefix is.0) ∙ h

  beaten_by_head : (other head row : Route) → IsLed head row → (is_in row && is_better row other) ≡ true → (is_in head && is_better head other) ≡ true
  beaten_by_head other head row is h =
      let parts : (is_in row ≡ true) × (is_better row other ≡ true) = both_true (is_in row) (is_better row other) h in
      both_are (is_in head) (is_better head other) (head_in head row is parts.0) (better_by_head head row other is parts.1)

  -- a row that its head is better than isn't the best of all
  not_best : (all : List Route) (head row : Route) → IsLed head row → ((p : Route → Bool) → p head ≡ true → list_any p all ≡ true) → is_best all row ≡ false
  not_best all head row is within =
      ⊎_elim
      (λ (yes : is_in row ≡ true).
      let over : (is_in head && is_better head row) ≡ true = both_are (is_in head) (is_better head row) (head_in head row is yes) (head_better head row is) in
      let beaten : list_any (λ other. is_better other row) (filter is_in all) ≡ true = any_filter (λ other. is_better other row) is_in all ∙ within (λ other. is_in other && is_better other row) over in
      ap (λ b. is_in row && not b) beaten ∙ and_false (is_in row))
      (λ (no : is_in row ≡ false). ap (λ b. b && is_first is_better (filter is_in all) row) no)
      (cases_Bool (is_in row))

  heads_alone : (all : List Route) (chunks : List (List Route)) → ((p : Route → Bool) → list_any p (rows_of_chunks chunks) ≡ true → list_any p all ≡ true) → Each IsLedChunk chunks → Each (IsHeadAlone (is_best all)) chunks
  heads_alone all [] within led = tt
  heads_alone all ([] ∷ chunks) within led = (tt, heads_alone all chunks within led.1)
  heads_alone all ((head ∷ rows) ∷ chunks) within led = (
    each_implies (IsLed head) (λ row. is_best all row ≡ false) (λ row is. not_best all head row is (λ p h. within p (first_passes p head (rows ++ rows_of_chunks chunks) h))) rows led.0,
    heads_alone all chunks (λ p h. within p (list_any-append p (head ∷ rows) (rows_of_chunks chunks) ∙ or_true (list_any p (head ∷ rows)) (list_any p (rows_of_chunks chunks)) h)) led.1,
  )

  same_best : (chunks : List (List Route)) → Each IsLedChunk chunks → (row : Route) → is_best (rows_of_chunks chunks) row ≡ is_best (heads_of chunks) row
  same_best chunks led row =
      let beats : Route → Bool = λ other. is_better other row in
      ap (λ b. is_in row && not b)
      (any_filter beats is_in (rows_of_chunks chunks)
      ∙ any_head (λ other. is_in other && is_better other row) (λ head other is h. beaten_by_head row head other is h) chunks led
      ∙ sym (any_filter beats is_in (heads_of chunks)))

  best_by_heads : (chunks : List (List Route)) → Each IsLedChunk chunks → best_for (rows_of_chunks chunks) addr ≡ best_for (heads_of chunks) addr
  best_by_heads chunks led =
      let all : List Route = rows_of_chunks chunks in
      let heads : List Route = heads_of chunks in
      find-filter (is_first is_better (filter is_in all)) is_in all
      ∙ find_head (is_best all) chunks (heads_alone all chunks (λ p h. h) led)
      ∙ find_same_tests (is_best all) (is_best heads) heads (each_of (λ row. is_best all row ≡ is_best heads row) heads (λ row. same_best chunks led row))
      ∙ sym (find-filter (is_first is_better (filter is_in heads)) is_in heads)

-- the best of the heads for an address is the best of all
pub best_of_heads : (chunks : List (List Route)) (table : ℕ) (addr : Addr) → AreChunks chunks → IsOfTable table (rows_of_chunks chunks) → best (heads_of chunks) table addr ≡ best (rows_of_chunks chunks) table addr
best_of_heads chunks table addr are all =
    best_of_table (heads_of chunks) table addr (heads_of_table table chunks all)
    ∙ sym (best_by_heads addr chunks (led_chunks table chunks are.each (recursion_from_All (λ row. row.table ≡ table) (rows_of_chunks chunks) all) are.table.rising))
    ∙ sym (best_of_table (rows_of_chunks chunks) table addr all)
