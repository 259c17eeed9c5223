-- The rows before and after a key in chunks, and an edit of the rows between them.
use Rattle.std.proofs.Common.{◌≡◌, ℕ, zero, suc, ◌+◌, ◌-◌, ◌<◌, ◌≤◌, Bool, true, false, not, ◌||◌, append_assoc, List, [], ◌∷◌, ◌++◌, length, get_or, take, drop, map, refl, sym, ap, ◌∙◌, subst, arith, ⊎_elim}
use Rattle.std.specs.List.{list_any, AllByRecursion as Each}
use Rattle.std.proofs.lemmas.Bool.{cases_Bool, cases_lt}
use Rattle.std.proofs.lemmas.Bool.Decides.{nat_tests}
use Rattle.std.proofs.lemmas.List.{drop-drop}
use Rattle.std.proofs.lemmas.List.Elements.{filter-append}
use Rattle.std.proofs.lemmas.List.Folds.{list_any-append}
use Rattle.prt_addr.proofs.Each.{any_none, each_append, each_implies}
use Rattle.prt_addr.proofs.Orders.{ahead_of, through}
use Rattle.prt_addr.specs.Order.{insert_by}
use Rattle.prt_route.proofs.Edits.{listing_order}
use Rattle.prt_route.specs.Edit.{after_edit, has_key, without_key}
use Rattle.prt_route.specs.Route.{is_listed_before, is_same_key, key_of}
use Rattle.prt_route.specs.declared.edit.RouteEdit.{RouteEdit}
use Rattle.prt_route.specs.declared.edit.RouteEdit.TheVariants.{Put, Remove, Flush}
use Rattle.prt_route.specs.declared.route.Route.{Route}
use Rattle.prt_route.specs.declared.route.RouteKey.{RouteKey}
use Rattle.prt_trie.specs.Chunks.{AreChunks, IsChunk, IsOfKey, heads_of, is_key_after, is_key_before, rows_of_chunks}
use Rattle.prt_trie.specs.Table.{IsRising}
use Rattle.prt_trie.proofs.Filters.{filter_not_none}
use Rattle.prt_trie.proofs.Inserts.{insert_first}

-- ---- lists in two parts

pub each_back : {X : Type 0} (P : X → Type 0) (xs ys : List X) → Each P (xs ++ ys) → Each P ys
each_back P [] ys h = h
each_back P (x ∷ xs) ys h = each_back P xs ys h.1

pub each_front : {X : Type 0} (P : X → Type 0) (xs ys : List X) → Each P (xs ++ ys) → Each P xs
each_front P [] ys h = tt
each_front P (x ∷ xs) ys h = (h.0, each_front P xs ys h.1)

pub rising_back : (xs ys : List Route) → IsRising (xs ++ ys) → IsRising ys
rising_back [] ys h = h
rising_back (x ∷ xs) ys h = rising_back xs ys h.1

-- each row of the first part is listed before each of the second
rising_across : (xs ys : List Route) → IsRising (xs ++ ys) → Each (λ x. Each (λ y. is_listed_before x y ≡ true) ys) xs
rising_across [] ys h = tt
rising_across (x ∷ xs) ys h = (each_back (λ y. is_listed_before x y ≡ true) xs ys h.0, rising_across xs ys h.1)

-- the rows of the chunks of two lists
pub rows_append : (xs ys : List (List Route)) → rows_of_chunks (xs ++ ys) ≡ rows_of_chunks xs ++ rows_of_chunks ys
rows_append [] ys = refl
rows_append (x ∷ xs) ys = ap (λ rest. x ++ rest) (rows_append xs ys) ∙ sym (append_assoc x (rows_of_chunks xs) (rows_of_chunks ys))

-- ---- the place of a key among the heads

-- what holds of each row holds of each head
head_among : (P : Route → Type 0) (chunks : List (List Route)) (k : ℕ) (d : Route) → Each IsChunk chunks → k < length chunks → Each P (rows_of_chunks chunks) → P (get_or (heads_of chunks) k d)
head_among P [] k d all lt h = absurd (omega arith)
head_among P ([] ∷ chunks) k d all lt h = absurd all.0
head_among P ((head ∷ rows) ∷ chunks) zero d all lt h = h.0
head_among P ((head ∷ rows) ∷ chunks) (suc k) d all lt h = head_among P chunks k d all.1 (omega arith) (each_back P (head ∷ rows) (rows_of_chunks chunks) h)

pub count_heads : (chunks : List (List Route)) → Each IsChunk chunks → length (heads_of chunks) ≡ length chunks
count_heads [] all = refl
count_heads ([] ∷ chunks) all = absurd all.0
count_heads ((head ∷ rows) ∷ chunks) all = ap suc (count_heads chunks all.1)

-- a route with the key, which is listed where the key is
abbrev with_key : RouteKey → Route → Route
with_key key row = record row { table = key.table; prefix = key.prefix; metric = key.metric }

after_by_head : (key : RouteKey) (row head : Route) → is_listed_before row head ≡ true → is_key_before key head ≡ false → is_key_after key row ≡ true
after_by_head key row head first under = ahead_of is_listed_before listing_order row head (with_key key row) first under

before_by_head : (key : RouteKey) (head row : Route) → is_key_before key head ≡ true → is_listed_before head row ≡ true → is_key_before key row ≡ true
before_by_head key head row over later = through is_listed_before listing_order (with_key key row) head row over later

rows_before : (key : RouteKey) (chunks : List (List Route)) (k : ℕ) → Each IsChunk chunks → IsRising (rows_of_chunks chunks) → k < length chunks → ((d : Route) → is_key_before key (get_or (heads_of chunks) k d) ≡ false) → Each (λ row. is_key_after key row ≡ true) (rows_of_chunks (take k chunks))
rows_before key [] k all rises lt head = absurd (omega arith)
rows_before key ([] ∷ chunks) k all rises lt head = absurd all.0
rows_before key ((first ∷ rows) ∷ chunks) zero all rises lt head = tt
rows_before key ((first ∷ rows) ∷ chunks) (suc k) all rises lt head =
    each_append (λ row. is_key_after key row ≡ true) (first ∷ rows) (rows_of_chunks (take k chunks))
    (each_implies (λ row. Each (λ other. is_listed_before row other ≡ true) (rows_of_chunks chunks)) (λ row. is_key_after key row ≡ true)
    (λ row others. after_by_head key row (get_or (heads_of chunks) k row) (head_among (λ other. is_listed_before row other ≡ true) chunks k row all.1 (omega arith) others) (head row))
    (first ∷ rows) (rising_across (first ∷ rows) (rows_of_chunks chunks) rises))
    (rows_before key chunks k all.1 (rising_back (first ∷ rows) (rows_of_chunks chunks) rises) (omega arith) head)

rows_after : (key : RouteKey) (chunks : List (List Route)) (k : ℕ) → Each IsChunk chunks → IsRising (rows_of_chunks chunks) → ((d : Route) → k < length chunks → is_key_before key (get_or (heads_of chunks) k d) ≡ true) → Each (λ row. is_key_before key row ≡ true) (rows_of_chunks (drop k chunks))
rows_after key [] zero all rises head = tt
rows_after key [] (suc k) all rises head = tt
rows_after key ([] ∷ chunks) k all rises head = absurd all.0
rows_after key ((first ∷ rows) ∷ chunks) zero all rises head =
    let h : is_key_before key first ≡ true = head first (omega arith) in
    (h, each_implies (λ row. is_listed_before first row ≡ true) (λ row. is_key_before key row ≡ true) (λ row later. before_by_head key first row h later) (rows ++ rows_of_chunks chunks) rises.0)
rows_after key ((first ∷ rows) ∷ chunks) (suc k) all rises head =
    rows_after key chunks k all.1 (rising_back (first ∷ rows) (rows_of_chunks chunks) rises) (λ d lt. head d (omega arith))

each_dropped : (P : Route → Type 0) (chunks : List (List Route)) (n : ℕ) → Each P (rows_of_chunks chunks) → Each P (rows_of_chunks (drop n chunks))
each_dropped P chunks zero h = h
each_dropped P [] (suc n) h = tt
each_dropped P (chunk ∷ chunks) (suc n) h = each_dropped P chunks n (each_back P chunk (rows_of_chunks chunks) h)

-- the key is after the chunks before the last one with a head that isn't after the key
pub before_place : (key : RouteKey) (chunks : List (List Route)) (place : ℕ) → AreChunks chunks → place ≤ length (heads_of chunks) → ((d : Route) → 0 < place → is_key_before key (get_or (heads_of chunks) (place - 1) d) ≡ false) → Each (λ row. is_key_after key row ≡ true) (rows_of_chunks (take (place - 1) chunks))
before_place key chunks place are within head =
    ⊎_elim
    (λ (some : 0 < place).
    let all : length (heads_of chunks) ≡ length chunks = count_heads chunks are.each in
    rows_before key chunks (place - 1) are.each are.table.rising (omega arith) (λ d. head d some))
    (λ (none : place ≤ 0).
    let e : place - 1 ≡ 0 = omega arith in
    subst (λ n. Each (λ row. is_key_after key row ≡ true) (rows_of_chunks (take n chunks))) (sym e) tt)
    (cases_lt 0 place)

-- and before those after the next one
pub after_place : (key : RouteKey) (chunks : List (List Route)) (place : ℕ) → AreChunks chunks → ((d : Route) → place < length (heads_of chunks) → is_key_before key (get_or (heads_of chunks) place d) ≡ true) → Each (λ row. is_key_before key row ≡ true) (rows_of_chunks (drop 2 (drop (place - 1) chunks)))
after_place key chunks place are head =
    let all : length (heads_of chunks) ≡ length chunks = count_heads chunks are.each in
    let more : ℕ = place - 1 + 2 - place in
    let e : place + more ≡ place - 1 + 2 = omega arith in
    let far : Each (λ row. is_key_before key row ≡ true) (rows_of_chunks (drop more (drop place chunks))) =
    each_dropped (λ row. is_key_before key row ≡ true) (drop place chunks) more (rows_after key chunks place are.each are.table.rising (λ d lt. head d (omega arith))) in
    subst (λ rest. Each (λ row. is_key_before key row ≡ true) (rows_of_chunks rest)) (drop-drop more place chunks ∙ ap (λ n. drop n chunks) e ∙ sym (drop-drop 2 (place - 1) chunks)) far

-- ---- an edit between rows before the key and rows after it

other_before : (key : RouteKey) (row : Route) → is_key_after key row ≡ true → is_same_key (key_of row) key ≡ false
other_before key row h = grind (arith, nat_tests)

other_after : (key : RouteKey) (row : Route) → is_key_before key row ≡ true → is_same_key (key_of row) key ≡ false
other_after key row h = grind (arith, nat_tests)

listed_later : (route row : Route) → is_key_after (key_of route) row ≡ true → is_listed_before route row ≡ false
listed_later route row h = grind (arith, nat_tests)

listed_sooner : (route row : Route) → is_key_before (key_of route) row ≡ true → is_listed_before route row ≡ true
listed_sooner route row h = h

insert_after : (route : Route) (before rows : List Route) → Each (λ row. is_listed_before route row ≡ false) before → insert_by is_listed_before route (before ++ rows) ≡ before ++ insert_by is_listed_before route rows
insert_after route [] rows h = refl
insert_after route (row ∷ before) rows h = rw h.0 (ap (λ rest. row ∷ rest) (insert_after route before rows h.1))

insert_before : (route : Route) (rows after : List Route) → Each (λ row. is_listed_before route row ≡ true) after → insert_by is_listed_before route (rows ++ after) ≡ insert_by is_listed_before route rows ++ after
insert_before route [] after h = insert_first route after h
insert_before route (row ∷ rows) after h =
    ⊎_elim
    (λ (ahead : is_listed_before route row ≡ true). rw ahead refl)
    (λ (later : is_listed_before route row ≡ false). rw later (ap (λ rest. row ∷ rest) (insert_before route rows after h)))
    (cases_Bool (is_listed_before route row))

without_others : (key : RouteKey) (rows : List Route) → Each (λ row. is_same_key (key_of row) key ≡ false) rows → without_key key rows ≡ rows
without_others key rows h = filter_not_none (λ row. is_same_key (key_of row) key) rows (any_none (λ row. is_same_key (key_of row) key) rows h)

module _ (key : RouteKey) (before near after : List Route) (first : Each (λ row. is_key_after key row ≡ true) before) (last : Each (λ row. is_key_before key row ≡ true) after) where
  others_before : Each (λ row. is_same_key (key_of row) key ≡ false) before
  others_before = each_implies (λ row. is_key_after key row ≡ true) (λ row. is_same_key (key_of row) key ≡ false) (λ row h. other_before key row h) before first

  others_after : Each (λ row. is_same_key (key_of row) key ≡ false) after
  others_after = each_implies (λ row. is_key_before key row ≡ true) (λ row. is_same_key (key_of row) key ≡ false) (λ row h. other_after key row h) after last

  without_near : without_key key (before ++ (near ++ after)) ≡ before ++ (without_key key near ++ after)
  without_near =
      let drops = λ (row : Route). not (is_same_key (key_of row) key) in
      filter-append drops before (near ++ after)
      ∙ ap (λ rows. rows ++ without_key key (near ++ after)) (without_others key before others_before)
      ∙ ap (λ rows. before ++ rows) (filter-append drops near after ∙ ap (λ rows. without_key key near ++ rows) (without_others key after others_after))

  put_near : (route : Route) → key_of route ≡ key → after_edit (Put route) (before ++ (near ++ after)) ≡ before ++ (after_edit (Put route) near ++ after)
  put_near route of =
      let sooner : Each (λ row. is_listed_before route row ≡ false) before =
      each_implies (λ row. is_key_after key row ≡ true) (λ row. is_listed_before route row ≡ false) (λ row h. listed_later route row (subst (λ k. is_key_after k row ≡ true) (sym of) h)) before first in
      let later : Each (λ row. is_listed_before route row ≡ true) after =
      each_implies (λ row. is_key_before key row ≡ true) (λ row. is_listed_before route row ≡ true) (λ row h. listed_sooner route row (subst (λ k. is_key_before k row ≡ true) (sym of) h)) after last in
      ap (λ k. insert_by is_listed_before route (without_key k (before ++ (near ++ after)))) of
      ∙ ap (insert_by is_listed_before route) without_near
      ∙ insert_after route before (without_key key near ++ after) sooner
      ∙ ap (λ rows. before ++ rows) (insert_before route (without_key key near) after later)
      ∙ ap (λ k. before ++ (insert_by is_listed_before route (without_key k near) ++ after)) (sym of)

  edit_near : (edit : RouteEdit) → IsOfKey key edit → after_edit edit (before ++ (near ++ after)) ≡ before ++ (after_edit edit near ++ after)
  edit_near (Put route) of = put_near route of
  edit_near (Remove other) of = ap (λ k. without_key k (before ++ (near ++ after))) of ∙ without_near ∙ ap (λ k. before ++ (without_key k near ++ after)) (sym of)
  edit_near (Flush selector) of = absurd of

  middle_alone : (a b c : Bool) → a ≡ false → c ≡ false → (a || (b || c)) ≡ b
  middle_alone false true false p q = refl
  middle_alone false false false p q = refl
  middle_alone true b c p q = absurd cc
  middle_alone false b true p q = absurd cc

  -- the key is near, if it is there
  has_key_near : has_key key (before ++ (near ++ after)) ≡ has_key key near
  has_key_near =
      let same = λ (row : Route). is_same_key (key_of row) key in
      list_any-append same before (near ++ after)
      ∙ ap (λ b. list_any same before || b) (list_any-append same near after)
      ∙ middle_alone (list_any same before) (list_any same near) (list_any same after) (any_none same before others_before) (any_none same after others_after)

-- the edit of the chunks near the key is that of all
pub edit_in_chunks : (key : RouteKey) (edit : RouteEdit) (before near after : List (List Route)) → IsOfKey key edit → Each (λ row. is_key_after key row ≡ true) (rows_of_chunks before) → Each (λ row. is_key_before key row ≡ true) (rows_of_chunks after) →
    rows_of_chunks before ++ (after_edit edit (rows_of_chunks near) ++ rows_of_chunks after) ≡ after_edit edit (rows_of_chunks (before ++ (near ++ after)))
edit_in_chunks key edit before near after of first last =
    sym (edit_near key (rows_of_chunks before) (rows_of_chunks near) (rows_of_chunks after) first last edit of)
    ∙ ap (after_edit edit) (sym (rows_append before (near ++ after) ∙ ap (λ rows. rows_of_chunks before ++ rows) (rows_append near after)))

pub key_in_chunks : (key : RouteKey) (before near after : List (List Route)) → Each (λ row. is_key_after key row ≡ true) (rows_of_chunks before) → Each (λ row. is_key_before key row ≡ true) (rows_of_chunks after) →
    has_key key (rows_of_chunks near) ≡ has_key key (rows_of_chunks (before ++ (near ++ after)))
key_in_chunks key before near after first last =
    sym (has_key_near key (rows_of_chunks before) (rows_of_chunks near) (rows_of_chunks after) first last)
    ∙ ap (has_key key) (sym (rows_append before (near ++ after) ∙ ap (λ rows. rows_of_chunks before ++ rows) (rows_append near after)))

-- a row of one of the chunks passes
pub any_of_chunks : {X : Type 0} (rows_in : X → List Route) (p : Route → Bool) (chunks : List X) → list_any (λ chunk. list_any p (rows_in chunk)) chunks ≡ list_any p (rows_of_chunks (map rows_in chunks))
any_of_chunks rows_in p [] = refl
any_of_chunks rows_in p (chunk ∷ chunks) = ap (λ b. list_any p (rows_in chunk) || b) (any_of_chunks rows_in p chunks) ∙ sym (list_any-append p (rows_in chunk) (rows_of_chunks (map rows_in chunks)))

-- chunks of the rows near the key after the edit, between the others
pub edited_chunks : (key : RouteKey) (edit : RouteEdit) (all before near after chunks : List (List Route)) (new : List Route) → all ≡ before ++ (near ++ after) → IsOfKey key edit → Each (λ row. is_key_after key row ≡ true) (rows_of_chunks before) → Each (λ row. is_key_before key row ≡ true) (rows_of_chunks after) →
    new ≡ after_edit edit (rows_of_chunks near) → rows_of_chunks chunks ≡ rows_of_chunks before ++ (new ++ rows_of_chunks after) → rows_of_chunks chunks ≡ after_edit edit (rows_of_chunks all)
edited_chunks key edit all before near after chunks new whole of first last is made =
    made ∙ ap (λ rows. rows_of_chunks before ++ (rows ++ rows_of_chunks after)) is ∙ edit_in_chunks key edit before near after of first last ∙ ap (λ others. after_edit edit (rows_of_chunks others)) (sym whole)
