-- Chunks one after the other: what they have, what becomes of them, and the first row that a choice takes.
use Rattle.std.proofs.Common.{◌≡◌, ℕ, zero, suc, ◌+◌, ◌<◌, ◌≤◌, Bool, true, false, ◌&&◌, List, [], ◌∷◌, ◌++◌, length, get_or, take, drop, map, refl, sym, ap, ◌∙◌, subst, arith, eqb, ltb, find, Option, Some, None, ⊎_elim}
use Rattle.std.specs.List.{AllWithin, AllZip, filter, AllByRecursion as Each}
use Rattle.std.proofs.lemmas.Bool.{cases_Bool, false_from_ne_true}
use Rattle.std.proofs.lemmas.Bool.Decides.{nat_tests}
use Rattle.std.proofs.lemmas.List.{at_drop_more, length-take, map-append}
use Rattle.std.proofs.lemmas.List.Folds.{find-append}
use Rattle.prt_addr.specs.Prefix.{is_same_prefix}
use Rattle.prt_addr.proofs.Each.{each_implies, each_passing}
use Rattle.prt_addr.proofs.Orders.{first_is_head}
use Rattle.prt_route.specs.Route.{has_lower_metric, is_listed_before}
use Rattle.prt_route.specs.RouteChoice.{chosen_route, is_chosen}
use Rattle.prt_route.specs.declared.choice.RouteChoice.{RouteChoice}
use Rattle.prt_route.specs.declared.route.Route.{Route}
use Rattle.prt_trie.specs.Chunks.{IsChunk, rows_of_chunks}
use Rattle.prt_trie.specs.Table.{IsRising}
use Rattle.prt_trie.proofs.Choices.{chosen_prefix}
use Rattle.prt_trie.proofs.OnePiece.{same_rows}

-- ---- the first rows as a chunk

each_taken : {X : Type 0} (P : X → Type 0) (xs : List X) (k : ℕ) → ((j : ℕ) (d : X) → j < k → P (get_or xs j d)) → Each P (take k xs)
each_taken P [] zero h = tt
each_taken P [] (suc k) h = tt
each_taken P (x ∷ xs) zero h = tt
each_taken P (x ∷ xs) (suc k) h = (h zero x (omega arith), each_taken P xs k (λ j d lt. h (suc j) d (omega arith)))

pub chunk_from : (rows : List Route) (d : Route) (alike count : ℕ) → 0 < count → count ≤ alike → count ≤ 256 → count ≤ length rows → AllWithin (λ row. is_same_prefix (get_or rows 0 d).prefix row.prefix ≡ true) rows 1 alike → IsChunk (take count rows)
chunk_from [] d alike count some le few within all = absurd (omega arith)
chunk_from (head ∷ rows) d alike zero some le few within all = absurd (omega arith)
chunk_from (head ∷ rows) d alike (suc count) some le few within all =
    (each_taken (λ row. is_same_prefix head.prefix row.prefix ≡ true) rows count (λ j e lt. all (suc j) e (omega arith) (omega arith)), omega (arith, length-take count rows))

-- one more owner of each
pub shared_pushed : {X : Type 0} (value : X → List Route) (before after others clones : List X) → after ≡ before ++ clones → AllZip (λ chunk other. value other ≡ value chunk) others clones → map value after ≡ map value before ++ map value others
shared_pushed value before after others clones push same =
    ap (map value) push ∙ map-append value before clones ∙ ap (λ rest. map value before ++ rest) (same_rows value (λ rows. rows) others clones same)

-- ---- the first row that a choice takes

find_none : {X : Type 0} (p : X → Bool) (xs : List X) → Each (λ x. p x ≡ false) xs → find p xs ≡ None
find_none p [] h = refl
find_none p (x ∷ xs) h = rw h.0 (find_none p xs h.1)

not_chosen_alike : (choice : RouteChoice) (head row : Route) → is_same_prefix choice.prefix head.prefix ≡ false → is_same_prefix head.prefix row.prefix ≡ true → is_chosen choice row ≡ false
not_chosen_alike choice head row other alike =
    false_from_ne_true (is_chosen choice row) (λ h.
    let same : (choice.prefix.bits ≡ row.prefix.bits) × (choice.prefix.len ≡ row.prefix.len) = chosen_prefix choice row h in
    let bits : choice.prefix.bits ≡ row.prefix.bits = same.0 in
    let len : choice.prefix.len ≡ row.prefix.len = same.1 in
    absurd (grind (arith, nat_tests)))

not_chosen_head : (choice : RouteChoice) (head : Route) → is_same_prefix choice.prefix head.prefix ≡ false → is_chosen choice head ≡ false
not_chosen_head choice head other =
    false_from_ne_true (is_chosen choice head) (λ h.
    let same : (choice.prefix.bits ≡ head.prefix.bits) × (choice.prefix.len ≡ head.prefix.len) = chosen_prefix choice head h in
    let bits : choice.prefix.bits ≡ head.prefix.bits = same.0 in
    let len : choice.prefix.len ≡ head.prefix.len = same.1 in
    absurd (grind (arith, nat_tests)))

-- a choice of another prefix takes none
pub none_chosen : (choice : RouteChoice) (rows : List Route) (head : Route) → IsChunk rows → head ≡ get_or rows 0 head → is_same_prefix choice.prefix head.prefix ≡ false → find (is_chosen choice) rows ≡ None
none_chosen choice [] head is at other = absurd is
none_chosen choice (first ∷ rows) head is at other =
    let other_first : is_same_prefix choice.prefix first.prefix ≡ false = subst (λ (h : Route). is_same_prefix choice.prefix h.prefix ≡ false) at other in
    find_none (is_chosen choice) (first ∷ rows)
    (not_chosen_head choice first other_first, each_implies (λ row. is_same_prefix first.prefix row.prefix ≡ true) (λ row. is_chosen choice row ≡ false) (λ row alike. not_chosen_alike choice first row other_first alike) rows is.0)

pub chunk_at : {X : Type 0} (value : X → List Route) (chunks : List X) (i : ℕ) (chunk : X) → Each IsChunk (map value chunks) → i < length chunks → chunk ≡ get_or chunks i chunk → IsChunk (value chunk)
chunk_at value [] i chunk all lt is = absurd (omega arith)
chunk_at value (first ∷ chunks) zero chunk all lt is = subst (λ c. IsChunk (value c)) (sym is) all.0
chunk_at value (first ∷ chunks) (suc i) chunk all lt is = chunk_at value chunks i chunk all.1 (omega arith) is

module _ {X : Type 0} (value : X → List Route) (p : Route → Bool) (chunks : List X) (i : ℕ) (chunk : X) where
  abbrev first_in : List X → Option Route
  first_in xs = find p (rows_of_chunks (map value xs))

  rest_is : i < length chunks → chunk ≡ get_or chunks i chunk → first_in (drop i chunks) ≡ find p (value chunk ++ rows_of_chunks (map value (drop (i + 1) chunks)))
  rest_is lt is = at_drop_more first_in chunks i chunk lt ∙ ap (λ c. find p (value c ++ rows_of_chunks (map value (drop (i + 1) chunks)))) (sym is)

  pub found_in : (row : Option Route) → (r : Route) → row ≡ Some r → i < length chunks → chunk ≡ get_or chunks i chunk → row ≡ find p (value chunk) → first_in (drop i chunks) ≡ first_in chunks → Some r ≡ first_in chunks
  found_in row r some lt is found rest =
      let front : find p (value chunk) ≡ Some r = sym found ∙ some in
      sym (sym rest ∙ rest_is lt is ∙ find-append p (value chunk) (rows_of_chunks (map value (drop (i + 1) chunks))) ∙ rw front refl)

  pub not_found_in : i < length chunks → chunk ≡ get_or chunks i chunk → find p (value chunk) ≡ None → first_in (drop i chunks) ≡ first_in chunks → first_in (drop (i + 1) chunks) ≡ first_in chunks
  not_found_in lt is none rest =
      sym (sym rest ∙ rest_is lt is ∙ find-append p (value chunk) (rows_of_chunks (map value (drop (i + 1) chunks))) ∙ rw none refl)

first_of_nine : (a b c d e f g h i : Bool) → (a && b && c && d && e && f && g && h && i) ≡ true → a ≡ true
first_of_nine true b c d e f g h i p = refl
first_of_nine false b c d e f g h i p = cc

chosen_table : (choice : RouteChoice) (row : Route) → is_chosen choice row ≡ true → eqb choice.table row.table ≡ true
chosen_table choice row h = first_of_nine (eqb choice.table row.table) _ _ _ _ _ _ _ _ h

not_below : (n : ℕ) → ltb n n ≡ false
not_below n = grind (arith, nat_tests)

not_lower : (table bits len : ℕ) (row other : Route) → eqb table row.table ≡ true → eqb table other.table ≡ true → bits ≡ row.prefix.bits → len ≡ row.prefix.len → bits ≡ other.prefix.bits → len ≡ other.prefix.len → is_listed_before row other ≡ true → has_lower_metric other row ≡ false
not_lower table bits len row other a b c d e f later = grind (arith, nat_tests)

-- of two rows that a choice takes the one that is listed first has the lower metric
later_not_lower : (choice : RouteChoice) (row other : Route) → is_chosen choice row ≡ true → is_listed_before row other ≡ true → is_chosen choice other ≡ true → has_lower_metric other row ≡ false
later_not_lower choice row other here later there =
    let same : (choice.prefix.bits ≡ row.prefix.bits) × (choice.prefix.len ≡ row.prefix.len) = chosen_prefix choice row here in
    let alike : (choice.prefix.bits ≡ other.prefix.bits) × (choice.prefix.len ≡ other.prefix.len) = chosen_prefix choice other there in
    not_lower choice.table choice.prefix.bits choice.prefix.len row other (chosen_table choice row here) (chosen_table choice other there) same.0 same.1 alike.0 alike.1 later

-- the route that a choice names is the first one in the order of listings that it takes
pub chosen_first : (choice : RouteChoice) (rows : List Route) → IsRising rows → chosen_route choice rows ≡ find (is_chosen choice) rows
chosen_first choice [] rises = refl
chosen_first choice (row ∷ rows) rises =
    ⊎_elim
    (λ (yes : is_chosen choice row ≡ true). rw yes
    (first_is_head has_lower_metric row (filter (is_chosen choice) rows) (not_below row.metric)
    (each_passing (λ other. is_listed_before row other ≡ true) (λ other. has_lower_metric other row ≡ false) (is_chosen choice) (λ other later there. later_not_lower choice row other yes later there) rows rises.0)))
    (λ (no : is_chosen choice row ≡ false). rw no (chosen_first choice rows rises.1))
    (cases_Bool (is_chosen choice row))
