-- Lists in an order, one more put at its place, and the first by an order.
use Rattle.std.proofs.Common.{◌≡◌, ◌⊎◌, inl, inr, ℕ, ◌+◌, ◌≤◌, suc, Bool, true, false, not, ◌||◌, List, [], ◌∷◌, ◌++◌, Option, Some, None, refl, sym, ap, ◌∙◌, subst, arith, length, get_or, append_assoc, find, fold, cond}
use Rattle.std.specs.Cmp.{IsStrictWeakOrder}
use Rattle.std.specs.Prelude.{filter, if◌then◌else◌, nat_lt, unwrap_or}
use Rattle.std.specs.List.{Contains, insert, list_any, position, position_or_len, AllByRecursion as Each, IsDistinct}
use Rattle.std.proofs.lemmas.Bool.Decides.{nat_tests}
use Rattle.std.proofs.lemmas.List.{append-nil}
use Rattle.std.proofs.lemmas.List.Elements.{All-contains, All-from_recursion, Contains-get_or, recursion_from_All}
use Rattle.std.proofs.lemmas.List.Folds.{list_any-append}
use Rattle.std.proofs.lemmas.List.Sums.{prefix_len-le-length}
use Rattle.prt_addr.specs.Order.{first_by, insert_by}
use Rattle.prt_addr.specs.Rising.{IsRising}
use Rattle.prt_addr.proofs.Each.{any_none, each_append, each_filtered, each_implies}

-- ---- orders

module _ {X : Type 0} (before : X → X → Bool) (order : IsStrictWeakOrder before) where
  by_test : (a c : X) (b : Bool) → before a c ≡ b → (before a c ≡ false → b ≡ true) → before a c ≡ true
  by_test a c true is otherwise = is
  by_test a c false is otherwise = absurd (let h = otherwise is in cc)

  -- a comes before b, and c does not, so a comes before c
  pub ahead_of : (a b c : X) → before a b ≡ true → before c b ≡ false → before a c ≡ true
  ahead_of a b c over under = by_test a c (before a c) refl (λ no. let h : before a b ≡ false = order.chain a c b no under in cc)

  not_itself_by : (a : X) (b : Bool) → before a a ≡ b → before a a ≡ false
  not_itself_by a true is = order.one_way a a is
  not_itself_by a false is = is

  pub not_itself : (a : X) → before a a ≡ false
  not_itself a = not_itself_by a (before a a) refl

  pub through : (a b c : X) → before a b ≡ true → before b c ≡ true → before a c ≡ true
  through a b c first second = ahead_of a b c first (order.one_way b c second)

-- ---- lists that rise

rising_kept : {X : Type 0} (before : X → X → Bool) (x : X) (xs : List X) (b : Bool) → Each (λ other. before x other ≡ true) xs → IsRising before xs → IsRising before (cond b (x ∷ xs) xs)
rising_kept before x xs true first others = (first, others)
rising_kept before x xs false first others = others

-- those that pass a test still rise
pub rising_filtered : {X : Type 0} (before : X → X → Bool) (p : X → Bool) (xs : List X) → IsRising before xs → IsRising before (filter p xs)
rising_filtered before p [] rises = tt
rising_filtered before p (x ∷ xs) rises = rising_kept before x (filter p xs) (p x) (each_filtered (λ other. before x other ≡ true) p xs rises.0) (rising_filtered before p xs rises.1)

-- ---- one more at its place

each_inserted_by : {X : Type 0} (P : X → Type 0) (x y : X) (ys placed : List X) (b : Bool) → P x → P y → Each P ys → Each P placed → Each P (cond b (x ∷ (y ∷ ys)) (y ∷ placed))
each_inserted_by P x y ys placed true added first others all = (added, (first, others))
each_inserted_by P x y ys placed false added first others all = (first, all)

-- what holds of one and of each of the others holds of each when it is put among them
pub each_inserted : {X : Type 0} (P : X → Type 0) (before : X → X → Bool) (x : X) (xs : List X) → P x → Each P xs → Each P (insert_by before x xs)
each_inserted P before x [] added h = (added, tt)
each_inserted P before x (y ∷ ys) added h = each_inserted_by P x y ys (insert_by before x ys) (before x y) added h.0 h.1 (each_inserted P before x ys added h.1)

module _ {X : Type 0} (before : X → X → Bool) where
  inserted_rises_by : IsStrictWeakOrder before → (x y : X) (ys : List X) (b : Bool) → before x y ≡ b → (before x y ≡ false → before y x ≡ true) → IsRising before (y ∷ ys) → IsRising before (insert_by before x ys) → IsRising before (cond b (x ∷ (y ∷ ys)) (y ∷ insert_by before x ys))
  inserted_rises_by order x y ys true ahead otherwise rises placed =
      ((ahead, each_implies (λ other. before y other ≡ true) (λ other. before x other ≡ true) (λ other h. through before order x y other ahead h) ys rises.0), rises)
  inserted_rises_by order x y ys false after otherwise rises placed =
      (each_inserted (λ other. before y other ≡ true) before x ys (otherwise after) rises.0, placed)

  -- one that comes before or after each of the others
  pub inserted_rises : IsStrictWeakOrder before → (x : X) (xs : List X) → Each (λ other. before x other ≡ false → before other x ≡ true) xs → IsRising before xs → IsRising before (insert_by before x xs)
  inserted_rises order x [] otherwise rises = (tt, tt)
  inserted_rises order x (y ∷ ys) otherwise rises = inserted_rises_by order x y ys (before x y) refl otherwise.0 rises (inserted_rises order x ys otherwise.1 rises.1)

  length_inserted_by : (x y : X) (ys : List X) (b : Bool) → length (insert_by before x ys) ≡ length ys + 1 → length (cond b (x ∷ (y ∷ ys)) (y ∷ insert_by before x ys)) ≡ length (y ∷ ys) + 1
  length_inserted_by x y ys true h = omega arith
  length_inserted_by x y ys false h = omega arith

  pub length_inserted : (x : X) (xs : List X) → length (insert_by before x xs) ≡ length xs + 1
  length_inserted x [] = refl
  length_inserted x (y ∷ ys) = length_inserted_by x y ys (before x y) (length_inserted x ys)

  one_more : (n : ℕ) → 1 + n ≡ suc n
  one_more n = omega arith

  at_place_by : (x y : X) (ys : List X) (b : Bool) → before x y ≡ b → insert ys (position_or_len (λ other. before x other) ys) x ≡ insert_by before x ys → insert (y ∷ ys) (position_or_len (λ other. before x other) (y ∷ ys)) x ≡ cond b (x ∷ (y ∷ ys)) (y ∷ insert_by before x ys)
  at_place_by x y ys true ahead h = simp ahead refl
  at_place_by x y ys false later h = simp (later, one_more) (ap (λ xs. y ∷ xs) h)

  at_place : (x : X) (xs : List X) → insert xs (position_or_len (λ other. before x other) xs) x ≡ insert_by before x xs
  at_place x [] = refl
  at_place x (y ∷ ys) = at_place_by x y ys (before x y) refl (at_place x ys)

  first_or_end : (n m : ℕ) (b : Bool) → nat_lt n m ≡ b → n ≤ m → unwrap_or (cond b (Some n) None) m ≡ n
  first_or_end n m true e h = refl
  first_or_end n m false e h = grind (arith, nat_tests)

  place_or_end : (p : X → Bool) (xs : List X) → unwrap_or (position p xs) (length xs) ≡ position_or_len p xs
  place_or_end p xs = first_or_end (position_or_len p xs) (length xs) (nat_lt (position_or_len p xs) (length xs)) refl (prefix_len-le-length (λ x. not (p x)) xs)

  -- the place of the first that it comes before, or the end
  pub place_within : (x : X) (xs : List X) → unwrap_or (position (λ other. before x other) xs) (length xs) ≤ length xs
  place_within x xs = omega (arith, place_or_end (λ other. before x other) xs, prefix_len-le-length (λ other. not (before x other)) xs)

  -- an insert there
  pub inserted_at : (x : X) (xs : List X) (place : Option ℕ) (at : ℕ) → place ≡ position (λ other. before x other) xs → at ≡ unwrap_or place (length xs) → insert xs at x ≡ insert_by before x xs
  inserted_at x xs place at found is = ap (λ i. insert xs i x) (is ∙ ap (λ o. unwrap_or o (length xs)) found ∙ place_or_end (λ other. before x other) xs) ∙ at_place x xs

module _ {X : Type 0} (before same : X → X → Bool) where
  distinct_inserted_by : (x y : X) (ys : List X) (b : Bool) → Each (λ other. same x other ≡ false) (y ∷ ys) → same y x ≡ false → IsDistinct same (y ∷ ys) → IsDistinct same (insert_by before x ys) → IsDistinct same (cond b (x ∷ (y ∷ ys)) (y ∷ insert_by before x ys))
  unfolding IsDistinct
  distinct_inserted_by x y ys true unlike turned h placed = (unlike, h)
  distinct_inserted_by x y ys false unlike turned h placed = (each_inserted (λ other. same y other ≡ false) before x ys turned h.0, placed)

  -- one that is the same as none of the others, whichever of the two comes first
  pub distinct_inserted : (x : X) (xs : List X) → Each (λ other. same x other ≡ false) xs → Each (λ other. same other x ≡ false) xs → IsDistinct same xs → IsDistinct same (insert_by before x xs)
  unfolding IsDistinct
  distinct_inserted x [] unlike turned h = (tt, tt)
  distinct_inserted x (y ∷ ys) unlike turned h = distinct_inserted_by x y ys (before x y) unlike turned.0 h (distinct_inserted x ys unlike.1 turned.1 h.1)

-- ---- the first

or_true : (b c : Bool) → (b || (true || c)) ≡ true
or_true true c = refl
or_true false c = refl

-- the first that passes is k
finds : {X : Type 0} (p : X → Bool) (front back : List X) (k : X) → Each (λ x. p x ≡ false) front → p k ≡ true → find p (front ++ k ∷ back) ≡ Some k
finds p [] back k h good = simp good refl
finds p (x ∷ front) back k h good = simp h.0 (finds p front back k h.1 good)

-- the first of those so far, or the next one if that comes before it
abbrev leader : {X : Type 0} → (X → X → Bool) → Option X → X → X
leader before None next = next
leader before (Some first) next = if before next first then next else first

-- none of these comes before it
abbrev pub is_first : {X : Type 0} → (X → X → Bool) → List X → X → Bool
is_first before xs x = not (list_any (λ other. before other x) xs)

-- the head, if nothing comes before it
pub first_is_head : {X : Type 0} (before : X → X → Bool) (x : X) (xs : List X) → before x x ≡ false → Each (λ other. before other x ≡ false) xs → first_by before (x ∷ xs) ≡ Some x
first_is_head before x xs itself others =
    finds (is_first before (x ∷ xs)) [] xs x tt
    (ap not (ap (λ b. b || list_any (λ other. before other x) xs) itself ∙ any_none (λ other. before other x) xs others))

module _ {X : Type 0} (before : X → X → Bool) (order : IsStrictWeakOrder before) where
  abbrev Leads : X → List X → Type 0
  Leads k xs = Each (λ x. before k x ≡ true) xs

  abbrev Withstands : X → List X → Type 0
  Withstands k xs = Each (λ x. before x k ≡ false) xs

  -- k is in the list, comes before those ahead of it there, and no later one comes before it
  record IsLeader (xs : List X) (k : X) : Type 0 where
    front : List X
    back : List X
    parts : xs ≡ front ++ k ∷ back
    leads : Leads k front
    withstands : Withstands k back

  -- one that comes before k comes before all these
  leads_all : (k x : X) (front back : List X) → before x k ≡ true → Leads k front → Withstands k back → Leads x (front ++ k ∷ back)
  leads_all k x front back over leads withstands =
      each_append (λ y. before x y ≡ true) front (k ∷ back)
      (each_implies (λ y. before k y ≡ true) (λ y. before x y ≡ true) (λ y h. ahead_of before order x k y over (order.one_way k y h)) front leads)
      (over, each_implies (λ y. before y k ≡ false) (λ y. before x y ≡ true) (λ y h. ahead_of before order x k y over h) back withstands)

  takes_next : (xs : List X) (k x : X) → IsLeader xs k → before x k ≡ true → IsLeader (xs ++ x ∷ []) x
  takes_next xs k x old over = record {
    front = xs;
    back = [];
    parts = refl;
    leads = subst (Leads x) (sym old.parts) (leads_all k x old.front old.back over old.leads old.withstands);
    withstands = tt;
  }

  keeps_first : (xs : List X) (k x : X) → IsLeader xs k → before x k ≡ false → IsLeader (xs ++ x ∷ []) k
  keeps_first xs k x old under = record {
    front = old.front;
    back = old.back ++ x ∷ [];
    parts = ap (λ ys. ys ++ x ∷ []) old.parts ∙ append_assoc old.front (k ∷ old.back) (x ∷ []);
    leads = old.leads;
    withstands = each_append (λ y. before y k ≡ false) old.back (x ∷ []) old.withstands (under, tt);
  }

  abbrev LeaderOf : List X → Option X → Type 0
  LeaderOf xs None = xs ≡ []
  LeaderOf xs (Some k) = IsLeader xs k

  abbrev next_leader : Option X → X → Option X
  next_leader first x = Some (leader before first x)

  leads_by : (xs : List X) (k x : X) (b : Bool) → before x k ≡ b → IsLeader xs k → LeaderOf (xs ++ x ∷ []) (Some (cond b x k))
  leads_by xs k x true over old = takes_next xs k x old over
  leads_by xs k x false under old = keeps_first xs k x old under

  leader_more : (xs : List X) (first : Option X) (x : X) → LeaderOf xs first → LeaderOf (xs ++ x ∷ []) (Some (leader before first x))
  leader_more xs None x none = record { front = []; back = []; parts = ap (λ ys. ys ++ x ∷ []) none; leads = tt; withstands = tt }
  leader_more xs (Some k) x old = leads_by xs k x (before x k) refl old

  leader_all : (done xs : List X) (first : Option X) → LeaderOf done first → LeaderOf (done ++ xs) (fold next_leader first xs)
  leader_all done [] first h = subst (λ ys. LeaderOf ys first) (sym (append-nil done)) h
  leader_all done (x ∷ xs) first h =
      subst (λ ys. LeaderOf ys (fold next_leader (Some (leader before first x)) xs)) (append_assoc done (x ∷ []) xs)
      (leader_all (done ++ x ∷ []) xs (Some (leader before first x)) (leader_more done first x h))

  -- none comes before k, and k comes before each ahead of it
  leader_is_first : (front back : List X) (k : X) → Leads k front → Withstands k back → is_first before (front ++ k ∷ back) k ≡ true
  leader_is_first front back k leads withstands =
      let ahead : list_any (λ x. before x k) front ≡ false = any_none (λ x. before x k) front (each_implies (λ x. before k x ≡ true) (λ x. before x k ≡ false) (λ x h. order.one_way k x h) front leads) in
      let after : list_any (λ x. before x k) back ≡ false = any_none (λ x. before x k) back withstands in
      simp (list_any-append, ahead, after, not_itself before order k) refl

  other_is_not : (front back : List X) (k x : X) → before k x ≡ true → is_first before (front ++ k ∷ back) x ≡ false
  other_is_not front back k x over =
      ap not (list_any-append (λ y. before y x) front (k ∷ back) ∙ ap (λ b. list_any (λ y. before y x) front || (b || list_any (λ y. before y x) back)) over ∙ or_true (list_any (λ y. before y x) front) (list_any (λ y. before y x) back))

  first_is_leader : (xs : List X) (first : Option X) → LeaderOf xs first → first_by before xs ≡ first
  first_is_leader [] None h = refl
  first_is_leader (x ∷ xs) None h = absurd cc
  first_is_leader xs (Some k) found =
      let whole = found.front ++ k ∷ found.back in
      ap (λ ys. first_by before ys) found.parts
      ∙ finds (is_first before whole) found.front found.back k
      (each_implies (λ x. before k x ≡ true) (λ x. is_first before whole x ≡ false) (λ x h. other_is_not found.front found.back k x h) found.front found.leads)
      (leader_is_first found.front found.back k found.leads found.withstands)

  first_of_all : (xs : List X) → LeaderOf xs (first_by before xs)
  first_of_all xs =
      let all : LeaderOf xs (fold next_leader None xs) = leader_all [] xs None refl in
      subst (LeaderOf xs) (sym (first_is_leader xs (fold next_leader None xs) all)) all

  -- there is a first, if there is any
  pub none_first : (xs : List X) → first_by before xs ≡ None → xs ≡ []
  none_first xs none = subst (LeaderOf xs) none (first_of_all xs)

-- ---- lists that rise and have the same members

-- what holds of each in one list holds of each in another, if no member of that is missing in it
each_member : {X : Type 0} (xs ys : List X) → ((x : X) → Contains ys x → Contains xs x) → (P : X → Type 0) → Each P xs → Each P ys
each_member xs ys within P h = recursion_from_All P ys (λ k d inside. All-contains P xs (get_or ys k d) (All-from_recursion P xs h) (within (get_or ys k d) (Contains-get_or ys k d inside)))

module _ {X : Type 0} (before : X → X → Bool) (order : IsStrictWeakOrder before) where
  abbrev IsOrFollows : X → X → Type 0
  IsOrFollows first x = (x ≡ first) ⊎ (before first x ≡ true)

  all_follow : (first : X) (xs : List X) → Each (λ other. before first other ≡ true) xs → Each (IsOrFollows first) (first ∷ xs)
  all_follow first xs h = (inl refl, each_implies (λ other. before first other ≡ true) (IsOrFollows first) (λ other ahead. inr ahead) xs h)

  same_first : (a b : X) → IsOrFollows a b → IsOrFollows b a → a ≡ b
  same_first a b (inl e) other = sym e
  same_first a b (inr h) (inl e) = e
  same_first a b (inr h) (inr k) = absurd (let n : before b a ≡ false = order.one_way a b h in cc)

  unlike_first : (first x : X) → x ≡ first → before first x ≡ true → true ≡ false
  unlike_first first x same ahead = let n : before first first ≡ false = not_itself before order first in sym (subst (λ y. before first y ≡ true) same ahead) ∙ n

  after_first : (P : X → Type 0) (first x : X) → (x ≡ first) ⊎ P x → before first x ≡ true → P x
  after_first P first x (inl e) h = absurd (let n : true ≡ false = unlike_first first x e h in cc)
  after_first P first x (inr p) h = p

  each_after_first : (P : X → Type 0) (first : X) (xs : List X) → Each (λ x. (x ≡ first) ⊎ P x) xs → Each (λ other. before first other ≡ true) xs → Each P xs
  each_after_first P first [] h rises = tt
  each_after_first P first (x ∷ xs) h rises = (after_first P first x h.0 rises.0, each_after_first P first xs h.1 rises.1)

  same_rest : (a b : X) (xs ys : List X) → a ≡ b → Each (λ other. before b other ≡ true) ys → ((P : X → Type 0) → Each P (a ∷ xs) → Each P (b ∷ ys)) → (P : X → Type 0) → Each P xs → Each P ys
  same_rest a b xs ys same rises within P h =
      each_after_first P b ys (within (λ x. (x ≡ b) ⊎ P x) (inl same, each_implies P (λ x. (x ≡ b) ⊎ P x) (λ x p. inr p) xs h)).1 rises

  same_lists : (xs ys : List X) → IsRising before xs → IsRising before ys → ((P : X → Type 0) → Each P xs → Each P ys) → ((P : X → Type 0) → Each P ys → Each P xs) → xs ≡ ys
  same_lists [] [] a_rises b_rises there back = refl
  same_lists [] (b ∷ ys) a_rises b_rises there back = absurd (let n : true ≡ false = (there (λ x. true ≡ false) tt).0 in cc)
  same_lists (a ∷ xs) [] a_rises b_rises there back = absurd (let n : true ≡ false = (back (λ x. true ≡ false) tt).0 in cc)
  same_lists (a ∷ xs) (b ∷ ys) a_rises b_rises there back =
      let first : a ≡ b = same_first a b (there (IsOrFollows a) (all_follow a xs a_rises.0)).0 (back (IsOrFollows b) (all_follow b ys b_rises.0)).0 in
      ap (λ x. x ∷ xs) first
      ∙ ap (λ rest. b ∷ rest) (same_lists xs ys a_rises.1 b_rises.1 (same_rest a b xs ys first b_rises.0 there) (same_rest b a ys xs (sym first) a_rises.0 back))

  -- there is one list that rises and has these members
  pub same_risings : (xs ys : List X) → IsRising before xs → IsRising before ys → ((x : X) → Contains xs x → Contains ys x) → ((x : X) → Contains ys x → Contains xs x) → xs ≡ ys
  same_risings xs ys x_rises y_rises there back = same_lists xs ys x_rises y_rises (each_member xs ys back) (each_member ys xs there)
