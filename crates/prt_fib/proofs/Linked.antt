-- Outcomes linked by their hashes.
use Rattle.std.proofs.Common.{◌≡◌, ◌≢◌, ℕ, zero, suc, ◌+◌, ◌-◌, ◌<◌, ◌≤◌, true, false, List, [], ◌∷◌, ◌++◌, length, Some, None, refl, sym, ap, ◌∙◌, subst, arith, ⊎_elim, slice_index, set, length-append, length-set, get_or, replicate}
use Rattle.std.specs.Prelude.{option_map}
use Rattle.std.specs.List.{slice_get}
use Rattle.std.proofs.Math.Seq.{get_or-append_seam}
use Rattle.std.proofs.lemmas.List.{get_or_append_left, get_or-replicate, get_or-set_other, get_or-set_same, length-replicate}
use Rattle.std.proofs.lemmas.Bool.{cases_eq, cases_lt}
use Rattle.std.proofs.lemmas.Option.{slice_get-get_or, slice_get_past}
use Rattle.prt_partition.specs.Sameness.{is_same_outcome}
use Rattle.prt_partition.specs.declared.sameness.Outcome.{Outcome}
use Rattle.prt_fib.specs.Fib.{AreDistinct}
use Rattle.prt_fib.specs.Hashes.{IsIndex, IsLast, IsNew}
use Rattle.prt_fib.proofs.Same.{outcomes_same}

pub slice_get_left : {X : Type 0} (xs ys : List X) (k : ℕ) → k < length xs → slice_get (xs ++ ys) k ≡ slice_get xs k
slice_get_left [] ys k lt = absurd (omega arith)
slice_get_left (x ∷ xs) ys zero lt = refl
slice_get_left (x ∷ xs) ys (suc k) lt = slice_get_left xs ys k (omega arith)

pub slice_get_seam : {X : Type 0} (xs : List X) (x : X) → slice_get (xs ++ x ∷ []) (length xs) ≡ Some x
slice_get_seam [] x = refl
slice_get_seam (y ∷ ys) x = slice_get_seam ys x

-- what has another hash isn't the outcome
pub none_here : (hash : Outcome → ℕ) (outcomes : List Outcome) (outcome : Outcome) (bound last : ℕ) → IsLast hash outcomes (hash outcome) bound last →
    (k : ℕ) → last ≤ k → k < bound → slice_get outcomes k ≢ Some outcome
none_here hash outcomes outcome bound last is k from to here = is.none k from to (ap (option_map hash) here)

-- one step back: neither the outcome at the place nor those of its hash before it, down to the next one
pub none_more : (hash : Outcome → ℕ) (outcomes : List Outcome) (outcome : Outcome) (last next : ℕ) → 0 < last → IsLast hash outcomes (hash outcome) (last - 1) next → slice_get outcomes (last - 1) ≢ Some outcome →
    ((k : ℕ) → last ≤ k → k < length outcomes → slice_get outcomes k ≢ Some outcome) →
    (k : ℕ) → next ≤ k → k < length outcomes → slice_get outcomes k ≢ Some outcome
none_more hash outcomes outcome last next some is other later k from within =
    ⊎_elim
    (λ (before : k < last - 1). none_here hash outcomes outcome (last - 1) next is k from before)
    (λ (after : last - 1 ≤ k).
    ⊎_elim
    (λ (beyond : last - 1 < k). later k (omega arith) within)
    (λ (here : k ≤ last - 1). let same : last - 1 ≡ k = omega arith in subst (λ j. slice_get outcomes j ≢ Some outcome) same other)
    (cases_lt (last - 1) k))
    (cases_lt k (last - 1))

pub other_than : (outcomes : List Outcome) (outcome d : Outcome) (k : ℕ) → k < length outcomes → is_same_outcome (get_or outcomes k d) outcome ≡ false → slice_get outcomes k ≢ Some outcome
other_than outcomes outcome d k within differs here =
    let at : Some (get_or outcomes k d) ≡ Some outcome = sym (slice_get-get_or outcomes k d within) ∙ here in
    let e : get_or outcomes k d ≡ outcome = cc in
    let same : is_same_outcome (get_or outcomes k d) outcome ≡ true = (outcomes_same (get_or outcomes k d) outcome).1 e in
    cc

pub same_at : (outcomes : List Outcome) (outcome d : Outcome) (k : ℕ) → k < length outcomes → is_same_outcome (get_or outcomes k d) outcome ≡ true → slice_get outcomes k ≡ Some outcome
same_at outcomes outcome d k within same =
    slice_get-get_or outcomes k d within ∙ ap (λ o. Some o) ((outcomes_same (get_or outcomes k d) outcome).0 same)

-- ---- one more

-- an outcome more makes no difference up to where it is
last_kept : (hash : Outcome → ℕ) (outcomes : List Outcome) (outcome : Outcome) (value bound last : ℕ) → bound ≤ length outcomes → IsLast hash outcomes value bound last → IsLast hash (outcomes ++ outcome ∷ []) value bound last
last_kept hash outcomes outcome value bound last fits is = record {
  within = is.within;
  has = λ some. let within = is.within in ap (option_map hash) (slice_get_left outcomes (outcome ∷ []) (last - 1) (omega arith)) ∙ is.has some;
  none = λ k from to here. is.none k from to (sym (ap (option_map hash) (slice_get_left outcomes (outcome ∷ []) k (omega arith))) ∙ here);
}

-- it is the last one of its hash
last_new : (hash : Outcome → ℕ) (outcomes : List Outcome) (outcome : Outcome) → IsLast hash (outcomes ++ outcome ∷ []) (hash outcome) (length (outcomes ++ outcome ∷ [])) (length outcomes + 1)
last_new hash outcomes outcome =
    let more : length (outcomes ++ outcome ∷ []) ≡ length outcomes + 1 = length-append outcomes (outcome ∷ []) in
    record {
      within = omega arith;
      has = λ some.
          let at : length outcomes + 1 - 1 ≡ length outcomes = omega arith in
          ap (λ k. option_map hash (slice_get (outcomes ++ outcome ∷ []) k)) at ∙ ap (option_map hash) (slice_get_seam outcomes outcome);
      none = λ k from to here. absurd (omega arith);
    }

-- the last one of another hash is where it was
last_other : (hash : Outcome → ℕ) (outcomes : List Outcome) (outcome : Outcome) (value last : ℕ) → (hash outcome ≡ value → ⊥) → IsLast hash outcomes value (length outcomes) last → IsLast hash (outcomes ++ outcome ∷ []) value (length (outcomes ++ outcome ∷ [])) last
last_other hash outcomes outcome value last other is =
    let more : length (outcomes ++ outcome ∷ []) ≡ length outcomes + 1 = length-append outcomes (outcome ∷ []) in
    let kept = last_kept hash outcomes outcome value (length outcomes) last (omega arith) is in
    record {
      within = let within = is.within in omega arith;
      has = kept.has;
      none = λ k from to here.
          ⊎_elim
          (λ (before : k < length outcomes). kept.none k from before here)
          (λ (after : length outcomes ≤ k).
          let at : k ≡ length outcomes = omega arith in
          let its : Some (hash outcome) ≡ Some value = sym (ap (option_map hash) (slice_get_seam outcomes outcome)) ∙ ap (λ j. option_map hash (slice_get (outcomes ++ outcome ∷ []) j)) (sym at) ∙ here in
          let e : hash outcome ≡ value = cc in
          other e)
          (cases_lt k (length outcomes));
    }

pub distinct_more : (outcomes : List Outcome) (outcome : Outcome) → AreDistinct outcomes → IsNew outcomes outcome → AreDistinct (outcomes ++ outcome ∷ [])
distinct_more outcomes outcome distinct absent i j before within same =
    let more : length (outcomes ++ outcome ∷ []) ≡ length outcomes + 1 = length-append outcomes (outcome ∷ []) in
    let left : slice_get (outcomes ++ outcome ∷ []) i ≡ slice_get outcomes i = slice_get_left outcomes (outcome ∷ []) i (omega arith) in
    ⊎_elim
    (λ (lt : j < length outcomes). distinct i j before lt (sym left ∙ same ∙ slice_get_left outcomes (outcome ∷ []) j lt))
    (λ (ge : length outcomes ≤ j).
    let at : j ≡ length outcomes = omega arith in
    absent i (omega arith) (sym left ∙ same ∙ ap (slice_get (outcomes ++ outcome ∷ [])) at ∙ slice_get_seam outcomes outcome))
    (cases_lt j (length outcomes))

begin_more : (hash : Outcome → ℕ) (outcomes : List Outcome) (outcome : Outcome) (heads next : List ℕ) → IsIndex hash outcomes heads next → hash outcome < 8191 →
    (value : ℕ) → value < 8191 → IsLast hash (outcomes ++ outcome ∷ []) value (length (outcomes ++ outcome ∷ [])) (slice_index (set heads (hash outcome) (length outcomes + 1)) value)
begin_more hash outcomes outcome heads next is small value fits =
    let all : List Outcome = outcomes ++ outcome ∷ [] in
    let place : ℕ = length outcomes + 1 in
    ⊎_elim
    (λ (e : hash outcome ≡ value).
    let size = is.size in
    let at : slice_index (set heads (hash outcome) place) (hash outcome) ≡ place = get_or-set_same heads (hash outcome) place 0 (omega arith) in
    subst (λ v. IsLast hash all v (length all) (slice_index (set heads (hash outcome) place) v)) e
    (subst (λ last. IsLast hash all (hash outcome) (length all) last) (sym at) (last_new hash outcomes outcome)))
    (λ (other : hash outcome ≢ value).
    let kept : slice_index (set heads (hash outcome) place) value ≡ slice_index heads value = get_or-set_other heads (hash outcome) value place 0 (λ q. other (sym q)) in
    subst (λ last. IsLast hash all value (length all) last) (sym kept) (last_other hash outcomes outcome value (slice_index heads value) other (is.begin value fits)))
    (cases_eq (hash outcome) value)

follow_more : (hash : Outcome → ℕ) (outcomes : List Outcome) (outcome : Outcome) (heads next : List ℕ) → IsIndex hash outcomes heads next → hash outcome < 8191 →
    (k value : ℕ) → option_map hash (slice_get (outcomes ++ outcome ∷ []) k) ≡ Some value → IsLast hash (outcomes ++ outcome ∷ []) value k (slice_index (next ++ slice_index heads (hash outcome) ∷ []) k)
follow_more hash outcomes outcome heads next is small k value here =
    let all : List Outcome = outcomes ++ outcome ∷ [] in
    let head : ℕ = slice_index heads (hash outcome) in
    let same = is.same in
    ⊎_elim
    (λ (lt : k < length outcomes).
    let at : slice_index (next ++ head ∷ []) k ≡ slice_index next k = get_or_append_left next (head ∷ []) 0 k (omega arith) in
    let before : option_map hash (slice_get outcomes k) ≡ Some value = sym (ap (option_map hash) (slice_get_left outcomes (outcome ∷ []) k lt)) ∙ here in
    subst (λ last. IsLast hash all value k last) (sym at) (last_kept hash outcomes outcome value k (slice_index next k) (omega arith) (is.follow k value before)))
    (λ (ge : length outcomes ≤ k).
    ⊎_elim
    (λ (beyond : length outcomes < k).
    let none : slice_get all k ≡ None = slice_get_past all k (omega (arith, length-append outcomes (outcome ∷ []))) in
    absurd (let e : None ≡ Some value = sym (ap (option_map hash) none) ∙ here in cc))
    (λ (le : k ≤ length outcomes).
    let is_here : length outcomes ≡ k = omega arith in
    let its : Some (hash outcome) ≡ Some value = sym (ap (option_map hash) (slice_get_seam outcomes outcome)) ∙ ap (λ j. option_map hash (slice_get all j)) is_here ∙ here in
    let e : hash outcome ≡ value = cc in
    let at : slice_index (next ++ head ∷ []) (length outcomes) ≡ head = ap (slice_index (next ++ head ∷ [])) (sym same) ∙ get_or-append_seam next head [] 0 in
    subst (λ j. IsLast hash all value j (slice_index (next ++ head ∷ []) j)) is_here
    (subst (λ v. IsLast hash all v (length outcomes) (slice_index (next ++ head ∷ []) (length outcomes))) e
    (subst (λ last. IsLast hash all (hash outcome) (length outcomes) last) (sym at)
    (last_kept hash outcomes outcome (hash outcome) (length outcomes) head (omega arith) (is.begin (hash outcome) small)))))
    (cases_lt (length outcomes) k))
    (cases_lt k (length outcomes))

pub index_more : (hash : Outcome → ℕ) (outcomes : List Outcome) (outcome : Outcome) (heads next : List ℕ) → IsIndex hash outcomes heads next → hash outcome < 8191 → length outcomes < 65536 → IsNew outcomes outcome →
    IsIndex hash (outcomes ++ outcome ∷ []) (set heads (hash outcome) (length outcomes + 1)) (next ++ slice_index heads (hash outcome) ∷ [])
index_more hash outcomes outcome heads next is small few absent =
    let more : length (outcomes ++ outcome ∷ []) ≡ length outcomes + 1 = length-append outcomes (outcome ∷ []) in
    record {
      size = length-set heads (hash outcome) (length outcomes + 1) ∙ is.size;
      same = let same = is.same in omega (arith, length-append next (slice_index heads (hash outcome) ∷ []));
      few = omega arith;
      begin = begin_more hash outcomes outcome heads next is small;
      follow = follow_more hash outcomes outcome heads next is small;
      distinct = distinct_more outcomes outcome is.distinct absent;
    }

pub index_none : (hash : Outcome → ℕ) → IsIndex hash [] (replicate 8191 0) []
index_none hash = record {
  size = length-replicate {A = ℕ} 8191 0;
  same = refl;
  few = omega arith;
  begin = λ value fits. subst (λ last. IsLast hash [] value 0 last) (sym (get_or-replicate 8191 value 0 0 fits)) (record { within = omega arith; has = λ some. absurd (omega arith); none = λ k from to here. absurd (omega arith) });
  follow = λ k value here. absurd (let e : None ≡ Some value = here in cc);
  distinct = λ i j before within same. absurd (omega arith);
}

-- what a push gives
pub index_made : (hash : Outcome → ℕ) (outcomes made : List Outcome) (outcome : Outcome) (heads next pushed : List ℕ) (value place head : ℕ) → IsIndex hash outcomes heads next → value ≡ hash outcome → value < 8191 → length outcomes < 65536 → IsNew outcomes outcome →
    made ≡ outcomes ++ outcome ∷ [] → head ≡ slice_index heads value → pushed ≡ next ++ head ∷ [] → place ≡ length outcomes + 1 → IsIndex hash made (set heads value place) pushed
index_made hash outcomes made outcome heads next pushed value place head is its small few absent made_is head_is pushed_is place_is =
    let all : List Outcome = outcomes ++ outcome ∷ [] in
    let links : IsIndex hash all (set heads (hash outcome) (length outcomes + 1)) (next ++ slice_index heads (hash outcome) ∷ []) = index_more hash outcomes outcome heads next is (omega arith) few absent in
    subst (λ os. IsIndex hash os (set heads value place) pushed) (sym made_is)
    (subst (λ ns. IsIndex hash all (set heads value place) ns) (sym (pushed_is ∙ ap (λ n. next ++ n ∷ []) head_is))
    (subst (λ n. IsIndex hash all (set heads value n) (next ++ slice_index heads value ∷ [])) (sym place_is)
    (subst (λ v. IsIndex hash all (set heads v (length outcomes + 1)) (next ++ slice_index heads v ∷ [])) (sym its) links)))
