-- The first number that isn't among numbers that rise, and the name of it.
use Rattle.std.proofs.Common.{◌≡◌, ◌≢◌, inl, ℕ, ◌+◌, ◌-◌, ◌<◌, ◌≤◌, true, false, ◌||◌, List, [], ◌∷◌, ◌++◌, length, get_or, Option, Some, None, refl, sym, ap, ◌∙◌, subst, arith, ⊎_elim}
use Rattle.std.specs.Prelude.{bytes_eq, option_and_then}
use Rattle.std.specs.List.{Contains}
use Rattle.std.specs.List.Sorted.{IsStrictlyIncreasing}
use Rattle.std.specs.Option.{option_eq, option_to_list}
use Rattle.std.proofs.lemmas.Bool.{cases_Bool, cases_lt}
use Rattle.std.proofs.lemmas.List.{get_or_default}
use Rattle.std.proofs.lemmas.Slice.Eq.{bytes_eq-Decides}
use Rattle.std.proofs.lemmas.List.Kept.{AllPairs-from_increasing}
use Rattle.prt_addr.specs.Word.{Word}
use Rattle.prt_rule.specs.declared.rule.Rule.{Rule}
use Rattle.prt_partition.specs.Classes.{is_named, names, number_of, numbers_of}
use Rattle.prt_partition.proofs.Starts.{IsIn, in_contains, in_left, in_right}

-- below i each number is its place, and the one at i, if there is one, is not
pub no_such : (ns : List ℕ) (i : ℕ) → IsStrictlyIncreasing ns → ((k : ℕ) → k < i → get_or ns k 0 ≡ k) → (i < length ns → get_or ns i 0 ≢ i) → Contains ns i → ⊥
no_such ns i rise before not_here at =
    let k : ℕ = at.0 in
    let inside : k < length ns = at.1 in
    let is : get_or ns k i ≡ i = at.2 in
    let above : (a b d : ℕ) → a < b → b < length ns → get_or ns a d < get_or ns b d = AllPairs-from_increasing ns rise in
    let same : get_or ns k i ≡ get_or ns k 0 = get_or_default ns k i 0 inside in
    ⊎_elim
    (λ (lt : k < i). let b : get_or ns k 0 ≡ k = before k lt in omega arith)
    (λ (ge : i ≤ k).
    let here : get_or ns i 0 ≢ i = not_here (omega arith) in
    let low : i ≤ get_or ns i 0 =
    ⊎_elim
    (λ (some : 0 < i). let b : get_or ns (i - 1) 0 ≡ i - 1 = before (i - 1) (omega arith) in let a : get_or ns (i - 1) 0 < get_or ns i 0 = above (i - 1) i 0 (omega arith) (omega arith) in omega arith)
    (λ (none : i ≤ 0). omega arith)
    (cases_lt 0 i) in
    ⊎_elim
    (λ (more : i < k). let a : get_or ns i 0 < get_or ns k 0 = above i k 0 more inside in omega arith)
    (λ (less : k ≤ i). let e : k ≡ i = omega arith in let f : get_or ns k 0 ≡ get_or ns i 0 = ap (λ n. get_or ns n 0) e in here (omega arith))
    (cases_lt i k))
    (cases_lt k i)

few_by : (o : Option ℕ) (ns : List ℕ) (most : ℕ) → length ns ≤ most → length (option_to_list o ++ ns) ≤ most + 1
few_by None ns most h = omega arith
few_by (Some n) ns most h = omega arith

pub numbers_few : (rules : List Rule) → length (numbers_of rules) ≤ length rules
numbers_few [] = omega arith
numbers_few (rule ∷ rules) = let h : length (option_to_list (option_and_then number_of rule.iif) ++ numbers_of rules) ≤ length rules + 1 = few_by (option_and_then number_of rule.iif) (numbers_of rules) (length rules) (numbers_few rules) in omega arith

number_by : (name : Word) (n : ℕ) (o : Option Word) → number_of name ≡ Some n → option_eq bytes_eq o (Some name) ≡ true → IsIn n (option_to_list (option_and_then number_of o))
number_by name n None is h = absurd cc
number_by name n (Some m) is h =
    let e : m ≡ name = (bytes_eq-Decides m name).0 h in
    subst (λ (o : Option ℕ). IsIn n (option_to_list o)) (sym (ap number_of e ∙ is)) (inl refl)

named_number : (rules : List Rule) (name : Word) (n : ℕ) → number_of name ≡ Some n → is_named rules name ≡ true → IsIn n (numbers_of rules)
named_number [] name n is h = absurd cc
named_number (rule ∷ rules) name n is h =
    ⊎_elim
    (λ (e : names name rule ≡ true). in_left n (option_to_list (option_and_then number_of rule.iif)) (numbers_of rules) (number_by name n rule.iif is e))
    (λ (e : names name rule ≡ false). in_right n (option_to_list (option_and_then number_of rule.iif)) (numbers_of rules) (named_number rules name n is (ap (λ b. b || is_named rules name) (sym e) ∙ h)))
    (cases_Bool (names name rule))

-- a name whose number is none of those of the names that rules name
pub unnamed : (rules : List Rule) (name : Word) (n : ℕ) (numbers sorted : List ℕ) → number_of name ≡ Some n → numbers ≡ numbers_of rules → ((k : ℕ) → Contains numbers k → Contains sorted k) → (Contains sorted n → ⊥) → is_named rules name ≡ false
unnamed rules name n numbers sorted is are keeps gap =
    ⊎_elim
    (λ (e : is_named rules name ≡ true). absurd (gap (keeps n (in_contains n numbers (subst (IsIn n) (sym are) (named_number rules name n is e))))))
    (λ (e : is_named rules name ≡ false). e)
    (cases_Bool (is_named rules name))
