-- The octets of an address, read one after another.
use Rattle.std.proofs.Common.{◌≡◌, ℕ, ◌<◌, ◌≤◌, true, false, List, [], ◌∷◌, ◌++◌, Option, Some, None, refl, ap, ◌∙◌, arith, length, take, get_or, option_map, map, nat_le, is_some, ◌==◌}
use Rattle.std.proofs.lemmas.List.{length-append, take_all}
use Rattle.std.proofs.lemmas.List.Splits.{length-slice_split}
use Rattle.prt_addr.specs.Word.{Word, keep, before, all_of, parts_at}
use Rattle.prt_addr.specs.Steps.{parts_of_rest}
use Rattle.prt_addr.specs.Addr.{octet, octets_of, address, address_of}

-- the octets, if they are four at most
abbrev pub at_most_four : Option (List ℕ) → Option (List ℕ)
at_most_four octets = keep (λ octets. nat_le (length octets) 4) octets

-- the octets so far, before the others if they are there
abbrev pub onto : List ℕ → Option (List ℕ) → Option (List ℕ)
onto so_far None = None
onto so_far (Some others) = Some (so_far ++ others)

-- the octets of a word are those so far, which are the first i of four, and those of the rest
pub record IsReadTo (w : Word) (rest : Option Word) (octets : List ℕ) (i : ℕ) : Type 0 where
  pub reads_on : octets_of w ≡ at_most_four (onto (take i octets) (all_of (map octet (parts_of_rest 46 rest))))
  pub untouched : (k : ℕ) → i ≤ k → get_or octets k 0 ≡ 0
  pub four : length octets ≡ 4

-- five octets or more are not
not_kept : (octets : List ℕ) → 4 < length octets → at_most_four (Some octets) ≡ None
not_kept octets long = let test : nat_le (length octets) 4 ≡ false = grind (arith, long) in simp test refl

-- one octet after four
left_over : (so_far : List ℕ) (o : ℕ) → length so_far ≡ 4 → (others : Option (List ℕ)) → at_most_four (onto so_far (before o others)) ≡ None
left_over so_far o four None = refl
left_over so_far o four (Some others) = not_kept (so_far ++ o ∷ others) (omega (arith, four, length-append so_far (o ∷ others)))

-- one part after four
left_by : (so_far : List ℕ) → length so_far ≡ 4 → (first : Option ℕ) (others : List (Option ℕ)) → at_most_four (onto so_far (all_of (first ∷ others))) ≡ None
left_by so_far four None others = refl
left_by so_far four (Some o) others = left_over so_far o four (all_of others)

-- one part or more after four
left_parts : (so_far : List ℕ) → length so_far ≡ 4 → (parts : List Word) → 0 < length parts → at_most_four (onto so_far (all_of (map octet parts))) ≡ None
left_parts so_far four [] some = absurd (omega (arith, some))
left_parts so_far four (part ∷ parts) some = left_by so_far four (octet part) (map octet parts)

-- four octets are read, and more parts are left
pub five_parts : (w : Word) (rest : Option Word) (octets : List ℕ) (i : ℕ) → IsReadTo w rest octets i → 4 ≤ i → is_some rest ≡ true → address w ≡ None
five_parts w None octets i so_far all left = absurd cc
five_parts w (Some v) octets i so_far all left =
    let whole : length (take i octets) ≡ 4 = ap length (take_all i octets (omega (arith, so_far.four))) ∙ so_far.four in
    ap (option_map address_of) (so_far.reads_on ∙ left_parts (take i octets) whole (parts_at 46 v) (omega (arith, length-slice_split (λ b. b == 46) v)))

-- a map keeps the variant
pub still_some : {A B : Type 0} (f : A → B) (value : Option A) → is_some (option_map f value) ≡ is_some value
still_some f None = refl
still_some f (Some x) = refl

-- no value is there and not there
pub some_none : {A : Type 0} (value : Option A) → is_some value ≡ true → value ≡ None → ⊥
some_none None some none = cc
some_none (Some x) some none = cc
