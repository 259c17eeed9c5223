-- The block that a word expresses, from its first part and what comes after the separator.
use Rattle.std.proofs.Common.{◌≡◌, ℕ, ◌+◌, ◌*◌, Bool, true, false, cond, List, [], ◌∷◌, Option, Some, None, refl, sym, ap, ◌∙◌, arith, length, option_and_then, option_map, nat_le, nat_lt, ◌==◌, ◌||◌, inl, inr}
use Rattle.std.specs.List.{onto_first, join_with_byte}
use Rattle.std.proofs.lemmas.Option.{none-some, cond_some}
use Rattle.std.proofs.lemmas.Bool.{cases_eq}
use Rattle.std.proofs.lemmas.List.Splits.{length-slice_split, join_with_byte-slice_split, slice_split-cons_no}
use Rattle.prt_addr.specs.Word.{Word, parts_at, is_one_of}
use Rattle.prt_addr.specs.Steps.{parts_of_rest}
use Rattle.prt_addr.specs.Decimal.{decimal_within, has_leading_zero, followed_by, digit_of, at_most}
use Rattle.prt_addr.specs.Addr.{address}
use Rattle.prt_addr.specs.Prefix.{block, block_of, everything_words}
use Rattle.prt_addr.specs.Steps.{block_from}
use Rattle.prt_addr.specs.declared.addr.Addr.{Addr}

-- a word that names no block expresses its parts
block_of_parts : (w : Word) → is_one_of w everything_words ≡ false → block w ≡ block_of (parts_at 47 w)
block_of_parts w named = simp named refl

-- with no length after it an address is not enough
no_length : (bits len : Word) (o : Option Addr) → decimal_within 2 32 len ≡ None → option_and_then (λ addr. option_map (λ n. block_from (addr, n)) (decimal_within 2 32 len)) o ≡ None
no_length bits len None bad = refl
no_length bits len (Some addr) bad = ap (option_map (λ n. block_from (addr, n))) bad

-- whatever comes after the separator, if it is no length
bad_rest : (bits len : Word) (parts : List Word) → parts_at 47 len ≡ parts → decimal_within 2 32 len ≡ None → block_of (bits ∷ parts) ≡ None
bad_rest bits len [] split bad = absurd (omega (arith, ap length split, length-slice_split (λ b. b == 47) len))
bad_rest bits len (part ∷ []) split bad =
    let same : part ≡ len = ap (λ parts. join_with_byte 47 parts) (sym split) ∙ join_with_byte-slice_split 47 len in
    ap (λ part. block_of (bits ∷ part ∷ [])) same ∙ no_length bits len (address bits) bad
bad_rest bits len (part ∷ more ∷ others) split bad = refl

-- what comes after the separator is no length
pub bad_length : (w bits len : Word) (rest : Option Word) → is_one_of w everything_words ≡ false → parts_at 47 w ≡ bits ∷ parts_of_rest 47 rest → rest ≡ Some len → decimal_within 2 32 len ≡ None → block w ≡ None
bad_length w bits len rest named parts after bad =
    block_of_parts w named ∙ ap block_of parts ∙ ap (λ rest. block_of (bits ∷ parts_of_rest 47 rest)) after ∙ bad_rest bits len (parts_at 47 len) refl bad

-- what a number within its limit says
kept_number : (long unfit : Bool) (number : Option ℕ) (limit n : ℕ) → cond long None (at_most limit (cond unfit None number)) ≡ Some n → number ≡ Some n
kept_number true unfit number limit n e = absurd (none-some n e)
kept_number false true number limit n e = absurd (none-some n e)
kept_number false false None limit n e = absurd (none-some n e)
kept_number false false (Some m) limit n e = ap Some (cond_some (nat_le m limit) m n e).1

-- a digit is no separator
not_separator : (b d : ℕ) → digit_of b ≡ Some d → b == 47 ≡ false
not_separator b d is = elim (cases_eq b 47) [
  | inl same ↦ absurd (none-some d (ap digit_of (sym same) ∙ is))
  | inr other ↦ grind (arith, other)
]

-- a digit before digits
one_digit_part : (b : ℕ) (w : Word) (n m : ℕ) (digit : Option ℕ) → digit_of b ≡ digit → ((n : ℕ) → followed_by 10 digit_of n w ≡ Some m → parts_at 47 w ≡ w ∷ []) → option_and_then (λ d. followed_by 10 digit_of (n * 10 + d) w) digit ≡ Some m → parts_at 47 (b ∷ w) ≡ (b ∷ w) ∷ []
one_digit_part b w n m None is rest e = absurd (none-some m e)
one_digit_part b w n m (Some d) is rest e = slice_split-cons_no (λ b. b == 47) b w (not_separator b d is) ∙ ap (onto_first b) (rest (n * 10 + d) e)

-- digits have no separator among them
digits_only : (w : Word) (n m : ℕ) → followed_by 10 digit_of n w ≡ Some m → parts_at 47 w ≡ w ∷ []
digits_only [] n m e = refl
digits_only (b ∷ w) n m e = one_digit_part b w n m (digit_of b) refl (λ n. digits_only w n m) e

-- an address and a length
pub both : (w bits len : Word) (rest : Option Word) (addr : Addr) (n : ℕ) → is_one_of w everything_words ≡ false → parts_at 47 w ≡ bits ∷ parts_of_rest 47 rest → rest ≡ Some len → address bits ≡ Some addr → decimal_within 2 32 len ≡ Some n → block w ≡ Some (block_from (addr, n))
both w bits len rest addr n named parts after reads number =
    let digits = kept_number (nat_lt 2 (length len)) (length len == 0 || has_leading_zero len) (followed_by 10 digit_of 0 len) 32 n number in
    let one : parts_at 47 len ≡ len ∷ [] = digits_only len 0 n digits in
    block_of_parts w named ∙ ap block_of parts ∙ ap (λ rest. block_of (bits ∷ parts_of_rest 47 rest)) after ∙ ap (λ parts. block_of (bits ∷ parts)) one
    ∙ ap (option_and_then (λ addr. option_map (λ n. block_from (addr, n)) (decimal_within 2 32 len))) reads
    ∙ ap (option_map (λ n. block_from (addr, n))) number
