-- A word that begins with a digit is none that begins with a letter.
use Rattle.std.proofs.Common.{◌≡◌, ℕ, ◌<◌, ◌≤◌, false, List, [], ◌∷◌, ◌++◌, None, refl, ap, ◌∙◌, arith, length}
use Rattle.std.specs.Prelude.{◌==◌, bytes_eq, codes}
use Rattle.std.specs.List.{AllByRecursion as Each}
use Rattle.std.proofs.lemmas.Bool.Decides.{nat_tests}
use Rattle.prt_addr.specs.Word.{Word, is_one_of}
use Rattle.prt_addr.specs.Prefix.{everything_words}
use Rattle.prt_route.specs.Names.{number_in, protocols, scopes, tables}
use Rattle.prt_command.specs.LineKinds.{is_to, word_in, route_edit_words}
use Rattle.prt_command.specs.Values.{prefix_word}
use Rattle.prt_command.specs.declared.item.Slot.TheVariants.{Destination}
use Rattle.prt_spelling.proofs.Digits.{IsDigit}

-- The first byte of a word is a digit.
pub record BeginsWithDigit (w : Word) : Type 0 where
  pub first : ℕ
  pub others : List ℕ
  pub is : w ≡ first ∷ others
  pub digit : IsDigit first

pub digits_begin : (w : Word) → 0 < length w → Each IsDigit w → BeginsWithDigit w
digits_begin [] some digits = absurd (omega (arith, some))
digits_begin (c ∷ cs) some digits = record { first = c; others = cs; is = refl; digit = digits.0 }

pub begin_more : (w v : Word) → BeginsWithDigit w → BeginsWithDigit (w ++ v)
begin_more w v b = record { first = b.first; others = b.others ++ v; is = ap (λ u. u ++ v) b.is; digit = b.digit }

-- no letter is a digit
other : (c : ℕ) → IsDigit c → (x : ℕ) → 58 ≤ x → (x == c) ≡ false
other c digit x letter = let low = digit.low in let high = digit.high in grind (arith, nat_tests)

no_table_by : (c : ℕ) (cs : List ℕ) → IsDigit c → number_in tables (c ∷ cs) ≡ None
no_table_by c cs d =
    let l = other c d 108 (omega arith) in
    let m = other c d 109 (omega arith) in
    let e = other c d 100 (omega arith) in
    simp (l, m, e) refl

pub no_table : (w : Word) → BeginsWithDigit w → number_in tables w ≡ None
no_table w b = ap (number_in tables) b.is ∙ no_table_by b.first b.others b.digit

no_protocol_by : (c : ℕ) (cs : List ℕ) → IsDigit c → number_in protocols (c ∷ cs) ≡ None
no_protocol_by c cs d =
    let b = other c d 98 (omega arith) in
    let e = other c d 100 (omega arith) in
    let i = other c d 105 (omega arith) in
    let k = other c d 107 (omega arith) in
    let o = other c d 111 (omega arith) in
    let r = other c d 114 (omega arith) in
    let s = other c d 115 (omega arith) in
    let z = other c d 122 (omega arith) in
    simp (b, e, i, k, o, r, s, z) refl

pub no_protocol : (w : Word) → BeginsWithDigit w → number_in protocols w ≡ None
no_protocol w b = ap (number_in protocols) b.is ∙ no_protocol_by b.first b.others b.digit

no_scope_by : (c : ℕ) (cs : List ℕ) → IsDigit c → number_in scopes (c ∷ cs) ≡ None
no_scope_by c cs d =
    let g = other c d 103 (omega arith) in
    let h = other c d 104 (omega arith) in
    let l = other c d 108 (omega arith) in
    let n = other c d 110 (omega arith) in
    let s = other c d 115 (omega arith) in
    simp (g, h, l, n, s) refl

pub no_scope : (w : Word) → BeginsWithDigit w → number_in scopes w ≡ None
no_scope w b = ap (number_in scopes) b.is ∙ no_scope_by b.first b.others b.digit

no_everything_by : (c : ℕ) (cs : List ℕ) → IsDigit c → is_one_of (c ∷ cs) everything_words ≡ false
no_everything_by c cs d =
    let a = other c d 97 (omega arith) in
    let e = other c d 100 (omega arith) in
    simp (a, e) refl

pub no_everything : (w : Word) → BeginsWithDigit w → is_one_of w everything_words ≡ false
no_everything w b = ap (λ w. is_one_of w everything_words) b.is ∙ no_everything_by b.first b.others b.digit

no_all_by : (c : ℕ) (cs : List ℕ) → IsDigit c → bytes_eq (codes "all") (c ∷ cs) ≡ false
no_all_by c cs d = let a = other c d 97 (omega arith) in simp a refl

pub no_all : (w : Word) → BeginsWithDigit w → bytes_eq (codes "all") w ≡ false
no_all w b = ap (bytes_eq (codes "all")) b.is ∙ no_all_by b.first b.others b.digit

-- ---- a destination that begins so

no_item_by : (c : ℕ) (cs : List ℕ) → IsDigit c → word_in route_edit_words (c ∷ cs) ≡ None
no_item_by c cs d =
    let e = other c d 100 (omega arith) in
    let m = other c d 109 (omega arith) in
    let p = other c d 112 (omega arith) in
    let s = other c d 115 (omega arith) in
    let t = other c d 116 (omega arith) in
    let v = other c d 118 (omega arith) in
    simp (e, m, p, s, t, v) refl

pub no_item : (w : Word) → BeginsWithDigit w → word_in route_edit_words w ≡ None
no_item w b = ap (word_in route_edit_words) b.is ∙ no_item_by b.first b.others b.digit

no_to_by : (c : ℕ) (cs : List ℕ) → IsDigit c → is_to (c ∷ cs) ≡ false
no_to_by c cs d = let t = other c d 116 (omega arith) in simp t refl

pub no_to : (w : Word) → BeginsWithDigit w → is_to w ≡ false
no_to w b = ap is_to b.is ∙ no_to_by b.first b.others b.digit

no_kind_by : (c : ℕ) (cs : List ℕ) → IsDigit c → prefix_word Destination (c ∷ cs) ≡ None
no_kind_by c cs d =
    let b = other c d 98 (omega arith) in
    let p = other c d 112 (omega arith) in
    let t = other c d 116 (omega arith) in
    let u = other c d 117 (omega arith) in
    simp (b, p, t, u) refl

pub no_kind : (w : Word) → BeginsWithDigit w → prefix_word Destination w ≡ None
no_kind w b = ap (prefix_word Destination) b.is ∙ no_kind_by b.first b.others b.digit
