-- Values are written as words.
use Rattle.std.proofs.Common.{◌≡◌, ℕ, ◌-◌, ◌/◌, ◌%◌, ◌^◌, ◌<◌, ◌≤◌, Bool, true, false, List, [], ◌∷◌, ◌++◌, Option, Some, None, refl, sym, ap, ◌∙◌, subst, arith, length, nat_le}
use Rattle.std.specs.Prelude.{codes, decimal, ◌==◌, ◌&&◌, if◌then◌else◌, unwrap_or}
use Rattle.std.specs.Fmt.{digits}
use Rattle.std.specs.List.{list_all, AllByRecursion as Each}
use Rattle.std.proofs.lemmas.Bool.{leb-true}
use Rattle.std.proofs.lemmas.Bool.Decides.{nat_tests}
use Rattle.std.proofs.lemmas.Fmt.{length-decimal-le}
use Rattle.std.proofs.lemmas.List.{length-append}
use Rattle.prt_addr.specs.Addr.{addr_text}
use Rattle.prt_addr.specs.Block.{Block}
use Rattle.prt_addr.specs.Prefix.{prefix_text}
use Rattle.prt_addr.specs.Sound.{IsPrefix}
use Rattle.prt_addr.specs.Word.{Word}
use Rattle.prt_addr.specs.declared.addr.Addr.{Addr}
use Rattle.prt_addr.proofs.Each.{each_append, each_implies}
use Rattle.prt_route.specs.Name.{is_name}
use Rattle.prt_route.specs.Names.{name_in}
use Rattle.prt_rule.specs.declared.rule.Mark.{Mark}
use Rattle.prt_listing.specs.Parts.{mark_text}
use Rattle.prt_spelling.specs.Plain.{is_plain_byte, is_plain_name}
use Rattle.prt_spelling.proofs.Digits.{IsDigit, IsHexDigit, decimal_is, hex_is, length_hex}
use Rattle.prt_spelling.proofs.Letters.{BeginsWithDigit}
use Rattle.prt_spelling.proofs.Texts.{IsWord, all_of_each}
use Rattle.prt_spelling.proofs.Values.{address_begins, digits_of, dots, hex, text_is, whole_text}

pub both_true : (p q : Bool) → p && q ≡ true → (p ≡ true) × (q ≡ true)
both_true true true h = (refl, refl)
both_true true false h = absurd cc
both_true false q h = absurd cc

abbrev IsPlain : ℕ → Type 0
IsPlain b = is_plain_byte b ≡ true

plain_each : (w : Word) → Each IsPlain w → list_all is_plain_byte w ≡ true
plain_each w each = all_of_each is_plain_byte IsPlain (λ b h. h) w each

plain_digit : (b : ℕ) → IsDigit b → IsPlain b
plain_digit b d = let low = d.low in let high = d.high in grind (arith, nat_tests)

plain_hex_digit : (b : ℕ) → IsHexDigit b → IsPlain b
plain_hex_digit b d = let low = d.low in let high = d.high in grind (arith, nat_tests)

plain_number : (n : ℕ) → n < 2 ^ 64 → Each IsPlain (decimal n)
plain_number n fits = each_implies IsDigit IsPlain plain_digit (decimal n) (digits_of n fits)

pub decimal_word : (k n : ℕ) → 0 < k → n < 10 ^ k → n < 2 ^ 64 → IsWord k (decimal n)
decimal_word k n some below fits = record { some = (decimal_is n fits).some; plain = plain_each (decimal n) (plain_number n fits); short = length-decimal-le k n some below fits }

-- ---- names of numbers

-- a word of at most ten bytes
abbrev pub is_short_word : Word → Bool
is_short_word w = nat_le 1 (length w) && nat_le (length w) 10 && list_all is_plain_byte w

short_word : (w : Word) → is_short_word w ≡ true → IsWord 10 w
short_word w h =
    let first = both_true (nat_le 1 (length w) && nat_le (length w) 10) (list_all is_plain_byte w) h in
    let second = both_true (nat_le 1 (length w)) (nat_le (length w) 10) first.0 in
    let some : 1 ≤ length w = leb-true _ _ second.0 in
    record { some = omega (arith, some); plain = first.1; short = leb-true _ _ second.1 }

-- what each name passes is passed by that of a number
name_passes_by : (p : Word → Bool) (rows : List (Word × ℕ)) (n : ℕ) (w v : Word) (b : Bool) → p w ≡ true → (name_in rows n ≡ Some v → p v ≡ true) → (if b then Some w else name_in rows n) ≡ Some v → p v ≡ true
name_passes_by p rows n w v true is rest h = let same : w ≡ v = cc in ap p (sym same) ∙ is
name_passes_by p rows n w v false is rest h = rest h

pub name_passes : (p : Word → Bool) (rows : List (Word × ℕ)) (n : ℕ) (v : Word) → list_all (λ (row : Word × ℕ). p row.0) rows ≡ true → name_in rows n ≡ Some v → p v ≡ true
name_passes p [] n v are h = absurd cc
name_passes p (row ∷ rows) n v are h =
    let each = both_true (p row.0) (list_all (λ (row : Word × ℕ). p row.0) rows) are in
    name_passes_by p rows n row.0 v (row.1 == n) each.0 (name_passes p rows n v each.1) h

abbrev pub are_short_words : List (Word × ℕ) → Bool
are_short_words names = list_all (λ (row : Word × ℕ). is_short_word row.0) names

named_word_by : (names : List (Word × ℕ)) (n : ℕ) (o : Option Word) → are_short_words names ≡ true → name_in names n ≡ o → n < 2 ^ 32 → IsWord 10 (unwrap_or o (decimal n))
named_word_by names n (Some v) are is fits = short_word v (name_passes is_short_word names n v are is)
named_word_by names n None are is fits = decimal_word 10 n (omega arith) (omega arith) (omega arith)

pub named_word : (names : List (Word × ℕ)) (n : ℕ) → are_short_words names ≡ true → n < 2 ^ 32 → IsWord 10 (unwrap_or (name_in names n) (decimal n))
named_word names n are fits = named_word_by names n (name_in names n) are refl fits

-- ---- addresses and prefixes

dots_length : (p q r s : List ℕ) → length p ≤ 3 → length q ≤ 3 → length r ≤ 3 → length s ≤ 3 → length (p ++ 46 ∷ (q ++ 46 ∷ (r ++ 46 ∷ s))) ≤ 15
dots_length p q r s lp lq lr ls =
    let a = length-append p (46 ∷ (q ++ 46 ∷ (r ++ 46 ∷ s))) in
    let b = length-append q (46 ∷ (r ++ 46 ∷ s)) in
    let c = length-append r (46 ∷ s) in
    omega arith

octet_length : (n : ℕ) → n ≤ 255 → length (decimal n) ≤ 3
octet_length n fits = length-decimal-le 3 n (omega arith) (omega arith) (omega arith)

address_length : (a : Addr) → a.0 < 2 ^ 32 → length (addr_text a) ≤ 15
address_length a fits =
    let l : length (dots (a.0 / 2 ^ 24) (a.0 / 2 ^ 16 % 256) (a.0 / 2 ^ 8 % 256) (a.0 % 256)) ≤ 15 =
    dots_length (decimal (a.0 / 2 ^ 24)) (decimal (a.0 / 2 ^ 16 % 256)) (decimal (a.0 / 2 ^ 8 % 256)) (decimal (a.0 % 256))
    (octet_length (a.0 / 2 ^ 24) (omega arith)) (octet_length (a.0 / 2 ^ 16 % 256) (omega arith)) (octet_length (a.0 / 2 ^ 8 % 256) (omega arith)) (octet_length (a.0 % 256) (omega arith)) in
    subst (λ (t : List ℕ). length t ≤ 15) (sym (text_is a)) l

some_begun : (w : Word) → BeginsWithDigit w → 0 < length w
some_begun w b = let e = ap length b.is in omega arith

plain_address : (a : Addr) → a.0 < 2 ^ 32 → Each IsPlain (addr_text a)
plain_address a fits = whole_text IsPlain refl plain_number a fits

pub address_word : (a : Addr) → a.0 < 2 ^ 32 → IsWord 15 (addr_text a)
address_word a fits = record { some = some_begun (addr_text a) (address_begins a fits); plain = plain_each (addr_text a) (plain_address a fits); short = address_length a fits }

prefix_word_by : (a : Addr) (len : ℕ) (b : Bool) → a.0 < 2 ^ 32 → len ≤ 32 → IsWord 18 (addr_text a ++ (if b then [] else codes "/" ++ decimal len))
prefix_word_by a len true fits short =
    let is = address_word a fits in
    let e = length-append (addr_text a) [] in
    record { some = omega (arith, is.some, e); plain = plain_each _ (each_append IsPlain (addr_text a) [] (plain_address a fits) tt); short = omega (arith, is.short, e) }
prefix_word_by a len false fits short =
    let is = address_word a fits in
    let e = length-append (addr_text a) (47 ∷ decimal len) in
    let l = length-decimal-le 2 len (omega arith) (omega arith) (omega arith) in
    record { some = omega (arith, is.some, e); plain = plain_each _ (each_append IsPlain (addr_text a) (47 ∷ decimal len) (plain_address a fits) (refl, plain_number len (omega arith))); short = omega (arith, is.short, e, l) }

pub prefix_word : (p : Block) → IsPrefix p → IsWord 18 (prefix_text p)
prefix_word p is = prefix_word_by (record { 0 = p.bits }) p.len (p.len == 32) is.fits is.short

-- ---- names of interfaces

pub name_facts : (w : Word) → is_plain_name (Some w) ≡ true → (is_name w ≡ true) × IsWord 15 w
name_facts w h =
    let each = both_true (is_name w) (list_all is_plain_byte w) h in
    let third = (both_true _ _ each.0).0 in
    let second = (both_true _ _ third).0 in
    let first = both_true (nat_le 1 (length w)) (nat_le (length w) 15) second in
    let some : 1 ≤ length w = leb-true _ _ first.0 in
    (each.0, record { some = omega (arith, some); plain = each.1; short = leb-true _ _ first.1 })

-- ---- marks

plain_hex : (n : ℕ) → n < 2 ^ 32 → Each IsPlain (hex n)
plain_hex n fits = (refl, (refl, each_implies IsHexDigit IsPlain plain_hex_digit (digits 16 false n) (hex_is n fits).digits))

mark_word_by : (m mask : ℕ) (b : Bool) → m < 2 ^ 32 → mask < 2 ^ 32 → IsWord 133 (hex m ++ (if b then [] else codes "/" ++ hex mask))
mark_word_by m mask true fits masks =
    let e = length-append (digits 16 false m) [] in
    let l = length_hex m in
    record { some = omega arith; plain = plain_each (hex m ++ []) (each_append IsPlain (hex m) [] (plain_hex m fits) tt); short = omega (arith, e, l) }
mark_word_by m mask false fits masks =
    let e = length-append (digits 16 false m) (47 ∷ hex mask) in
    let l = length_hex m in
    let k = length_hex mask in
    record { some = omega arith; plain = plain_each (hex m ++ 47 ∷ hex mask) (each_append IsPlain (hex m) (47 ∷ hex mask) (plain_hex m fits) (refl, plain_hex mask masks)); short = omega (arith, e, l, k) }

pub mark_word : (m : Mark) → m.mark < 2 ^ 32 → m.mask < 2 ^ 32 → IsWord 133 (mark_text m)
mark_word m fits masks = mark_word_by m.mark m.mask (m.mask == 2 ^ 32 - 1) fits masks
