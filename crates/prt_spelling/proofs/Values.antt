-- Values that were written are read back.
use Rattle.std.proofs.Common.{◌≡◌, ℕ, ◌+◌, ◌-◌, ◌*◌, ◌/◌, ◌%◌, ◌^◌, ◌<◌, ◌≤◌, Bool, true, false, List, [], ◌∷◌, ◌++◌, Option, Some, None, Ok, refl, sym, ap, ◌∙◌, subst, append_assoc, arith, length, drop, cond, option_and_then, option_map, map, nat_le, nat_lt}
use Rattle.std.specs.Prelude.{codes, decimal, ◌==◌, if◌then◌else◌, position, unwrap_or}
use Rattle.std.specs.Fmt.{digits}
use Rattle.std.specs.List.{position_or_len, AllByRecursion as Each}
use Rattle.std.specs.Option.{option_or}
use Rattle.std.proofs.Math.Seq.{drop-append-add, take-append_seam}
use Rattle.std.proofs.lemmas.List.{append-nil}
use Rattle.std.proofs.lemmas.Bool.Decides.{nat_tests}
use Rattle.std.proofs.lemmas.List.Elements.{All-from_recursion}
use Rattle.std.proofs.lemmas.List.Splits.{slice_split_at, slice_split_none}
use Rattle.prt_addr.specs.Addr.{addr_text, address, address_of, octet}
use Rattle.prt_addr.specs.Block.{Block, host_bits}
use Rattle.prt_addr.specs.Decimal.{decimal_within}
use Rattle.prt_addr.specs.Number.{number}
use Rattle.prt_addr.specs.Prefix.{block, block_of, everything_words, masked, net, prefix, prefix_text, without_host_bits}
use Rattle.prt_addr.specs.Sound.{IsPrefix}
use Rattle.prt_addr.specs.Word.{Word, all_of, is_one_of, keep, parts_at}
use Rattle.prt_addr.specs.declared.addr.Addr.{Addr}
use Rattle.prt_addr.proofs.Each.{each_append, each_implies}
use Rattle.prt_route.specs.Names.{name_in, number_in, spelled_number}
use Rattle.prt_rule.specs.declared.rule.Mark.{Mark}
use Rattle.prt_command.specs.Then.{◌>>=◌}
use Rattle.prt_command.specs.Mark.{is_slash, mark, mark_at, part}
use Rattle.prt_spelling.proofs.Digits.{IsDigit, IsHexDigit, decimal_is, hex_back, hex_is, number_back, within_back}
use Rattle.prt_spelling.proofs.Letters.{BeginsWithDigit, begin_more, digits_begin, no_everything}

-- ---- parts between separators

pub part_then : (s : ℕ) (w rest : Word) → Each (λ c. (c == s) ≡ false) w → parts_at s (w ++ s ∷ rest) ≡ w ∷ parts_at s rest
part_then s w rest apart = slice_split_at (λ b. b == s) w s rest (All-from_recursion (λ c. (c == s) ≡ false) w apart) (grind (arith, nat_tests))

pub last_part : (s : ℕ) (w : Word) → Each (λ c. (c == s) ≡ false) w → parts_at s w ≡ w ∷ []
last_part s w apart = slice_split_none (λ b. b == s) w (All-from_recursion (λ c. (c == s) ≡ false) w apart)

no_dot : (c : ℕ) → IsDigit c → (c == 46) ≡ false
no_dot c d = let low = d.low in grind (arith, nat_tests)

no_slash : (c : ℕ) → IsDigit c → (c == 47) ≡ false
no_slash c d = let low = d.low in grind (arith, nat_tests)

pub digits_of : (n : ℕ) → n < 2 ^ 64 → Each IsDigit (decimal n)
digits_of n fits = (decimal_is n fits).digits

undotted : (n : ℕ) → n < 2 ^ 64 → Each (λ c. (c == 46) ≡ false) (decimal n)
undotted n fits = each_implies IsDigit (λ c. (c == 46) ≡ false) no_dot (decimal n) (digits_of n fits)

-- ---- addresses

octet_back : (n : ℕ) → n ≤ 255 → octet (decimal n) ≡ Some n
octet_back n fits = within_back 3 255 n (omega arith) (omega arith) fits (omega arith)

dotted : (a b c d : ℕ) → a ≤ 255 → b ≤ 255 → c ≤ 255 → d ≤ 255 → parts_at 46 (decimal a ++ 46 ∷ (decimal b ++ 46 ∷ (decimal c ++ 46 ∷ decimal d))) ≡ decimal a ∷ decimal b ∷ decimal c ∷ decimal d ∷ []
dotted a b c d fa fb fc fd =
    part_then 46 (decimal a) _ (undotted a (omega arith))
    ∙ ap (λ ps. decimal a ∷ ps) (part_then 46 (decimal b) _ (undotted b (omega arith)))
    ∙ ap (λ ps. decimal a ∷ decimal b ∷ ps) (part_then 46 (decimal c) _ (undotted c (omega arith)))
    ∙ ap (λ ps. decimal a ∷ decimal b ∷ decimal c ∷ ps) (last_part 46 (decimal d) (undotted d (omega arith)))

four_octets : (p q r s : Word) (a b c d : ℕ) → octet p ≡ Some a → octet q ≡ Some b → octet r ≡ Some c → octet s ≡ Some d → keep (λ octets. nat_le (length octets) 4) (all_of (map octet (p ∷ q ∷ r ∷ s ∷ []))) ≡ Some (a ∷ b ∷ c ∷ d ∷ [])
four_octets p q r s a b c d ea eb ec ed = simp (ea, eb, ec, ed) refl

whole_address : (n : ℕ) → n < 2 ^ 32 → n / 2 ^ 24 * 2 ^ 24 + n / 2 ^ 16 % 256 * 2 ^ 16 + n / 2 ^ 8 % 256 * 2 ^ 8 + n % 256 ≡ n
whole_address n fits = omega arith

abbrev address_by : ℕ → Addr
address_by n = record { 0 = n }

abbrev pub dots : ℕ → ℕ → ℕ → ℕ → List ℕ
dots a b c d = decimal a ++ 46 ∷ (decimal b ++ 46 ∷ (decimal c ++ 46 ∷ decimal d))

dots_are : (p q r s : List ℕ) → p ++ codes "." ++ q ++ codes "." ++ r ++ codes "." ++ s ≡ p ++ 46 ∷ (q ++ 46 ∷ (r ++ 46 ∷ s))
dots_are p q r s = simp append_assoc

pub text_is : (a : Addr) → addr_text a ≡ dots (a.0 / 2 ^ 24) (a.0 / 2 ^ 16 % 256) (a.0 / 2 ^ 8 % 256) (a.0 % 256)
text_is a = dots_are (decimal (a.0 / 2 ^ 24)) (decimal (a.0 / 2 ^ 16 % 256)) (decimal (a.0 / 2 ^ 8 % 256)) (decimal (a.0 % 256))

pub address_back : (a : Addr) → a.0 < 2 ^ 32 → address (addr_text a) ≡ Some a
address_back a fits =
    let n : ℕ = a.0 in
    ap address (text_is a)
    ∙ ap (λ ps. option_map address_of (keep (λ octets. nat_le (length octets) 4) (all_of (map octet ps)))) (dotted (n / 2 ^ 24) (n / 2 ^ 16 % 256) (n / 2 ^ 8 % 256) (n % 256) (omega arith) (omega arith) (omega arith) (omega arith))
    ∙ ap (option_map address_of) (four_octets (decimal (n / 2 ^ 24)) (decimal (n / 2 ^ 16 % 256)) (decimal (n / 2 ^ 8 % 256)) (decimal (n % 256)) _ _ _ _ (octet_back (n / 2 ^ 24) (omega arith)) (octet_back (n / 2 ^ 16 % 256) (omega arith)) (octet_back (n / 2 ^ 8 % 256) (omega arith)) (octet_back (n % 256) (omega arith)))
    ∙ ap (λ n. Some (address_by n)) (whole_address n fits)

-- ---- names of numbers

-- each of these rows is read back among all names
abbrev pub AreRead : List (Word × ℕ) → List (Word × ℕ) → Type 0
AreRead names [] = Unit {0}
AreRead names (row ∷ rows) = (number_in names row.0 ≡ Some row.1) × AreRead names rows

named_by : (names rows : List (Word × ℕ)) (n m : ℕ) (w v : Word) (b : Bool) → (m == n) ≡ b → number_in names w ≡ Some m → (name_in rows n ≡ Some v → number_in names v ≡ Some n) → (if b then Some w else name_in rows n) ≡ Some v → number_in names v ≡ Some n
named_by names rows n m w v true is read rest h =
    let e : m ≡ n = grind (arith, nat_tests) in
    let same : w ≡ v = cc in
    ap (number_in names) (sym same) ∙ read ∙ ap Some e
named_by names rows n m w v false is read rest h = rest h

named : (names rows : List (Word × ℕ)) (n : ℕ) (v : Word) → AreRead names rows → name_in rows n ≡ Some v → number_in names v ≡ Some n
named names [] n v are h = absurd cc
named names (row ∷ rows) n v are h = named_by names rows n row.1 row.0 v (row.1 == n) refl are.0 (named names rows n v are.1) h

spelled_by : (names : List (Word × ℕ)) (n : ℕ) (o : Option Word) → name_in names n ≡ o → AreRead names names → number_in names (decimal n) ≡ None → n < 2 ^ 32 → spelled_number names (unwrap_or o (decimal n)) ≡ Some n
spelled_by names n (Some v) is are none fits = ap (λ o. option_or o (number v)) (named names names n v are is)
spelled_by names n None is are none fits = ap (λ o. option_or o (number (decimal n))) none ∙ number_back n fits

pub spelled_back : (names : List (Word × ℕ)) (n : ℕ) → AreRead names names → (BeginsWithDigit (decimal n) → number_in names (decimal n) ≡ None) → n < 2 ^ 32 → spelled_number names (unwrap_or (name_in names n) (decimal n)) ≡ Some n
spelled_back names n are none fits =
    let is = decimal_is n (omega arith) in
    spelled_by names n (name_in names n) refl are (none (digits_begin (decimal n) is.some is.digits)) fits

-- ---- prefixes

-- of an address no byte is a slash
unslashed : (n : ℕ) → n < 2 ^ 64 → Each (λ c. (c == 47) ≡ false) (decimal n)
unslashed n fits = each_implies IsDigit (λ c. (c == 47) ≡ false) no_slash (decimal n) (digits_of n fits)

pub whole_text : (P : ℕ → Type 0) → P 46 → ((n : ℕ) → n < 2 ^ 64 → Each P (decimal n)) → (a : Addr) → a.0 < 2 ^ 32 → Each P (addr_text a)
whole_text P dot numbers a fits =
    subst (Each P) (sym (text_is a))
    (each_append P (decimal (a.0 / 2 ^ 24)) _ (numbers _ (omega arith)) (
      dot,
      each_append P (decimal (a.0 / 2 ^ 16 % 256)) _ (numbers _ (omega arith)) (
        dot,
        each_append P (decimal (a.0 / 2 ^ 8 % 256)) _ (numbers _ (omega arith)) (
          dot,
          numbers (a.0 % 256) (omega arith),
        ),
      ),
    ))

pub address_begins : (a : Addr) → a.0 < 2 ^ 32 → BeginsWithDigit (addr_text a)
address_begins a fits =
    let is = decimal_is (a.0 / 2 ^ 24) (omega arith) in
    subst BeginsWithDigit (sym (text_is a)) (begin_more (decimal (a.0 / 2 ^ 24)) _ (digits_begin _ is.some is.digits))

block_by : (w : Word) → is_one_of w everything_words ≡ false → block w ≡ block_of (parts_at 47 w)
block_by w other = simp other refl

abbrev pub block_at : ℕ → ℕ → Block
block_at bits len = record { bits = bits; len = len }

abbrev length_part : ℕ → Bool → List ℕ
length_part len b = if b then [] else codes "/" ++ decimal len

parts_block : (a : Addr) (len : ℕ) (b : Bool) → (len == 32) ≡ b → a.0 < 2 ^ 32 → len ≤ 32 → block_of (parts_at 47 (addr_text a ++ length_part len b)) ≡ Some (block_at a.0 len)
parts_block a len true is fits short =
    let e : len ≡ 32 = grind (arith, nat_tests) in
    ap (λ w. block_of (parts_at 47 w)) (append-nil (addr_text a))
    ∙ ap block_of (last_part 47 (addr_text a) (whole_text (λ c. (c == 47) ≡ false) refl unslashed a fits))
    ∙ ap (option_map (λ addr. block_at addr.0 32)) (address_back a fits)
    ∙ ap (λ len. Some (block_at a.0 len)) (sym e)
parts_block a len false is fits short =
    ap block_of (part_then 47 (addr_text a) (decimal len) (whole_text (λ c. (c == 47) ≡ false) refl unslashed a fits))
    ∙ ap (λ ps. block_of (addr_text a ∷ ps)) (last_part 47 (decimal len) (unslashed len (omega arith)))
    ∙ ap (option_and_then (λ addr. option_map (λ n. block_at addr.0 n) (decimal_within 2 32 (decimal len)))) (address_back a fits)
    ∙ ap (option_map (λ n. block_at a.0 n)) (within_back 2 32 len (omega arith) (omega arith) short (omega arith))

pub block_back : (b : Block) → IsPrefix b → block (prefix_text b) ≡ Some b
block_back b is =
    block_by (prefix_text b) (no_everything (prefix_text b) (begin_more _ _ (address_begins (record { 0 = b.bits }) is.fits)))
    ∙ parts_block (record { 0 = b.bits }) b.len (b.len == 32) refl is.fits is.short

clear_block : (b : Block) → host_bits b ≡ 0 → without_host_bits (Some b) ≡ Ok b
clear_block b clear = simp clear refl

pub prefix_back : (b : Block) → IsPrefix b → prefix (prefix_text b) ≡ Ok b
prefix_back b is = ap without_host_bits (block_back b is) ∙ clear_block b is.clear

masked_back : (b : Block) → host_bits b ≡ 0 → masked b ≡ b
masked_back b clear = ap (λ bits. block_at bits b.len) {x = b.bits - host_bits b} {y = b.bits} (omega (arith, clear))

pub net_back : (b : Block) → IsPrefix b → net (prefix_text b) ≡ Some b
net_back b is = ap (option_map masked) (block_back b is) ∙ ap Some (masked_back b is.clear)

-- ---- marks

unslashed_hex : (c : ℕ) → IsHexDigit c → is_slash c ≡ false
unslashed_hex c d = let low = d.low in grind (arith, nat_tests)

none_passes : (p : ℕ → Bool) (xs : List ℕ) → Each (λ x. p x ≡ false) xs → position_or_len p xs ≡ length xs
none_passes p [] all = refl
none_passes p (x ∷ xs) all = simp all.0 (omega (arith, none_passes p xs all.1))

first_passes : (p : ℕ → Bool) (xs ys : List ℕ) (y : ℕ) → Each (λ x. p x ≡ false) xs → p y ≡ true → position_or_len p (xs ++ y ∷ ys) ≡ length xs
first_passes p [] ys y all passes = simp passes refl
first_passes p (x ∷ xs) ys y all passes = simp all.0 (omega (arith, first_passes p xs ys y all.1 passes))

longer : (xs ys : List ℕ) (y : ℕ) → length xs < length (xs ++ y ∷ ys)
longer [] ys y = omega arith
longer (x ∷ xs) ys y = omega (arith, longer xs ys y)

no_place : (p : ℕ → Bool) (xs : List ℕ) → Each (λ x. p x ≡ false) xs → position p xs ≡ None
no_place p xs all = let e = none_passes p xs all in let test : nat_lt (position_or_len p xs) (length xs) ≡ false = grind (arith, nat_tests) in simp test refl

place_by : (l n m : ℕ) → l ≡ n → n < m → cond (nat_lt l m) (Some l) None ≡ Some n
place_by l n m is below =
    let test : nat_lt n m ≡ true = grind (arith, nat_tests) in
    ap (λ l. cond (nat_lt l m) (Some l) None) is ∙ ap (λ b. cond b (Some n) None) test

place_of : (p : ℕ → Bool) (xs ys : List ℕ) (y : ℕ) → Each (λ x. p x ≡ false) xs → p y ≡ true → position p (xs ++ y ∷ ys) ≡ Some (length xs)
place_of p xs ys y all passes =
    let e = first_passes p xs ys y all passes in
    let l = longer xs ys y in
    place_by (position_or_len p (xs ++ y ∷ ys)) (length xs) (length (xs ++ y ∷ ys)) e l

abbrev pub hex : ℕ → List ℕ
hex n = codes "0x" ++ digits 16 false n

hex_apart : (n : ℕ) → n < 2 ^ 32 → Each (λ c. is_slash c ≡ false) (hex n)
hex_apart n fits = (refl, (refl, each_implies IsHexDigit (λ c. is_slash c ≡ false) unslashed_hex (digits 16 false n) (hex_is n fits).digits))

abbrev pub mark_by : ℕ → ℕ → Mark
mark_by m mask = record { mark = m; mask = mask }

after_slash : (xs ys : List ℕ) (y : ℕ) → drop (length xs + 1) (xs ++ y ∷ ys) ≡ ys
after_slash xs ys y = drop-append-add xs (y ∷ ys) 1

part_hex : (n : ℕ) → n < 2 ^ 32 → part (hex n) ≡ Ok n
part_hex n fits = let e = hex_back n fits in simp e refl

mark_text_by : (m mask : ℕ) (b : Bool) → (mask == 2 ^ 32 - 1) ≡ b → m < 2 ^ 32 → mask < 2 ^ 32 → mark (hex m ++ (if b then [] else codes "/" ++ hex mask)) ≡ Ok (mark_by m mask)
mark_text_by m mask true is fits masks =
    let e : 0xffffffff ≡ mask = grind (arith, nat_tests) in
    ap mark (append-nil (hex m))
    ∙ ap (λ o. mark_at o (hex m)) (no_place is_slash (hex m) (hex_apart m fits))
    ∙ ap (λ r. r >>= λ m. Ok (mark_by m 0xffffffff)) (part_hex m fits)
    ∙ ap (λ mask. Ok (mark_by m mask)) e
mark_text_by m mask false is fits masks =
    let first : ℕ = m in
    let whole : List ℕ = hex m ++ 47 ∷ hex mask in
    ap (λ o. mark_at o whole) (place_of is_slash (hex m) (hex mask) 47 (hex_apart m fits) refl)
    ∙ ap (λ v. part v >>= λ m. part (drop (length (hex first) + 1) whole) >>= λ mask. Ok (mark_by m mask)) (take-append_seam (hex m) (47 ∷ hex mask))
    ∙ ap (λ r. r >>= λ m. part (drop (length (hex first) + 1) whole) >>= λ mask. Ok (mark_by m mask)) (part_hex m fits)
    ∙ ap (λ v. part v >>= λ mask. Ok (mark_by m mask)) (after_slash (hex m) (hex mask) 47)
    ∙ ap (λ r. r >>= λ mask. Ok (mark_by m mask)) (part_hex mask masks)

pub mark_back : (m : Mark) → m.mark < 2 ^ 32 → m.mask < 2 ^ 32 → mark (hex m.mark ++ (if m.mask == 2 ^ 32 - 1 then [] else codes "/" ++ hex m.mask)) ≡ Ok m
mark_back m fits masks = mark_text_by m.mark m.mask (m.mask == 2 ^ 32 - 1) refl fits masks
