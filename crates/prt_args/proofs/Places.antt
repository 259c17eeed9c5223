-- Words that name numbers and places.
use Rattle.std.proofs.Common.{◌≡◌, ◌∙◌, ℕ, ◌+◌, ◌-◌, ◌*◌, ◌<◌, ◌≤◌, ◌^◌, ◌&&◌, ◌||◌, ◌==◌, Bool, true, false, true≢false, cond, refl, sym, ap, subst, [], ◌∷◌, Option, Some, None, length, drop, nat_le, option_map, arith, ◌⊎◌, inl, inr, Result, Bor, lit<, get_or, eq-eqb}
use Rattle.std.specs.Char.{is_ascii_digit}
use Rattle.std.specs.Int.{from_be_bytes, w32}
use Rattle.std.specs.List.{after_first, before_first, list_all, position_or_len}
use Rattle.std.specs.Net.Addr.{IsIpv4OfBits, ipv4_bits, ipv4_octets}
use Rattle.std.specs.Net.Socket.{v4_ip, v4_port}
use Rattle.std.specs.Option.{ok_or}
use Rattle.std.specs.Prelude.{MatchBool, option_and_then}
use Rattle.std.specs.Result.{result_ok}
use Rattle.std.specs.Str.Pattern.{FindsChar}
use Rattle.std.specs.declared.net.ipv4_addr.Ipv4Addr.{Ipv4Addr}
use Rattle.std.specs.declared.net.socket_addr.SocketAddrV4.{SocketAddrV4}
use Rattle.std.proofs.lemmas.Bool.Decides.{nat_tests}
use Rattle.std.proofs.lemmas.List.{drop_all, get_or_default}
use Rattle.std.proofs.lemmas.List.Folds.{Any-from_list_any, list_any_at}
use Rattle.std.proofs.lemmas.Nat.{from_be_bytes-to_be_bytes_4}
use Rattle.std.proofs.lemmas.Str.Pattern.{IsSplitOnceResult, contains_char, split_once_first}
use Rattle.prt_addr.specs.Addr.{address}
use Rattle.prt_addr.specs.Decimal.{at_most, decimal_value, digit_of, followed_by, has_leading_zero}
use Rattle.prt_addr.specs.Number.{begins_hex, hex_value, number}
use Rattle.prt_addr.specs.Word.{Word, keep}
use Rattle.prt_addr.specs.declared.addr.Addr.{Addr}
use Rattle.prt_refusals.specs.declared.refusal.Refusal.{Refusal}
use Rattle.prt_args.specs.Places.{address_and_port, ends_of, is_colon, is_folder, is_slash, number_within, port}

-- ---- numbers

-- the number that goes on with these bytes, if this one is a digit
abbrev value_if : ℕ → ℕ → Word → Bool → Option ℕ
value_if n b bs is = option_and_then (λ digit. followed_by 10 digit_of (n * 10 + digit) bs) (cond is (Some (b - 48)) None)

no_digits : (w : Word) (n : ℕ) → list_all is_ascii_digit w ≡ false → followed_by 10 digit_of n w ≡ None
no_digits [] n bad = absurd (true≢false bad)
no_digits (b ∷ bs) n bad = go (is_ascii_digit b) refl (no_digits bs (n * 10 + (b - 48)))
  where
    go : (is : Bool) → is_ascii_digit b ≡ is → (list_all is_ascii_digit bs ≡ false → followed_by 10 digit_of (n * 10 + (b - 48)) bs ≡ None) → value_if n b bs (is_ascii_digit b) ≡ None
    go true e none = ap (value_if n b bs) e ∙ none (sym (ap (λ is. is && list_all is_ascii_digit bs) e) ∙ bad)
    go false e none = ap (value_if n b bs) e

none_by : (test : Bool) (value : Option ℕ) → value ≡ None → cond test None value ≡ None
none_by true value none = refl
none_by false value none = none

-- what has another byte than digits expresses no number
pub not_decimal : (w : Word) → list_all is_ascii_digit w ≡ false → decimal_value w ≡ None
not_decimal w bad = none_by (length w == 0 || has_leading_zero w) (followed_by 10 digit_of 0 w) (no_digits w 0 bad)

-- digits alone are not hexadecimal
not_hex : (w : Word) → list_all is_ascii_digit w ≡ true → begins_hex w ≡ false
not_hex [] all = refl
not_hex (a ∷ []) all = refl
not_hex (a ∷ b ∷ rest) all = grind (arith, nat_tests)

abbrev pub between : ℕ → ℕ → ℕ → Bool
between least most n = nat_le least n && nat_le n most

too_large : (least most n : ℕ) → most ≤ 4294967295 → nat_le n 4294967295 ≡ false → between least most n ≡ false
too_large least most n small large = grind (arith, nat_tests)

kept_within : (least most : ℕ) (value : Option ℕ) → most ≤ 4294967295 → keep (between least most) (at_most 4294967295 value) ≡ keep (between least most) value
kept_within least most None small = refl
kept_within least most (Some n) small = go (nat_le n 4294967295) refl
  where
    go : (fits : Bool) → nat_le n 4294967295 ≡ fits → keep (between least most) (cond (nat_le n 4294967295) (Some n) None) ≡ cond (between least most n) (Some n) None
    go true e = ap (λ fits. keep (between least most) (cond fits (Some n) None)) e
    go false e = ap (λ fits. keep (between least most) (cond fits (Some n) None)) e ∙ sym (ap (λ holds. cond holds (Some n) None) (too_large least most n small e))

-- of digits alone a number of either base is a decimal one
pub number_is : (least most : ℕ) (w : Word) → most ≤ 4294967295 → list_all is_ascii_digit w ≡ true → keep (between least most) (number w) ≡ number_within least most w
number_is least most w small all =
    ap (λ hex. keep (between least most) (at_most 4294967295 (cond hex (hex_value (drop 2 w)) (decimal_value w)))) (not_hex w all) ∙ kept_within least most (decimal_value w) small

-- what a read of the word gives
pub read_is : {X : Type 0} (value_of : Word → Option X) (reason : Refusal) (word bytes : Word) (read : Result X Refusal) (given : Option X) → bytes ≡ word → read ≡ ok_or (value_of bytes) reason → given ≡ result_ok read → given ≡ value_of word
read_is {X = X} value_of reason word bytes read given same is ok = ok ∙ ap result_ok is ∙ back (value_of bytes) ∙ ap value_of same
  where
    back : (value : Option X) → result_ok (ok_or value reason) ≡ value
    back None = refl
    back (Some x) = refl

pub inside : (least most n : ℕ) → least ≤ n → n ≤ most → Some n ≡ keep (between least most) (Some n)
inside least most n low high = let holds : between least most n ≡ true = grind (arith, nat_tests) in sym (ap (λ test. cond test (Some n) None) holds)

pub outside : (least most n : ℕ) → (least ≤ n × most < n) ⊎ (n < least) → None ≡ keep (between least most) (Some n)
outside least most n (inl high) = let holds : between least most n ≡ false = grind (arith, nat_tests) in sym (ap (λ test. cond test (Some n) None) holds)
outside least most n (inr low) = let holds : between least most n ≡ false = grind (arith, nat_tests) in sym (ap (λ test. cond test (Some n) None) holds)

-- the limits hold of such a number
pub within_limits : (least most : ℕ) (word : Option Word) (n : ℕ) → option_and_then (number_within least most) word ≡ Some n → (least ≤ n) × (n ≤ most)
within_limits least most None n is = absurd cc
within_limits least most (Some word) n is = go (decimal_value word) is
  where
    holds : (m : ℕ) (test : Bool) → between least most m ≡ test → cond test (Some m) None ≡ Some n → (least ≤ n) × (n ≤ most)
    holds m true e same = let own : m ≡ n = cc in subst (λ k. (least ≤ k) × (k ≤ most)) own (grind (arith, nat_tests))
    holds m false e same = absurd cc

    go : (value : Option ℕ) → keep (between least most) value ≡ Some n → (least ≤ n) × (n ≤ most)
    go None same = absurd cc
    go (Some m) same = holds m (between least most m) refl same

-- ---- places

abbrev ends : Option Addr → Option ℕ → Option (Addr × ℕ)
ends named number = option_and_then (λ address. option_map (λ port. (address, port)) number) named

no_ends : (named : Option Addr) → ends named None ≡ None
no_ends None = refl
no_ends (Some address) = refl

-- a word with no `:` names no place
pub no_colon : (word : Word) (split : Option (Bor Word × Bor Word)) → IsSplitOnceResult 58 word split → split ≡ None → None ≡ address_and_port word
no_colon word (Some parts) is none = absurd cc
no_colon word None is none =
    let past : length word ≤ position_or_len is_colon word + 1 = let whole : position_or_len is_colon word ≡ length word = split_once_first 58 word None is (lit< tt) in omega arith in
    sym (ap (λ rest. ends (address (before_first is_colon word)) (port rest)) (drop_all (position_or_len is_colon word + 1) word past) ∙ no_ends (address (before_first is_colon word)))

-- what comes before and after the first `:`
pub parts_are : (word : Word) (split : Option (Bor Word × Bor Word)) (before after : Bor Word) → IsSplitOnceResult 58 word split → split ≡ Some (before, after)
    → (before.now ≡ before_first is_colon word) × (after.now ≡ after_first is_colon word)
parts_are word None before after is none = absurd cc
parts_are word (Some parts) before after is same =
    let found = split_once_first 58 word (Some parts) is (lit< tt) in
    let own : parts ≡ (before, after) = cc in
    (ap (λ (parts : Bor Word × Bor Word). parts.0.now) (sym own) ∙ found.1, ap (λ (parts : Bor Word × Bor Word). parts.1.now) (sym own) ∙ found.2)

-- the address and the port of its two parts
pub ends_of_parts : (word before after : Word) (named : Option Addr) (number : Option ℕ) → before ≡ before_first is_colon word → after ≡ after_first is_colon word → named ≡ address before → number ≡ port after
    → ends named number ≡ address_and_port word
ends_of_parts word before after named number first rest is at =
    ap (λ named. ends named number) (is ∙ ap address first) ∙ ap (λ number. ends (address (before_first is_colon word)) number) (at ∙ ap port rest)

-- no place has the one part without the other
pub no_address : (word before after : Word) → before ≡ before_first is_colon word → after ≡ after_first is_colon word → None ≡ address before → None ≡ address_and_port word
no_address word before after first rest is = ends_of_parts word before after None (port after) first rest is refl

pub no_port : (word before after : Word) → before ≡ before_first is_colon word → after ≡ after_first is_colon word → None ≡ port after → None ≡ address_and_port word
no_port word before after first rest at = sym (no_ends (address before)) ∙ ends_of_parts word before after (address before) None first rest refl at

-- the ends of a place that is made of them
pub ends_are : (bits number : ℕ) (ip : Ipv4Addr) (place : SocketAddrV4) → bits < 2 ^ 32 → IsIpv4OfBits ip bits → v4_ip place ≡ ip → v4_port place ≡ number → ends_of place ≡ (record { 0 = bits }, number)
unfolding ipv4_bits IsIpv4OfBits
ends_are bits number ip place fits made at port =
    let own : ipv4_bits (v4_ip place) ≡ bits = ap (λ ip. from_be_bytes w32 (ipv4_octets ip)) at ∙ ap (from_be_bytes w32) made ∙ from_be_bytes-to_be_bytes_4 bits fits in
    cc

-- a `/` in the word
pub slash_is : (word : Word) (has : Bool) → MatchBool has ((i : ℕ) × (j : ℕ) × FindsChar 47 word (Some (i, j)) × (i ≤ j) × (j ≤ length word)) (FindsChar 47 word None) → has ≡ is_folder word
slash_is word has found = go has (is_folder word) refl refl (contains_char 47 word has found (lit< tt))
  where
    go : (one other : Bool) → has ≡ one → is_folder word ≡ other → (has ≡ true → (k : ℕ) × (k < length word) × (get_or word k 0 ≡ 47)) × ((k : ℕ) → k < length word → get_or word k 0 ≡ 47 → has ≡ true) → has ≡ is_folder word
    go true other e o finds = let (k, within, at) = finds.0 e in e ∙ sym (list_any_at is_slash word k 0 within (eq-eqb (get_or word k 0) 47 at))
    go false false e o finds = e ∙ sym o
    go false true e o finds =
        let (k, x, within, at, is) = Any-from_list_any is_slash word o in
        let slash : x ≡ 47 = grind (arith, nat_tests) in
        absurd (true≢false (sym (finds.1 k within (get_or_default word k 0 x within ∙ at ∙ slash)) ∙ e))
