-- The rows that the statement deletes by a selector are those of the routes that it takes.
use Rattle.std.proofs.Common.{◌≡◌, ◌<◌, ◌≤◌, ◌+◌, ◌-◌, ◌*◌, ◌/◌, ◌^◌, ℕ, pos, negsuc, Bool, true, false, ◌&&◌, ◌||◌, ◌==◌, [], ◌∷◌, Option, Some, None, eqb, leb, ltb, refl, sym, ap, ◌∙◌, arith, true≢false}
use Rattle.std.proofs.Math.Bool.{and_assoc}
use Rattle.std.proofs.Math.Nat.{mul-div_cancel}
use Rattle.std.proofs.lemmas.Bool.{and_from, and_parts, eq-eqb, eqb-true, le-leb, leb-true, lt-ltb, ltb-true}
use Rattle.std.proofs.lemmas.Grind.{common_steps}
use Rattle.std.proofs.lemmas.Map.Text.{is_eq-slice_cmp}
use Rattle.std.proofs.lemmas.Nat.{pow-add, pow_pos}
use Rattle.std.specs.Ordering.{int_cmp, is_eq, is_ge, is_gt, is_le}
use Rattle.std.specs.Prelude.{bytes_eq, int_lt, option_map}
use Rattle.sqlite.specs.Collation.TheVariants.{Binary}
use Rattle.sqlite.specs.declared.types.Value.{Value}
use Rattle.sqlite.specs.declared.types.Value.TheVariants.{Int, Text}
use Rattle.sqlite_sql.specs.Ops.{binary, from_truth, is_true, or3, truth}
use Rattle.sqlite_sql.specs.declared.ops.ArithOp.TheVariants.{Add}
use Rattle.sqlite_sql.specs.declared.ops.BinaryOp.TheVariants.{Arith, Bits, Compare, Or}
use Rattle.sqlite_sql.specs.declared.ops.BitOp.TheVariants.{Shr}
use Rattle.sqlite_sql.specs.declared.ops.CompareOp.TheVariants.{Eq, Ge, Gt, Le}
use Rattle.sqlite_value.proofs.OrderLemmas.{value_cmp-Int, value_cmp-Text}
use Rattle.sqlite_value.specs.Order.{value_cmp}
use Rattle.prt_addr.specs.Block.{Block}
use Rattle.prt_addr.specs.Sound.{IsPrefix}
use Rattle.prt_addr.specs.Given.{agrees, agrees_there}
use Rattle.prt_addr.specs.Prefix.{contains}
use Rattle.prt_addr.specs.Word.{Word}
use Rattle.prt_route.specs.RouteChoice.{in_range, is_same_kind, is_selected}
use Rattle.prt_route.specs.declared.choice.Range.{Range}
use Rattle.prt_route.specs.declared.choice.Range.TheVariants.{All, Root, Covering, Exact}
use Rattle.prt_route.specs.declared.choice.Selector.{Selector}
use Rattle.prt_route.specs.declared.kind.Kind.{Kind}
use Rattle.prt_route.specs.declared.kind.Kind.TheVariants.{Unicast, Blackhole, Unreachable, Prohibit, Throw}
use Rattle.prt_route.specs.declared.route.Route.{Route}
use Rattle.prt_rows.proofs.RowTests.{and_end, truth_again}
use Rattle.prt_rows.specs.Cell.{IsOptionalName, number, optional_name, optional_number}
use Rattle.prt_rows.specs.Effects.{passes}
use Rattle.prt_rows.specs.Kept.{kept_route}
use Rattle.prt_rows.specs.Meanings.{is_flushed}
use Rattle.prt_rows.specs.RouteRow.{kind_code}
use Rattle.prt_rows.specs.Selecting.{HasPrefix, IsSelector, bounds_of, selector_row}
use Rattle.prt_rows.specs.declared.selector.Bounds.{Bounds}
use Rattle.prt_addr.proofs.Ranges.{contains_from, contains_tells}

-- ---- one test

or_truth : (a b : Bool) → is_true (from_truth (or3 (truth (from_truth (Some a))) (truth (from_truth (Some b))))) ≡ (a || b)
or_truth true true = refl
or_truth true false = refl
or_truth false true = refl
or_truth false false = refl

no_mark : (n : ℕ) → is_eq (int_cmp (pos n) (negsuc 0)) ≡ false
no_mark n = grind (arith, common_steps)

same_numbers : (a b : ℕ) → is_eq (int_cmp (pos a) (pos b)) ≡ (b == a)
same_numbers a b = grind (arith, common_steps)

-- -1, or the number in the column
equals_number : (given : Option ℕ) (n : ℕ) → is_true (binary Or (binary (Compare Eq Binary) (optional_number given) (Int (negsuc 0))) (binary (Compare Eq Binary) (number n) (optional_number given))) ≡ agrees (λ a b. a == b) given n
unfolding binary
equals_number None n = or_truth _ _ ∙ ap (λ o. is_eq o || is_eq (value_cmp (number n) (Int (negsuc 0)))) (value_cmp-Int (negsuc 0) (negsuc 0))
equals_number (Some m) n =
    or_truth _ _ ∙ ap (λ o. is_eq o || is_eq (value_cmp (number n) (number m))) (value_cmp-Int (pos m) (negsuc 0)) ∙ ap (λ b. b || is_eq (value_cmp (number n) (number m))) (no_mark m)
    ∙ ap is_eq (value_cmp-Int (pos n) (pos m)) ∙ same_numbers n m

-- the empty text, or the name in the column
equals_name : (given name : Option Word) → IsOptionalName given → is_true (binary Or (binary (Compare Eq Binary) (optional_name given) (Text [])) (binary (Compare Eq Binary) (optional_name name) (optional_name given))) ≡ agrees_there bytes_eq given name
unfolding binary
equals_name None None is = or_truth _ _ ∙ ap (λ o. is_eq o || is_eq (value_cmp (Text []) (Text []))) (value_cmp-Text [] [])
equals_name None (Some name) is = or_truth _ _ ∙ ap (λ o. is_eq o || is_eq (value_cmp (Text name) (Text []))) (value_cmp-Text [] [])
equals_name (Some []) name is = absurd (true≢false (sym is))
equals_name (Some (b ∷ given)) None is =
    or_truth _ _ ∙ ap (λ o. is_eq o || is_eq (value_cmp (Text []) (Text (b ∷ given)))) (value_cmp-Text (b ∷ given) []) ∙ ap is_eq (value_cmp-Text [] (b ∷ given))
equals_name (Some (b ∷ given)) (Some name) is =
    or_truth _ _ ∙ ap (λ o. is_eq o || is_eq (value_cmp (Text name) (Text (b ∷ given)))) (value_cmp-Text (b ∷ given) [])
    ∙ ap is_eq (value_cmp-Text name (b ∷ given)) ∙ is_eq-slice_cmp name (b ∷ given) ∙ flipped name (b ∷ given)
  where
    flipped : (xs ys : Word) → bytes_eq xs ys ≡ bytes_eq ys xs
    flipped [] [] = refl
    flipped [] (y ∷ ys) = refl
    flipped (x ∷ xs) [] = refl
    flipped (x ∷ xs) (y ∷ ys) = let first : eqb x y ≡ eqb y x = grind (arith, common_steps) in λ i. first i && flipped xs ys i

ge_numbers : (a b : ℕ) → is_ge (int_cmp (pos a) (pos b)) ≡ leb b a
ge_numbers a b = grind (arith, common_steps)

le_numbers : (a b : ℕ) → is_le (int_cmp (pos a) (pos b)) ≡ leb a b
le_numbers a b = grind (arith, common_steps)

gt_numbers : (a b : ℕ) → is_gt (int_cmp (pos a) (pos b)) ≡ ltb b a
gt_numbers a b = grind (arith, common_steps)

at_least : (a b : ℕ) → is_true (binary (Compare Ge Binary) (number a) (number b)) ≡ leb b a
unfolding binary
at_least a b = truth_again _ ∙ ap is_ge (value_cmp-Int (pos a) (pos b)) ∙ ge_numbers a b

at_most : (a b : ℕ) → is_true (binary (Compare Le Binary) (number a) (number b)) ≡ leb a b
unfolding binary
at_most a b = truth_again _ ∙ ap is_le (value_cmp-Int (pos a) (pos b)) ∙ le_numbers a b

more_than : (a b : ℕ) → is_true (binary (Compare Gt Binary) (number a) (number b)) ≡ ltb b a
unfolding binary
more_than a b = truth_again _ ∙ ap is_gt (value_cmp-Int (pos a) (pos b)) ∙ gt_numbers a b

-- ---- the end of a prefix

abbrev size : ℕ → ℕ
size len = 2 ^ (32 - len)

not_below : (n : ℕ) → int_lt (pos n) (pos 0) ≡ false
not_below n = grind (arith, common_steps)

halved : (len : ℕ) → len ≤ 32 → 4294967296 / 2 ^ len ≡ size len
halved len short =
    let e : (32 - len) + len ≡ 32 = omega arith in
    let whole : size len * 2 ^ len ≡ 4294967296 = sym (pow-add 2 (32 - len) len) ∙ ap (λ n. 2 ^ n) e in
    ap (λ n. n / 2 ^ len) (sym whole) ∙ mul-div_cancel (size len) (pow_pos len)

shifted_by : (len : ℕ) → len ≤ 32 → binary (Bits Shr) (Int (pos 4294967296)) (number len) ≡ number (size len)
unfolding binary
shifted_by len short = let low : ltb len 64 ≡ true = lt-ltb len 64 (omega arith) in rw (not_below len, low) (ap number (halved len short))

sum_is : (a b : ℕ) → ltb (a + b) (2 ^ 63) ≡ true → binary (Arith Add) (number a) (number b) ≡ number (a + b)
unfolding binary
sum_is a b fits = rw fits refl

size_fits : (len : ℕ) → len ≤ 32 → size len ≤ 2 ^ 32
size_fits len short =
    let e : (32 - len) + len ≡ 32 = omega arith in
    let whole : size len * 2 ^ len ≡ 2 ^ 32 = sym (pow-add 2 (32 - len) len) ∙ ap (λ n. 2 ^ n) e in
    let some : 0 < 2 ^ len = pow_pos len in
    grind (arith, common_steps)

end_is : (prefix : Block) → IsPrefix prefix → binary (Arith Add) (number prefix.bits) (binary (Bits Shr) (Int (pos 4294967296)) (number prefix.len)) ≡ number (prefix.bits + size prefix.len)
end_is prefix is =
    let small : size prefix.len ≤ 2 ^ 32 = size_fits prefix.len is.short in
    let below : prefix.bits < 2 ^ 32 = is.fits in
    ap (binary (Arith Add) (number prefix.bits)) (shifted_by prefix.len is.short) ∙ sum_is prefix.bits (size prefix.len) (lt-ltb _ _ (omega arith))

-- ---- the range

same_tests : (a b : Bool) → (a ≡ true → b ≡ true) → (b ≡ true → a ≡ true) → a ≡ b
same_tests true b there back = sym (there refl)
same_tests false true there back = back refl
same_tests false false there back = refl

-- the bounds are passed
abbrev is_within : Bounds → Block → Bool
is_within bounds prefix =
    leb bounds.low prefix.bits && (leb prefix.bits bounds.high && (leb bounds.shortest prefix.len && (leb prefix.len bounds.longest && ltb bounds.inside (prefix.bits + size prefix.len))))

record IsWithin (bounds : Bounds) (prefix : Block) : Type 0 where
  low : bounds.low ≤ prefix.bits
  high : prefix.bits ≤ bounds.high
  shortest : bounds.shortest ≤ prefix.len
  longest : prefix.len ≤ bounds.longest
  inside : bounds.inside < prefix.bits + size prefix.len

within_tells : (bounds : Bounds) (prefix : Block) → is_within bounds prefix ≡ true → IsWithin bounds prefix
within_tells bounds prefix is =
    let a = and_parts _ _ is in
    let b = and_parts _ _ a.1 in
    let c = and_parts _ _ b.1 in
    let d = and_parts _ _ c.1 in
    record { low = leb-true _ _ a.0; high = leb-true _ _ b.0; shortest = leb-true _ _ c.0; longest = leb-true _ _ d.0; inside = ltb-true _ _ d.1 }

within_from : (bounds : Bounds) (prefix : Block) → IsWithin bounds prefix → is_within bounds prefix ≡ true
within_from bounds prefix is =
    and_from _ _ (le-leb _ _ is.low) (and_from _ _ (le-leb _ _ is.high) (and_from _ _ (le-leb _ _ is.shortest) (and_from _ _ (le-leb _ _ is.longest) (lt-ltb _ _ is.inside))))

some_size : (prefix : Block) → 0 < prefix.bits + size prefix.len
some_size prefix = let some : 0 < size prefix.len = pow_pos (32 - prefix.len) in omega arith

in_bounds : (range : Range) (prefix : Block) → HasPrefix range → IsPrefix prefix → is_within (bounds_of range) prefix ≡ in_range range prefix
in_bounds All prefix has is =
    let some = some_size prefix in
    let fits : prefix.bits < 2 ^ 32 = is.fits in
    within_from (bounds_of All) prefix (record { low = omega arith; high = omega arith; shortest = omega arith; longest = is.short; inside = some })
in_bounds (Root block) prefix has is = same_tests _ _
    (λ h. let w = within_tells (bounds_of (Root block)) prefix h in
    let some : 0 < size block.len = pow_pos (32 - block.len) in
    let low : block.bits ≤ prefix.bits = w.low in
    let high : prefix.bits ≤ block.bits + (size block.len - 1) = w.high in
    and_from (contains block (record { 0 = prefix.bits })) (leb block.len prefix.len) (contains_from block prefix.bits has low (omega arith)) (le-leb block.len prefix.len w.shortest))
    (λ h. let parts = and_parts (contains block (record { 0 = prefix.bits })) (leb block.len prefix.len) h in
    let tells : (block.bits ≤ prefix.bits) × (prefix.bits < block.bits + size block.len) = contains_tells block prefix.bits has parts.0 in
    let some = some_size prefix in
    within_from (bounds_of (Root block)) prefix (record { low = tells.0; high = omega (arith, tells.1); shortest = leb-true block.len prefix.len parts.1; longest = is.short; inside = some }))
in_bounds (Covering block) prefix has is = same_tests _ _
    (λ h. let w = within_tells (bounds_of (Covering block)) prefix h in
    and_from (contains prefix (record { 0 = block.bits })) (leb prefix.len block.len) (contains_from prefix block.bits is w.high w.inside) (le-leb prefix.len block.len w.longest))
    (λ h. let parts = and_parts (contains prefix (record { 0 = block.bits })) (leb prefix.len block.len) h in
    let tells : (prefix.bits ≤ block.bits) × (block.bits < prefix.bits + size prefix.len) = contains_tells prefix block.bits is parts.0 in
    within_from (bounds_of (Covering block)) prefix (record { low = omega arith; high = tells.0; shortest = omega arith; longest = leb-true prefix.len block.len parts.1; inside = tells.1 }))
in_bounds (Exact block) prefix has is = same_tests _ _
    (λ h. let w = within_tells (bounds_of (Exact block)) prefix h in
    let low : block.bits ≤ prefix.bits = w.low in
    let high : prefix.bits ≤ block.bits = w.high in
    let shortest : block.len ≤ prefix.len = w.shortest in
    let longest : prefix.len ≤ block.len = w.longest in
    and_from (eqb block.bits prefix.bits) (eqb block.len prefix.len) (eq-eqb block.bits prefix.bits (omega arith)) (eq-eqb block.len prefix.len (omega arith)))
    (λ h. let parts = and_parts (eqb block.bits prefix.bits) (eqb block.len prefix.len) h in
    let bits : block.bits ≡ prefix.bits = eqb-true block.bits prefix.bits parts.0 in
    let len : block.len ≡ prefix.len = eqb-true block.len prefix.len parts.1 in
    let some = some_size prefix in
    within_from (bounds_of (Exact block)) prefix (record { low = omega arith; high = omega arith; shortest = omega arith; longest = omega arith; inside = some }))

-- ---- the kind

agrees_in_kind : (given : Option Kind) (kind : Kind) → agrees (λ a b. a == b) (option_map kind_code given) (kind_code kind) ≡ agrees is_same_kind given kind
agrees_in_kind None kind = refl
agrees_in_kind (Some Unicast) Unicast = refl
agrees_in_kind (Some Unicast) Blackhole = refl
agrees_in_kind (Some Unicast) Unreachable = refl
agrees_in_kind (Some Unicast) Prohibit = refl
agrees_in_kind (Some Unicast) Throw = refl
agrees_in_kind (Some Blackhole) Unicast = refl
agrees_in_kind (Some Blackhole) Blackhole = refl
agrees_in_kind (Some Blackhole) Unreachable = refl
agrees_in_kind (Some Blackhole) Prohibit = refl
agrees_in_kind (Some Blackhole) Throw = refl
agrees_in_kind (Some Unreachable) Unicast = refl
agrees_in_kind (Some Unreachable) Blackhole = refl
agrees_in_kind (Some Unreachable) Unreachable = refl
agrees_in_kind (Some Unreachable) Prohibit = refl
agrees_in_kind (Some Unreachable) Throw = refl
agrees_in_kind (Some Prohibit) Unicast = refl
agrees_in_kind (Some Prohibit) Blackhole = refl
agrees_in_kind (Some Prohibit) Unreachable = refl
agrees_in_kind (Some Prohibit) Prohibit = refl
agrees_in_kind (Some Prohibit) Throw = refl
agrees_in_kind (Some Throw) Unicast = refl
agrees_in_kind (Some Throw) Blackhole = refl
agrees_in_kind (Some Throw) Unreachable = refl
agrees_in_kind (Some Throw) Prohibit = refl
agrees_in_kind (Some Throw) Throw = refl

-- ---- the row

regroup : (table low high shortest longest inside kind proto scope dev : Bool)
    → (table && (low && (high && (shortest && (longest && (inside && (kind && (proto && (scope && (dev && true))))))))))
    ≡ (((((table && (low && (high && (shortest && (longest && inside))))) && kind) && proto) && scope) && dev)
regroup table low high shortest longest inside kind proto scope dev = simp (and_assoc, and_end) refl

-- the rows that pass are those of the routes that the selector takes
pub passes_selector : (rowid : Value) (route : Route) (selector : Selector) → IsPrefix route.prefix → IsSelector selector → passes is_flushed (selector_row selector) (kept_route rowid route) ≡ is_selected selector route
passes_selector rowid route selector prefix is =
    let bounds = bounds_of selector.range in
    let bits = route.prefix.bits in
    let len = route.prefix.len in
    let table : Bool = agrees (λ a b. a == b) selector.table route.table in
    let kind : Bool = agrees (λ a b. a == b) (option_map kind_code selector.kind) (kind_code route.kind) in
    let proto : Bool = agrees (λ a b. a == b) selector.proto route.proto in
    let scope : Bool = agrees (λ a b. a == b) selector.scope route.scope in
    let dev : Bool = agrees_there bytes_eq selector.dev route.dev in
    rw (
      equals_number selector.table route.table,
      at_least bits bounds.low,
      at_most bits bounds.high,
      at_least len bounds.shortest,
      at_most len bounds.longest,
      end_is route.prefix prefix,
      more_than (bits + size len) bounds.inside,
      equals_number (option_map kind_code selector.kind) (kind_code route.kind),
      equals_number selector.proto route.proto,
      equals_number selector.scope route.scope,
      equals_name selector.dev route.dev is.dev,
    )
    (regroup table (leb bounds.low bits) (leb bits bounds.high) (leb bounds.shortest len) (leb len bounds.longest) (ltb bounds.inside (bits + size len)) kind proto scope dev
    ∙ (λ i. ((((table && in_bounds selector.range route.prefix is.range prefix i) && agrees_in_kind selector.kind route.kind i) && proto) && scope) && dev))
