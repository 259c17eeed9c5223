-- The orders by which rows are sorted.
use Rattle.std.proofs.Common.{◌≡◌, Bool, true, false, arith}
use Rattle.std.specs.Prelude.{nat_lt}
use Rattle.std.specs.Cmp.{IsStrictWeakOrder}
use Rattle.std.specs.Ordering.{is_lt, nat_cmp, ordering_then}
use Rattle.std.proofs.lemmas.Bool.Decides.{nat_tests}
use Rattle.prt_route.specs.Route.{is_listed_before}
use Rattle.prt_route.specs.declared.route.Route.{Route}
use Rattle.prt_rule.specs.Rule.{is_before}
use Rattle.prt_rule.specs.declared.rule.Rule.{Rule}
use Rattle.prt_trie.specs.Table.{has_same_key}
use Rattle.prt_version.specs.Ordered.{has_same_id}

abbrev pub has_lower_id : Rule → Rule → Bool
has_lower_id rule other = nat_lt rule.id other.id

pub id_order : IsStrictWeakOrder has_lower_id
id_order = record { one_way = λ a b h. grind (arith, nat_tests); chain = λ a b c first second. grind (arith, nat_tests) }

pub either_id : (a b : Rule) → has_lower_id b a ≡ false → has_same_id a b ≡ false → has_lower_id a b ≡ true
either_id a b after differ = grind (arith, nat_tests)

pub id_differs : (a b : Rule) → has_lower_id a b ≡ true → has_same_id a b ≡ false
id_differs a b lower = grind (arith, nat_tests)

pub ids_both_ways : (a b : Rule) → has_same_id a b ≡ has_same_id b a
ids_both_ways a b = grind (arith, nat_tests)

pub by_id : (a b : Rule) → is_lt (nat_cmp a.id b.id) ≡ has_lower_id a b
by_id a b = grind (arith, nat_tests)

-- rules of other ids
pub either_before : (a b : Rule) → is_before b a ≡ false → has_same_id a b ≡ false → is_before a b ≡ true
either_before a b after differ = grind (arith, nat_tests)

pub by_priority : (a b : Rule) → is_lt (ordering_then (nat_cmp a.priority b.priority) (nat_cmp a.id b.id)) ≡ is_before a b
by_priority a b = grind (arith, nat_tests)

pub either_listed : (a b : Route) → is_listed_before b a ≡ false → has_same_key a b ≡ false → is_listed_before a b ≡ true
either_listed a b after differ = grind (arith, nat_tests)

pub key_differs : (a b : Route) → is_listed_before a b ≡ true → has_same_key a b ≡ false
key_differs a b ahead = grind (arith, nat_tests)

pub keys_both_ways : (a b : Route) → has_same_key a b ≡ has_same_key b a
keys_both_ways a b = grind (arith, nat_tests)
