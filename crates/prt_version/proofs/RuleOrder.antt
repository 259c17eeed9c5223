-- Rules in the order in which they are tried.
use Rattle.std.proofs.Common.{◌≡◌, ◌<◌, true, false, List, ◌∙◌, arith}
use Rattle.std.specs.Cmp.{IsStrictWeakOrder}
use Rattle.std.specs.Prelude.{◌==◌}
use Rattle.std.specs.List.{AllByRecursion as Each, IsDistinct}
use Rattle.std.proofs.lemmas.Bool.Decides.{nat_tests}
use Rattle.prt_addr.specs.Order.{insert_by}
use Rattle.prt_addr.specs.Rising.{IsRising}
use Rattle.prt_addr.proofs.Each.{each_fails, each_implies}
use Rattle.prt_addr.proofs.Orders.{distinct_inserted, inserted_rises}
use Rattle.prt_rule.specs.Rule.{is_before}
use Rattle.prt_rule.specs.Same.{is_same_rule}
use Rattle.prt_rule.specs.declared.rule.Rule.{Rule}
use Rattle.prt_version.specs.Change.{has_rule}
use Rattle.prt_rule.proofs.SameRules.{same_both_ways}

pub rule_order : IsStrictWeakOrder is_before
rule_order = record { one_way = λ a b first. grind (arith, nat_tests); chain = λ a b c first second. grind (arith, nat_tests) }

-- of two rules the one with the lower id, unless the other is before it
other_way : (new rule : Rule) → rule.id < new.id → is_before new rule ≡ false → is_before rule new ≡ true
other_way new rule older after = grind (arith, nat_tests)

-- a new rule of the highest id
pub put_rises : (new : Rule) (rules : List Rule) → Each (λ rule. rule.id < new.id) rules → IsRising is_before rules → IsRising is_before (insert_by is_before new rules)
put_rises new rules older rises =
    inserted_rises is_before rule_order new rules
    (each_implies (λ rule. rule.id < new.id) (λ rule. is_before new rule ≡ false → is_before rule new ≡ true) (λ rule. other_way new rule) rules older)
    rises

other_id : (new rule : Rule) → rule.id < new.id → (rule.id == new.id) ≡ false
other_id new rule older = grind (arith, nat_tests)

new_id : (new rule : Rule) → rule.id < new.id → (new.id == rule.id) ≡ false
new_id new rule older = grind (arith, nat_tests)

pub put_ids : (new : Rule) (rules : List Rule) → Each (λ rule. rule.id < new.id) rules → IsDistinct (λ a b. a.id == b.id) rules → IsDistinct (λ a b. a.id == b.id) (insert_by is_before new rules)
put_ids new rules older h =
    distinct_inserted is_before (λ a b. a.id == b.id) new rules
    (each_implies (λ other. other.id < new.id) (λ other. (new.id == other.id) ≡ false) (λ other. new_id new other) rules older)
    (each_implies (λ other. other.id < new.id) (λ other. (other.id == new.id) ≡ false) (λ other. other_id new other) rules older)
    h

-- a new rule that none of the others equals in all but the id
pub put_unlike : (new : Rule) (rules : List Rule) → has_rule new rules ≡ false → IsDistinct is_same_rule rules → IsDistinct is_same_rule (insert_by is_before new rules)
put_unlike new rules absent h =
    let unlike : Each (λ other. is_same_rule other new ≡ false) rules = each_fails (λ other. is_same_rule other new) rules absent in
    let turned : Each (λ other. is_same_rule new other ≡ false) rules = each_implies (λ other. is_same_rule other new ≡ false) (λ other. is_same_rule new other ≡ false) (λ other differs. same_both_ways new other ∙ differs) rules unlike in
    distinct_inserted is_before is_same_rule new rules turned unlike h
