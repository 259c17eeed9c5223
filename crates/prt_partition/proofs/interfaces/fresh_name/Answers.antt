use Rattle.std.proofs.Common.{◌≡◌, ◌++◌, length, arith, sym, ap, ◌∙◌, subst}
use Rattle.std.specs.List.{Contains}
use Rattle.prt_partition.specs.Classes.{numbers_of}
use Rattle.prt_partition.proofs.Gaps.{numbers_few, unnamed}
use Rattle.prt_partition.proofs.interfaces.fresh_name.Goals as goal

pub first_gap-requires-clause-few : goal.first_gap-requires-clause-few
first_gap-requires-clause-few c =
    let rules = c.args.rules.now in
    let are : c.push_numbers.new.numbers.items ≡ numbers_of rules = c.in_ok-push_numbers.ensures ∙ ap (λ ns. ns ++ numbers_of rules) c.new-numbers.ensures.items in
    omega (arith, numbers_few rules, ap length are, ap length c.deref.ensures.value, c.sort_distinct.ensures.fewer)

pub name_of-requires : goal.name_of-requires
name_of-requires c =
    let rules = c.args.rules.now in
    let are : c.push_numbers.new.numbers.items ≡ numbers_of rules = c.in_ok-push_numbers.ensures ∙ ap (λ ns. ns ++ numbers_of rules) c.new-numbers.ensures.items in
    omega (arith, numbers_few rules, ap length are, ap length c.deref.ensures.value, c.sort_distinct.ensures.fewer, c.first_gap.ensures.low)

pub returns : goal.returns
returns c =
    let rules = c.args.rules.now in
    unnamed rules c.name_of.result c.first_gap.result c.push_numbers.new.numbers.items c.deref.result.now c.name_of.ensures
    (c.in_ok-push_numbers.ensures ∙ ap (λ ns. ns ++ numbers_of rules) c.new-numbers.ensures.items)
    (λ k h. subst (λ ns. Contains ns k) (sym c.deref.ensures.value) (c.sort_distinct.ensures.keeps k h))
    c.first_gap.ensures.gap
