use Rattle.std.proofs.Common.{◌≡◌, ◌+◌, ◌-◌, ◌<◌, arith, get_or, length, subst, sym}
use Rattle.std.specs.List.{Contains}
use Rattle.std.proofs.Math.ListN.{set}
use Rattle.std.proofs.lemmas.List.{get_or_default}
use Rattle.prt_version.specs.RuleIndex.{AreLinked, IsNext, list_of, lists_for}
use Rattle.prt_version.proofs.RuleIndexes.{none_linked, one_linked}
use Rattle.prt_version.proofs.rule_index.RuleIndex.over.Goals as goal

pub loop-place-init : goal.loop-place-init
loop-place-init c = none_linked c.args.rules.now _ _ c.all_at-first.ensures.count (λ list d lt. c.all_at-first.ensures.each list d lt) (omega (arith, c.in_ok-next.ensures.len))

pub loop-place-preserved : goal.loop-place-preserved
loop-place-preserved c =
    let same : c.loop-place.place - 1 + 1 ≡ c.loop-place.place = omega (arith, c.loop-place-test.true) in
    let rest : IsNext c.args.rules.now 0 c.loop-place.place (get_or c.loop-place.first 0 0) = c.loop-place.invariant.begin 0 0 (omega arith) in
    let inside : c.loop-place.place - 1 < length c.args.rules.now = omega (arith, rest.beyond, rest.within, c.loop-place-test.true) in
    let few : list_of c.index-rules-place.result < 513 = subst (λ n. n < 513) c.list_of-list.ensures.value c.list_of-list.ensures.within in
    subst (λ n. AreLinked c.args.rules.now (c.loop-place.place - 1) (set c.loop-place.first n (c.loop-place.place - 1)) (set c.loop-place.next.items (c.loop-place.place - 1) (get_or c.loop-place.first n 0))) (sym c.list_of-list.ensures.value)
    (one_linked c.args.rules.now (c.loop-place.place - 1) c.index-rules-place.result inside c.index-rules-place.is c.loop-place.first c.loop-place.next.items (get_or c.loop-place.first (list_of c.index-rules-place.result) 0) few
    (get_or_default c.loop-place.first (list_of c.index-rules-place.result) 0 (get_or c.loop-place.first (list_of c.index-rules-place.result) 0) (omega (arith, few, c.loop-place.invariant.lists)))
    (λ packet h. subst (Contains (lists_for packet)) c.list_of-list.ensures.value (c.list_of-list.ensures.told packet h))
    (subst (λ n. AreLinked c.args.rules.now n c.loop-place.first c.loop-place.next.items) (sym same) c.loop-place.invariant))

pub returns : goal.returns
returns c =
    let end : c.loop-place.place ≡ 0 = omega arith in
    subst (λ n. AreLinked c.args.rules.now n c.loop-place.first c.loop-place.next.items) end c.loop-place.invariant
