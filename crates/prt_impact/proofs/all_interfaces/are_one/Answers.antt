use Rattle.std.proofs.Common.{◌<◌, ◌≤◌, ◌∙◌, ap, subst, sym}
use Rattle.std.specs.Prelude.{map}
use Rattle.std.proofs.lemmas.List.{take_all}
use Rattle.prt_impact.specs.Steps.{is_same_group, with_interfaces}
use Rattle.prt_impact.proofs.Wholes.{same_so_far}
use Rattle.prt_impact.proofs.all_interfaces.are_one.Goals as goal

pub loop-i-preserved : goal.loop-i-preserved
loop-i-preserved c =
    let group = c.index-groups-i.result in
    same_so_far c.args.groups.now c.args.interfaces.now c.args.like.now c.loop-i.i group c.index-interfaces-i.result
    (subst (λ n. c.loop-i.i < n) (sym c.requires) c.loop-i-test.true) c.loop-i-test.true c.index-groups-i.is c.index-interfaces-i.is
    (ap (is_same_group group) (sym c.with_interfaces.ensures) ∙ sym c.is_same_group.ensures ∙ c.if-not-is_same_group.false) c.loop-i.invariant

pub returns : goal.returns
returns c =
    let groups = c.args.groups.now in
    let interfaces = c.args.interfaces.now in
    λ h. sym (take_all c.loop-i.i groups (subst (λ n. n ≤ c.loop-i.i) (sym c.requires) c.loop-i-test.false)) ∙ c.loop-i.invariant ∙ ap (map (with_interfaces c.args.like.now)) (take_all c.loop-i.i interfaces c.loop-i-test.false)
