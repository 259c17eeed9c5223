use Rattle.std.proofs.Common.{[], subst, sym}
use Rattle.std.proofs.lemmas.List.{take_all}
use Rattle.prt_impact.specs.Steps.{AddsBox}
use Rattle.prt_impact.proofs.BoxGroups.{Cover, all_covered, cover_more, no_boxes}
use Rattle.prt_impact.proofs.plain.groups_of.Goals as goal

pub loop-one-init : goal.loop-one-init
loop-one-init c = subst (Cover c.args.sameness c.args.before.now c.args.after.now []) (sym c.new-groups.ensures.items) (no_boxes c.args.sameness c.args.before.now c.args.after.now)

pub loop-one-preserved : goal.loop-one-preserved
loop-one-preserved c =
    let sameness = c.args.sameness in
    let before = c.args.before.now in
    let after = c.args.after.now in
    let box = c.one-item.result in
    let old = c.loop-one.groups.items in
    let new = c.push_box.new.groups.items in
    cover_more sameness before after c.args.boxes.now c.args.fresh.now c.requires.boxes c.requires.fresh c.loop-one.one-index box old new c.loop-one-test.true c.one-item.is
    (subst (λ packet. AddsBox sameness before after box packet old new) c.packet.ensures c.in_ok-push_box.ensures.ok) c.loop-one.invariant

pub returns-clause-value : goal.returns-clause-value
returns-clause-value c =
    let sameness = c.args.sameness in
    let before = c.args.before.now in
    let after = c.args.after.now in
    let boxes = c.args.boxes.now in
    let groups = c.loop-one.groups.items in
    all_covered sameness before after boxes c.args.fresh.now c.requires.boxes c.requires.fresh groups
    (subst (λ done. Cover sameness before after done groups) (take_all c.loop-one.one-index boxes c.loop-one-test.false) c.loop-one.invariant)
