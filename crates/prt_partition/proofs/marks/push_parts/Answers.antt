use Rattle.std.proofs.Common.{◌-◌, ◌++◌, [], ◌∷◌, append_assoc, arith, sym, ap, ◌∙◌}
use Rattle.prt_partition.specs.Marks.{other_half, parts}
use Rattle.prt_partition.proofs.MarkBlocks.{parts_none, parts_open, parts_shut}
use Rattle.prt_partition.proofs.marks.push_parts.Goals as goal

pub loop-place-preserved-then-is_open : goal.loop-place-preserved-then-is_open
loop-place-preserved-then-is_open c =
    let blocks = c.loop-place.blocks.items in
    let by = c.args.by.now in
    let place = c.loop-place.place in
    let rest = c.loop-place.rest in
    let other = c.other_half.result in
    let half = c.agreeing_half-rest.result in
    record {
      within = omega arith;
      parts = ap (λ bs. bs ++ parts (place - 1) half by) c.in_ok-push.ensures.items
          ∙ append_assoc blocks (other ∷ []) (parts (place - 1) half by)
          ∙ ap (λ o. blocks ++ (o ∷ parts (place - 1) half by)) c.other_half.ensures
          ∙ ap (λ h. blocks ++ (other_half (place - 1) rest by ∷ parts (place - 1) h by)) c.agreeing_half-rest.ensures
          ∙ ap (λ ps. blocks ++ ps) (sym (parts_open place rest by (omega arith) (sym c.is_open.ensures ∙ c.if-is_open.true)))
          ∙ c.loop-place.invariant.parts;
    }

pub loop-place-preserved : goal.loop-place-preserved
loop-place-preserved c =
    let blocks = c.loop-place.blocks.items in
    record {
      within = omega arith;
      parts = ap (λ ps. blocks ++ ps) (sym (parts_shut c.loop-place.place c.loop-place.rest c.args.by.now (omega arith) (sym c.is_open.ensures ∙ c.if-is_open.false))) ∙ c.loop-place.invariant.parts;
    }

pub returns : goal.returns
returns c =
    c.in_ok-push-2.ensures.items
    ∙ ap (λ ps. c.loop-place.blocks.items ++ ps) (sym (parts_none c.loop-place.place c.loop-place.rest c.args.by.now (omega arith)))
    ∙ c.loop-place.invariant.parts
