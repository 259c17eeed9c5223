use Rattle.std.proofs.Common.{[], ◌+◌, ◌∙◌, length, subst, sym, take}
use Rattle.std.proofs.lemmas.Bool.{eqb-true}
use Rattle.prt_impact.specs.Padded.{no_mark}
use Rattle.prt_impact.proofs.BlockLists.{IsWalked, all_walked, none_walked, one_of_them, one_other}
use Rattle.prt_impact.proofs.blocks.others_of.Goals as goal
use Rattle.prt_impact.proofs.blocks.others_of.Goals.{in-Some, in-None+in_ok-extend_from_slice-in-None}

pub loop-block-init : goal.loop-block-init
loop-block-init c =
    let blocks = c.args.blocks.now in
    subst (IsWalked [] blocks blocks) (sym c.new-others.ensures.items) (none_walked blocks)

pub loop-block-preserved : goal.loop-block-preserved
loop-block-preserved c =
    let all = c.args.all.now in
    let i = c.loop-block.block-index in
    let rest = c.loop-block.rest.now in
    let blocks = c.args.blocks.now in
    let others = c.loop-block.others.items in
    elim c.match-rest_after.branch [
      | in-Some w ↦
          subst (λ os. IsWalked (take (i + 1) all) c.match-rest_after.rest.now blocks os.items) (sym w.others-is)
          (subst (λ r. IsWalked (take (i + 1) all) r.now blocks others) (sym w.rest-is)
          (one_of_them all i no_mark rest w.in-Some.more.now blocks others c.loop-block-test.true w.in-Some.ensures c.loop-block.invariant))
      | in-None+in_ok-extend_from_slice-in-None w ↦
          subst (λ os. IsWalked (take (i + 1) all) c.match-rest_after.rest.now blocks os.items) (sym w.others-is)
          (subst (λ r. IsWalked (take (i + 1) all) r.now blocks w.extend_from_slice.new.self.items) (sym w.rest-is)
          (one_other all i no_mark rest blocks others w.extend_from_slice.new.self.items c.loop-block-test.true (w.in_ok-extend_from_slice-in-None).ensures.items c.loop-block.invariant))
    ]

pub returns-then-is_empty : goal.returns-then-is_empty
returns-then-is_empty c =
    let rest = c.loop-block.rest.now in
    all_walked c.args.all.now c.loop-block.block-index rest c.args.blocks.now c.loop-block.others.items c.loop-block-test.false (eqb-true (length rest) 0 (sym c.is_empty.ensures ∙ c.if-is_empty.true)) c.loop-block.invariant
