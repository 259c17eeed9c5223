use Rattle.std.proofs.Common.{◌+◌, ◌<◌, ◌∙◌, ap, arith, get_or, length, subst, sym}
use Rattle.std.specs.Prelude.{option_map}
use Rattle.prt_version.specs.Found.{verdict_in}
use Rattle.prt_version.specs.RuleIndex.{IsNext}
use Rattle.prt_version.proofs.RuleIndexes.{silent_next}
use Rattle.prt_version.proofs.select.first_in.Goals as goal

-- the next of the list
follows : (c : goal.After-row_known-1) → IsNext c.args.rules.now c.args.list (c.loop-place.place + 1) c.index.result.now
follows c =
    let inside : c.loop-place.place < length c.args.rules.now = omega (arith, c.loop-place-test.true, c.requires.before) in
    subst (IsNext c.args.rules.now c.args.list (c.loop-place.place + 1)) (sym c.index.ensures)
    (subst (λ l. IsNext c.args.rules.now l (c.loop-place.place + 1) (get_or c.args.index.now.next.items c.loop-place.place c.index.result.now)) (c.loop-place.invariant.is c.index-rules-place.result inside)
    (c.requires.index.follow c.loop-place.place c.index.result.now c.index-rules-place.result (omega arith) inside))

pub loop-place-smaller : goal.loop-place-smaller
loop-place-smaller c = let next = follows c in omega (arith, next.beyond, next.within, c.loop-place-test.true, c.requires.before)

pub loop-place-preserved : goal.loop-place-preserved
loop-place-preserved c =
    let next = follows c in
    record {
      within = next.within;
      is = next.is;
      silent = silent_next c.args.rules.now c.args.list c.args.routes.now c.args.packet.now c.loop-place.place c.index.result.now c.index-rules-place.result (omega (arith, c.loop-place-test.true, c.requires.before)) c.index-rules-place.is (sym c.decision.ensures ∙ ap (option_map verdict_in) c.in_default.is) next c.loop-place.invariant.silent;
    }
