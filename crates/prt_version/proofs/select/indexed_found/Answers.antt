use Rattle.std.proofs.Common.{◌≡◌, ◌∙◌, ℕ, List, arith, get_or, length, subst, sym}
use Rattle.std.specs.List.{Contains}
use Rattle.prt_version.specs.RuleIndex.{list_of, lists_for}
use Rattle.prt_version.specs.Found.{verdict_in}
use Rattle.prt_version.proofs.RuleIndexes.{IsBest, best_decides}
use Rattle.prt_version.proofs.select.indexed_found.Goals as goal

pub returns : goal.returns
returns c =
    let lists : c.as_slice-list-items.result.now ≡ lists_for c.args.packet.now = c.as_slice-list-items.ensures ∙ c.lists_for-lists.ensures.value in
    let all : c.loop-list.list-index ≡ length c.as_slice-list-items.result.now = omega (arith, c.loop-list.auto.list-index-end, c.loop-list-test.false) in
    best_decides c.args.rules.now c.as_slice-list-items.result.now c.args.routes.now c.args.packet.now c.loop-list.before (verdict_in c.loop-list.found)
    (λ k d lt h. subst (λ (ls : List ℕ). Contains ls (list_of (get_or c.args.rules.now k d))) (sym lists) (c.requires.told k d c.args.packet.now (omega arith) lt h))
    (subst (λ n. IsBest c.args.rules.now c.as_slice-list-items.result.now n c.args.routes.now c.args.packet.now c.loop-list.before (verdict_in c.loop-list.found)) all c.loop-list.invariant)
