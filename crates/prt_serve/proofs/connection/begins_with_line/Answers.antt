use Rattle.std.proofs.Common.{◌≡◌, ◌<◌, ◌∙◌, ◌==◌, Some, sym, false}
use Rattle.std.specs.List.{slice_get}
use Rattle.prt_serve.proofs.Blocks.{begins_with_line}
use Rattle.prt_serve.proofs.Words.{none_above, not_hash}
use Rattle.prt_serve.proofs.connection.begins_with_line.Goals as goal
use Rattle.prt_serve.proofs.connection.begins_with_line.Goals.{then-first-gt32, else-first-gt32}

pub returns-then-first-ne35 : goal.returns-then-first-ne35
returns-then-first-ne35 c h =
    let first = c.in-Some.first.now in
    let at : slice_get c.args.block.now 0 ≡ Some first = sym c.in-Some.ensures.value in
    let word : (32 < first) × (first == 35 ≡ false) = elim c.if-first-gt32.branch [
      | then-first-gt32 w ↦ (w.if-first-gt32.true, not_hash (first == 35) (sym w.value-is ∙ c.if-first-ne35.true))
      | else-first-gt32 w ↦ absurd (none_above first w.if-first-gt32.false (sym w.value-is ∙ c.if-first-ne35.true))
    ] in
    begins_with_line c.args.block.now first at word.0 word.1 (sym c.contains.ensures.value ∙ h)
