use Rattle.std.proofs.Common.{◌≡◌, ◌++◌, drop}
use Rattle.prt_impact.specs.Text.{more_text}
use Rattle.prt_impact.proofs.words.push_more.Given as goal

abbrev pub invariant-loop-block : goal.invariant-loop-block
invariant-loop-block l = l.out.items ++ more_text (drop l.block-index l.blocks) ≡ l.fn.out.items ++ more_text l.blocks
