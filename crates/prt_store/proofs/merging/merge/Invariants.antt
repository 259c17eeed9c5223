use Rattle.std.proofs.Common.{◌≡◌, ◌++◌, drop}
use Rattle.prt_store.specs.Lengths.{left_over, merged}
use Rattle.prt_store.proofs.merging.merge.Given as goal

-- what was merged and what is still to be merged are the whole
abbrev pub invariant-loop-rule : goal.invariant-loop-rule
invariant-loop-rule l = (merged l.rules l.lengths ≡ l.all.items ++ merged (drop l.rule-index l.rules) l.left) × (left_over l.rules l.lengths ≡ left_over (drop l.rule-index l.rules) l.left)
