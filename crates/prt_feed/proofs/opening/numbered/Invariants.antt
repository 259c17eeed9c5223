use Rattle.std.proofs.Common.{◌≡◌, ◌+◌, ◌++◌, drop, length}
use Rattle.prt_feed.specs.Numbered.{numbered_from}
use Rattle.prt_feed.proofs.opening.numbered.Given as goal

-- the rows, and the rules that are left, with the ids that come next
abbrev pub invariant-loop-rule : goal.invariant-loop-rule
invariant-loop-rule l = l.rows.items ++ numbered_from (length l.rows.items + 1) (drop l.rule-index l.rules) ≡ numbered_from 1 l.rules
