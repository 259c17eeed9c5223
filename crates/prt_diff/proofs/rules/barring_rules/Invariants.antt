use Rattle.std.proofs.Common.{◌≡◌, take}
use Rattle.std.specs.Prelude.{filter}
use Rattle.prt_diff.specs.Rules.{bars_one}
use Rattle.prt_diff.proofs.rules.barring_rules.Given as goal

abbrev pub invariant-loop-rule : goal.invariant-loop-rule
invariant-loop-rule l = l.rules.items ≡ filter (bars_one l.coming) (take l.rule-index l.going)
