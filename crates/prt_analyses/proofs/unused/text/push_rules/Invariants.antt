use Rattle.std.proofs.Common.{◌≡◌, ◌++◌, drop}
use Rattle.std.specs.Prelude.{flat_map}
use Rattle.prt_analyses.specs.Unused.Text.{rule_entry}
use Rattle.prt_analyses.proofs.unused.text.push_rules.Given as goal

abbrev pub invariant-loop-one : goal.invariant-loop-one
invariant-loop-one l = l.out.items ++ flat_map rule_entry (drop l.one-index l.rules) ≡ l.fn.out.items ++ flat_map rule_entry l.rules
