use Rattle.std.proofs.Common.{◌≡◌, not, take}
use Rattle.std.specs.Prelude.{filter}
use Rattle.prt_diff.specs.Rules.{is_kept_rule}
use Rattle.prt_diff.proofs.rules.new_rules.Given as goal

abbrev pub invariant-loop-rule : goal.invariant-loop-rule
invariant-loop-rule l = l.rules.items ≡ filter (λ rule. not (is_kept_rule l.found l.wanted rule)) (take l.rule-index l.wanted)
