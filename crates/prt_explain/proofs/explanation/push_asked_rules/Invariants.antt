use Rattle.std.proofs.Common.{◌≡◌, ◌++◌, drop}
use Rattle.prt_explain.specs.Steps.{asked_text}
use Rattle.prt_explain.proofs.explanation.push_asked_rules.Given as goal

abbrev pub invariant-loop-rule : goal.invariant-loop-rule
invariant-loop-rule l = l.out.items ++ asked_text (drop l.rule-index l.rule-items) l.version.routes l.packet ≡ l.fn.out.items ++ asked_text l.rule-items l.version.routes l.packet
