use Rattle.std.proofs.Common.{◌≡◌, ◌++◌, drop}
use Rattle.prt_json.specs.Steps.{asked_tokens}
use Rattle.prt_json.proofs.explanation.push_each_asked.Given as goal

abbrev pub invariant-loop-rule : goal.invariant-loop-rule
invariant-loop-rule l = record { tokens : l.out.tokens ++ asked_tokens (drop l.rule-index l.rule-items) l.version.routes l.packet ≡ l.fn.out.tokens ++ asked_tokens l.rule-items l.version.routes l.packet; before : l.out.before ≡ l.fn.out.before }
