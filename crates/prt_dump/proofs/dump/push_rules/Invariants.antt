use Rattle.std.proofs.Common.{◌≡◌, ◌++◌, map, take}
use Rattle.prt_listing.specs.QueryText.{lines_text}
use Rattle.prt_spelling.specs.Line.{command_line}
use Rattle.prt_dump.specs.Dump.{add_rule}
use Rattle.prt_dump.proofs.dump.push_rules.Given as goal

abbrev pub invariant-loop-rule : goal.invariant-loop-rule
invariant-loop-rule l = l.out.items ≡ l.fn.out.items ++ lines_text (map (λ rule. command_line (add_rule rule)) (take l.rule-index l.rules))
