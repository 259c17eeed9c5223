use Rattle.std.specs.List.{AllWithin}
use Rattle.prt_spelling.specs.Fits.{CommandFits}
use Rattle.prt_dump.specs.Dump.{add_rule}
use Rattle.prt_dump.proofs.fits.recall_rules.Given as goal

abbrev pub invariant-loop-rule : goal.invariant-loop-rule
invariant-loop-rule l = AllWithin (λ rule. CommandFits (add_rule rule)) l.rules 0 l.rule-index
