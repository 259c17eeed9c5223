use Rattle.std.proofs.Common.{take}
use Rattle.sqlite_rules.specs.Lists.{Has}
use Rattle.prt_rows.specs.Others.{IsElsewhere}
use Rattle.prt_rows.proofs.format.are_elsewhere.Given as goal

abbrev pub invariant-loop-reference : goal.invariant-loop-reference
invariant-loop-reference l = (y : _) → Has (take l.reference-index l.references) y → IsElsewhere y
