use Rattle.std.proofs.Common.{◌≡◌, map, take}
use Rattle.prt_rows.specs.Tables.{strict_column}
use Rattle.prt_rows.proofs.format.are_columns.Given as goal

abbrev pub invariant-loop-at : goal.invariant-loop-at
invariant-loop-at l = take l.at l.columns ≡ take l.at (map (λ w. strict_column w.0.now w.1) l.wanted)
