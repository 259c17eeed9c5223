use Rattle.std.proofs.Common.{◌≡◌, ◌-◌}
use Rattle.prt_impact.specs.Text.{prefix_from, prefix_of}
use Rattle.prt_impact.proofs.words.prefix_of.Given as goal

abbrev pub invariant-loop-len : goal.invariant-loop-len
invariant-loop-len l = prefix_from (33 - l.len) l.range ≡ prefix_of l.range
