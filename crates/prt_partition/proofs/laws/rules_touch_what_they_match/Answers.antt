use Rattle.prt_partition.proofs.Locality.{rule_out}
use Rattle.prt_partition.proofs.laws.rules_touch_what_they_match.Goals as goal

pub returns : goal.returns
returns c = rule_out
