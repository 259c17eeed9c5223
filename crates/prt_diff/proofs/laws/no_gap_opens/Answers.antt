use Rattle.prt_diff.proofs.Along.{each_between, reached}
use Rattle.prt_diff.proofs.laws.no_gap_opens.Goals as goal

pub returns : goal.returns
returns c = record {
  accepted = λ fence found wanted can. (reached fence found wanted can).leads.accepted;
  between = each_between;
}
