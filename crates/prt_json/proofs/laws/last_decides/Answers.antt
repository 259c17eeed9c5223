use Rattle.prt_json.proofs.Deciding.{last, others}
use Rattle.prt_json.proofs.laws.last_decides.Goals as goal

pub returns : goal.returns
returns c = record {
  last = λ rules routes packet before rule is. last routes packet rules before rule is;
  others = λ rules routes packet before after rule next is. others routes packet rules before after rule next is;
}
