use Rattle.prt_diff.proofs.Settled.{is_brought, settles}
use Rattle.prt_diff.proofs.laws.changes_bring.Goals as goal

pub returns : goal.returns
returns c = record {
  brought = is_brought;
  settled = settles;
}
