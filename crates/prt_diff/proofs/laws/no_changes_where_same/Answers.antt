use Rattle.std.proofs.Common.{ap, subst}
use Rattle.prt_version.specs.Change.{fold}
use Rattle.prt_diff.specs.Between.{IsBrought}
use Rattle.prt_diff.specs.Plan.{plan}
use Rattle.prt_diff.proofs.Itself.{needs_none}
use Rattle.prt_diff.proofs.Settled.{is_brought}
use Rattle.prt_diff.proofs.laws.no_changes_where_same.Goals as goal

pub returns : goal.returns
returns c = record {
  itself = needs_none;
  only_where_same = λ fence found wanted can none. subst (λ state. IsBrought fence found wanted state (plan fence found wanted).left) (ap (fold found) none) (is_brought fence found wanted can);
}
