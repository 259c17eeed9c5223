use Rattle.prt_rows.specs.MetaRow.{IsCount, meta_rows}
use Rattle.prt_rows.specs.RouteRow.{IsInRange, route_row}
use Rattle.prt_rows.specs.RuleRow.{IsRule, rule_row}
use Rattle.prt_rows.specs.SuppressRow.{IsLength, suppress_row}
use Rattle.prt_rows.proofs.Decodes.{reads_back}
use Rattle.prt_rows.proofs.RouteRows.{same_route}
use Rattle.prt_rows.proofs.RuleRows.{same_rule}
use Rattle.prt_rows.proofs.SuppressRows.{same_length}
use Rattle.prt_rows.proofs.laws.rows_read_back.Goals as goal

pub returns : goal.returns
returns c = record {
  route = reads_back route_row IsInRange same_route;
  rule = λ last. reads_back rule_row (IsRule last) (same_rule last);
  count = reads_back meta_rows IsCount (λ count other left right is. cc);
  length = λ last. reads_back suppress_row (IsLength last) (λ length other left right is. same_length length other is);
}
