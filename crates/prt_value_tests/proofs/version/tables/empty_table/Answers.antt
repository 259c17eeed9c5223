use Rattle.std.proofs.Common.{◌≡◌, [], arith}
use Rattle.std.specs.List.{IsDistinct}
use Rattle.std.proofs.lemmas.List.Sorted.{All-permutation}
use Rattle.prt_value_tests.proofs.version.tables.empty_table.Goals as goal

pub build-requires-clause-distinct : goal.build-requires-clause-distinct
unfolding IsDistinct
build-requires-clause-distinct c = tt

pub returns : goal.returns
returns c = All-permutation (λ row. row.table ≡ 254) [] _ c.in_ok-table.ensures.same (λ k d lt. absurd (omega arith))
