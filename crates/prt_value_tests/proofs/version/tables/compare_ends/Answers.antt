use Rattle.std.proofs.Common.{subst, sym}
use Rattle.std.specs.List.{IsDistinct}
use Rattle.prt_route.proofs.Edits.{rising_keys}
use Rattle.prt_trie.specs.Table.{has_same_key}
use Rattle.prt_value_tests.proofs.version.tables.compare_ends.Goals as goal

pub build-requires-clause-distinct : goal.build-requires-clause-distinct
build-requires-clause-distinct g c = subst (IsDistinct has_same_key) (sym c.deref.ensures.value) (rising_keys _ c.in_ok-rows.ensures.table.rising)
