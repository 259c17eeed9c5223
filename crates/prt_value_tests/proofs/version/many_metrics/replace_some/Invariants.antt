use Rattle.prt_trie.specs.Table.{IsOfTable}
use Rattle.prt_value_tests.proofs.version.many_metrics.replace_some.Given as goal

abbrev pub invariant-loop-number : goal.invariant-loop-number
invariant-loop-number g l = IsOfTable 254 l.table
