use Rattle.prt_trie.specs.Table.{IsOfTable}
use Rattle.prt_value_tests.proofs.version.tables.random_table.Given as goal

abbrev pub invariant-loop : goal.invariant-loop
invariant-loop l = IsOfTable 254 l.table
