use Rattle.std.proofs.Common.{subst, sym}
use Rattle.prt_trie.specs.Table.{IsOfTable}
use Rattle.prt_trie.proofs.Wholes.{of_table_put}
use Rattle.prt_value_tests.proofs.version.tables.with_route.Goals as goal

pub returns : goal.returns
returns c = subst (IsOfTable 254) (sym c.in_ok-after.ensures.value) (of_table_put 254 c.args.route c.args.table.now c.requires.route c.requires.table)
