use Rattle.std.proofs.Common.{subst}
use Rattle.prt_trie.specs.Index.{IsIndex}
use Rattle.prt_trie.proofs.Finds.{table_from}
use Rattle.prt_trie.proofs.leaf.Leaf.from_sorted.Goals as goal

pub build-requires : goal.build-requires
build-requires c = table_from _ _ c.as_slice-given.ensures.value c.requires.one_table c.requires.rising c.read_all.ensures.prefixes c.read_all.ensures.metrics

pub invariant_of-result : goal.invariant_of-result
invariant_of-result c = subst (λ rows. IsIndex rows c.in_ok-index.index) c.as_slice-given.ensures.value c.in_ok-index.ensures.value
