use Rattle.std.proofs.Common.{arith}
use Rattle.prt_trie.proofs.ChunkSteps.{chunk_from}
use Rattle.prt_trie.proofs.chunk.chunk_len.Goals as goal

pub returns-then-alike-gt-MOST_OF_CHUNK-clause-chunk : goal.returns-then-alike-gt-MOST_OF_CHUNK-clause-chunk
returns-then-alike-gt-MOST_OF_CHUNK-clause-chunk c =
    chunk_from c.args.rows.now c.index-rows-0.result c.alike_len-alike.result _ (omega arith) (omega arith) (omega (arith, c.alike_len-alike.ensures.most)) (omega (arith, c.alike_len-alike.ensures.within)) c.alike_len-alike.ensures.alike

pub returns-else-alike-gt-MOST_OF_CHUNK-clause-chunk : goal.returns-else-alike-gt-MOST_OF_CHUNK-clause-chunk
returns-else-alike-gt-MOST_OF_CHUNK-clause-chunk c =
    chunk_from c.args.rows.now c.index-rows-0.result c.alike_len-alike.result _ c.alike_len-alike.ensures.some (omega arith) (omega (arith, c.if-alike-gt-MOST_OF_CHUNK.false)) c.alike_len-alike.ensures.within c.alike_len-alike.ensures.alike
