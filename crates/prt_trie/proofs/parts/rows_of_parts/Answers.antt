use Rattle.std.proofs.Common.{arith}
use Rattle.prt_trie.proofs.Splits.{no_parts, parts_more}
use Rattle.prt_trie.proofs.parts.rows_of_parts.Goals as goal

pub loop-row-init : goal.loop-row-init
loop-row-init c = no_parts (λ part. part.items) c.args.cut c.args.rows.now c.in_ok-parts.parts.items (omega (arith, c.in_ok-parts.ensures.count)) c.in_ok-parts.ensures.empty

pub loop-row-preserved : goal.loop-row-preserved
loop-row-preserved c =
    parts_more (λ part. part.items) c.args.cut c.args.rows.now c.loop-row.row-index c.row-item.result c.loop-row.parts.items c.number_of.result c.index_mut.result.now c.push.new.self
    c.loop-row-test.true c.row-item.is c.loop-row.invariant c.number_of.ensures.value c.number_of.ensures.within c.index_mut.ensures.value c.in_ok-push.ensures.items
