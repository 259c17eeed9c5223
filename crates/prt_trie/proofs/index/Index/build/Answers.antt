use Rattle.std.proofs.Common.{arith}
use Rattle.prt_trie.proofs.Finds.{are_spans_of, index_of}
use Rattle.prt_trie.proofs.index.Index.build.Goals as goal

pub starts_of-requires-clause-spans : goal.starts_of-requires-clause-spans
starts_of-requires-clause-spans c = rw c.deref.ensures.value (are_spans_of c.args.rows.now c.in_ok-spans.spans.items c.in_ok-spans.ensures)

pub returns-clause-value : goal.returns-clause-value
returns-clause-value c =
    index_of c.args.rows.now (record { spans = c.in_ok-spans.spans; slots = c.over-slots.result; starts = c.in_ok-starts.starts }) c.requires (omega arith) c.in_ok-spans.ensures c.over-slots.ensures
    (rw c.deref.ensures.value at c.in_ok-starts.ensures)
