-- Spans, with a directory of them, that are an index of a table's rows.
use Rattle.std.specs.Prelude.{◌≡◌, ℕ, ◌<◌, ◌≤◌, ◌^◌, List, length, slice_get, slice_index_or}
use Rattle.prt_route.specs.declared.route.Route.{Route}
use Rattle.prt_trie.specs.Directory.{IsDirectory}
use Rattle.prt_trie.specs.Heaviest.{best_for, nowhere}
use Rattle.prt_trie.specs.Spans.{AreSpans, IsSpanOf}
use Rattle.prt_trie.specs.Table.{IsTable}
use Rattle.prt_trie.specs.declared.index.Index.{Index}
use Rattle.prt_trie.specs.declared.span.Span.{Span}

-- the span of each address has the place of the best row for it
pub record IsIndex (rows : List Route) (index : Index) : Type 0 where
  pub table : IsTable rows
  pub fits : length rows ≤ nowhere
  pub are_spans : AreSpans index.spans.items
  pub shift : index.slots.shift < 32
  pub directory : IsDirectory index.spans.items index.slots index.starts.items
  pub agrees : (addr place : ℕ) (d : Span) → addr < 2 ^ 32 → IsSpanOf index.spans.items addr place →
      slice_get rows (slice_index_or index.spans.items place d).row ≡ best_for rows (record { 0 = addr })
