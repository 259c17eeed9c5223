use Rattle.std.proofs.Common.{◌≡◌, arith, ap, get_or, ◌∙◌}
use Rattle.std.specs.Prelude.{slice_get}
use Rattle.std.specs.Option.{option_copied}
use Rattle.std.proofs.lemmas.Grind.{common_steps}
use Rattle.std.proofs.lemmas.Option.{gets}
use Rattle.prt_trie.specs.Heaviest.{best_for}
use Rattle.prt_trie.specs.Spans.{IsSpanOf}
use Rattle.prt_trie.specs.declared.span.Span.{Span}
use Rattle.prt_trie.proofs.index.Index.find.Goals as goal

found_row : (c : goal.After-get) → option_copied c.get.result ≡ slice_get c.args.rows.now c.index-span.result.now.row
found_row c = grind (arith, common_steps, gets)

pub returns : goal.returns
returns c =
    let span = c.index-span.result.now in
    let is : IsSpanOf c.args.self.now.spans.items c.args.addr.0 c.span_of.result = rw c.deref-3.ensures.value at c.span_of.ensures.is in
    let row : c.index-span.result.now.row ≡ (get_or c.args.self.now.spans.items c.span_of.result c.index-span.result.now).row = ap (λ (s : Span). s.row) c.index-span.ensures in
    let best : slice_get c.args.rows.now c.index-span.result.now.row ≡ best_for c.args.rows.now c.args.addr =
    rw row (c.requires.agrees c.args.addr.0 c.span_of.result span c.span_of.ensures.fits is)
    in
    found_row c ∙ best
