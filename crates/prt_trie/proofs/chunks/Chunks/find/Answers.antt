use Rattle.std.proofs.Common.{map, ap, subst, sym, ◌∙◌}
use Rattle.std.specs.Arc.{arc_value}
use Rattle.prt_route.specs.Best.{best}
use Rattle.prt_trie.specs.Chunks.{rows_of_chunks}
use Rattle.prt_trie.specs.Table.{IsOfTable}
use Rattle.prt_trie.proofs.Heads.{best_of_heads, heads_of_table}
use Rattle.prt_trie.proofs.chunks.Chunks.find.Goals as goal

pub returns : goal.returns
returns c table all =
    let within : IsOfTable table (rows_of_chunks (map arc_value c.self.inside.chunks.items)) = subst (IsOfTable table) (sym c.self.view_is) all in
    c.find.ensures table (subst (IsOfTable table) (sym c.self.invariant.1) (heads_of_table table (map arc_value c.self.inside.chunks.items) within))
    ∙ ap (λ heads. best heads table c.args.addr) c.self.invariant.1
    ∙ best_of_heads (map arc_value c.self.inside.chunks.items) table c.args.addr c.self.invariant.0 within
    ∙ ap (λ rows. best rows table c.args.addr) c.self.view_is
