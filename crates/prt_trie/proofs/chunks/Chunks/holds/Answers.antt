use Rattle.std.proofs.Common.{map, ap, sym, ◌∙◌}
use Rattle.std.specs.Arc.{arc_value}
use Rattle.prt_route.specs.Edit.{has_key}
use Rattle.prt_route.specs.Route.{is_same_key, key_of}
use Rattle.prt_trie.specs.Chunks.{rows_of_chunks}
use Rattle.prt_trie.proofs.KeyPlaces.{any_of_chunks, key_in_chunks}
use Rattle.prt_trie.proofs.chunks.Chunks.holds.Goals as goal

pub returns : goal.returns
returns c =
    c.have_key.ensures ∙ any_of_chunks arc_value (λ row. is_same_key (key_of row) c.args.key.now) c.around.result.1.now
    ∙ key_in_chunks c.args.key.now (map arc_value c.around.result.0.now) (map arc_value c.around.result.1.now) (map arc_value c.around.result.2.now) c.around.ensures.before c.around.ensures.after
    ∙ ap (λ chunks. has_key c.args.key.now (rows_of_chunks chunks)) (sym c.around.ensures.whole ∙ ap (map arc_value) c.as_slice.ensures.value)
    ∙ ap (has_key c.args.key.now) c.self.view_is
