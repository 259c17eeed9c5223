use Rattle.std.proofs.Common.{find, map, ap, sym, ◌∙◌}
use Rattle.std.specs.Arc.{arc_value}
use Rattle.prt_route.specs.RouteChoice.{chosen_route, is_chosen}
use Rattle.prt_trie.specs.Chunks.{rows_of_chunks}
use Rattle.prt_trie.proofs.ChunkSteps.{chosen_first}
use Rattle.prt_trie.proofs.chunks.Chunks.chosen.Goals as goal

pub returns : goal.returns
returns c =
    c.first_chosen.ensures ∙ ap (λ chunks. find (is_chosen c.args.choice.now) (rows_of_chunks (map arc_value chunks))) c.as_slice.ensures.value
    ∙ sym (chosen_first c.args.choice.now (rows_of_chunks (map arc_value c.self.inside.chunks.items)) c.self.invariant.0.table.rising)
    ∙ ap (chosen_route c.args.choice.now) c.self.view_is
