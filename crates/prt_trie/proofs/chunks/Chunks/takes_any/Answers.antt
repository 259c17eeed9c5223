use Rattle.std.proofs.Common.{ap, ◌∙◌}
use Rattle.std.specs.Arc.{arc_value}
use Rattle.std.specs.List.{list_any}
use Rattle.prt_route.specs.RouteChoice.{is_selected}
use Rattle.prt_trie.proofs.KeyPlaces.{any_of_chunks}
use Rattle.prt_trie.proofs.chunks.Chunks.takes_any.Goals as goal

pub returns : goal.returns
returns c =
    c.takes_one.ensures ∙ ap (list_any (λ chunk. list_any (is_selected c.args.selector.now) (arc_value chunk))) c.as_slice.ensures.value
    ∙ any_of_chunks arc_value (is_selected c.args.selector.now) c.self.inside.chunks.items ∙ ap (list_any (is_selected c.args.selector.now)) c.self.view_is
