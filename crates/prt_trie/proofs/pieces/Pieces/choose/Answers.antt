use Rattle.std.proofs.Common.{◌≡◌, ap, option_map, ◌∙◌}
use Rattle.prt_route.specs.Route.{key_of}
use Rattle.prt_route.specs.RouteChoice.{chosen_route}
use Rattle.prt_trie.specs.Cut.{number_in}
use Rattle.prt_trie.specs.Pieces.{rows_of_piece}
use Rattle.prt_trie.proofs.Matches.{choice_in_piece}
use Rattle.prt_trie.proofs.pieces.Pieces.choose.Given as given
use Rattle.prt_trie.proofs.pieces.Pieces.choose.Goals as goal

-- the choice's piece
number_is : (g : given.Over) (c : goal.After-choose g) → c.number_of.result ≡ number_in c.args.self.now.0 c.args.choice.now.prefix
number_is g c = c.number_of.ensures.value ∙ ap (λ cut. number_in cut c.args.choice.now.prefix) (ap (λ all. all.0) c.self.view_is)

pub returns : goal.returns
returns g c =
    c.choose.ensures ∙ ap (λ rows. option_map key_of (chosen_route c.args.choice.now rows)) (c.piece.ensures.value ∙ ap (λ n. rows_of_piece c.args.self.now.0 n c.args.self.now.1) (number_is g c))
    ∙ ap (option_map key_of) (choice_in_piece c.args.self.now.0 c.args.choice.now c.args.self.now.1)
