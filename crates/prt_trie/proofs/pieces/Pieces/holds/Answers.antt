use Rattle.std.proofs.Common.{◌≡◌, ap, ◌∙◌}
use Rattle.prt_route.specs.Edit.{has_key}
use Rattle.prt_trie.specs.Cut.{number_in}
use Rattle.prt_trie.specs.Pieces.{rows_of_piece}
use Rattle.prt_trie.proofs.Matches.{key_in_piece}
use Rattle.prt_trie.proofs.pieces.Pieces.holds.Given as given
use Rattle.prt_trie.proofs.pieces.Pieces.holds.Goals as goal

-- the key's piece
number_is : (g : given.Over) (c : goal.After-holds g) → c.number_of.result ≡ number_in c.args.self.now.0 c.args.key.now.prefix
number_is g c = c.number_of.ensures.value ∙ ap (λ cut. number_in cut c.args.key.now.prefix) (ap (λ all. all.0) c.self.view_is)

pub returns : goal.returns
returns g c =
    c.holds.ensures ∙ ap (has_key c.args.key.now) (c.piece.ensures.value ∙ ap (λ n. rows_of_piece c.args.self.now.0 n c.args.self.now.1) (number_is g c))
    ∙ key_in_piece c.args.self.now.0 c.args.key.now c.args.self.now.1
