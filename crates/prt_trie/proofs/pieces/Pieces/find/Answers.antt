use Rattle.std.proofs.Common.{ap, sym, ◌∙◌}
use Rattle.std.specs.Option.{option_copied}
use Rattle.prt_trie.proofs.Matches.{best_in_piece, best_in_short}
use Rattle.prt_trie.proofs.pieces.Pieces.find.Goals as goal

pub returns-in-Some : goal.returns-in-Some
returns-in-Some g c table all =
    sym (best_in_piece c.args.self.now.0 table c.args.addr c.args.self.now.1 c.in-Some.route.now c.find_long.ensures.table (sym (c.find_long.ensures.value table all) ∙ ap option_copied c.in-Some.is))

pub returns-in-None : goal.returns-in-None
returns-in-None g c table all =
    c.find_short.ensures table all
    ∙ sym (best_in_short c.args.self.now.0 table c.args.addr c.args.self.now.1 c.find_long.ensures.table (sym (c.find_long.ensures.value table all) ∙ ap option_copied c.in-None.is))
