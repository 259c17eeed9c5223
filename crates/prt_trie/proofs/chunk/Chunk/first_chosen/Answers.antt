use Rattle.std.proofs.Common.{◌≡◌, get_or, ap, sym, ◌∙◌}
use Rattle.prt_trie.proofs.ChunkSteps.{none_chosen}
use Rattle.prt_trie.proofs.chunk.Chunk.first_chosen.Goals as goal

pub returns-then-not-has_prefix : goal.returns-then-not-has_prefix
returns-then-not-has_prefix c =
    let at : c.index-rows-0.result ≡ get_or c.args.self.now 0 c.index-rows-0.result = c.index-rows-0.is ∙ ap (λ rows. get_or rows 0 c.index-rows-0.result) c.as_slice-rows.ensures in
    sym (none_chosen c.args.choice.now c.args.self.now c.index-rows-0.result c.requires at (sym c.has_prefix.ensures ∙ c.if-not-has_prefix.true))
