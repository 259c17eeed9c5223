use Rattle.std.specs.Arc.{arc_value}
use Rattle.std.proofs.lemmas.Result.{on_ok_weaker}
use Rattle.prt_trie.proofs.ChunkSteps.{shared_pushed}
use Rattle.prt_trie.proofs.chunks.push_shared.Goals as goal

pub returns : goal.returns
returns c =
    on_ok_weaker c.extend_with_clones.result (λ pushed. shared_pushed arc_value c.args.chunks.now.items c.extend_with_clones.new.self.items c.args.others.now pushed.0 pushed.1 pushed.2) c.extend_with_clones.ensures.items
