use Rattle.std.proofs.Common.{ap, sym, ◌∙◌}
use Rattle.prt_trie.specs.Heaviest.{best_for}
use Rattle.prt_trie.proofs.Finds.{best_of_table}
use Rattle.prt_trie.proofs.leaf.Leaf.find.Goals as goal

pub find-requires : goal.find-requires
find-requires c = rw c.deref.ensures.value c.self.invariant

pub returns : goal.returns
returns c table all = c.find.ensures ∙ ap (λ rows. best_for rows c.args.addr) (c.deref.ensures.value ∙ c.self.view_is) ∙ sym (best_of_table c.args.self.now table c.args.addr all)
