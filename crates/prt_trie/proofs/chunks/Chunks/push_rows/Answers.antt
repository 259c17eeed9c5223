use Rattle.std.proofs.Common.{◌++◌, map, ap, subst, sym, ◌∙◌}
use Rattle.std.specs.Prelude.{IsPermutation}
use Rattle.std.specs.Arc.{arc_value}
use Rattle.std.proofs.lemmas.List.Sorted.{IsPermutation-refl}
use Rattle.std.proofs.lemmas.Result.{on_ok_weaker}
use Rattle.prt_trie.specs.Chunks.{rows_of_chunks}
use Rattle.prt_trie.proofs.chunks.Chunks.push_rows.Goals as goal

pub returns : goal.returns
returns c =
    on_ok_weaker c.push_rows.result (λ pushed. subst (IsPermutation (c.args.rows.now.items ++ c.args.self.now))
    (sym (pushed ∙ ap (λ rows. c.args.rows.now.items ++ rows) (ap (λ chunks. rows_of_chunks (map arc_value chunks)) c.as_slice.ensures.value ∙ c.self.view_is)))
    (IsPermutation-refl (c.args.rows.now.items ++ c.args.self.now))) c.push_rows.ensures
