use Rattle.std.proofs.Common.{◌≡◌, ◌++◌, List, map, ap, subst, sym, ◌∙◌}
use Rattle.std.specs.Prelude.{IfOk}
use Rattle.std.specs.Arc.{arc_value}
use Rattle.std.specs.List.{AllByRecursion as Each}
use Rattle.prt_route.specs.Edit.{after_edit}
use Rattle.prt_route.specs.declared.route.Route.{Route}
use Rattle.prt_trie.specs.Chunks.{IsChunk, rows_of_chunks}
use Rattle.prt_trie.specs.Table.{IsTable}
use Rattle.prt_trie.proofs.KeyPlaces.{each_back, each_front, edited_chunks}
use Rattle.prt_trie.proofs.Wholes.{table_after}
use Rattle.prt_trie.proofs.chunks.Chunks.with_key.Goals as goal
use Rattle.prt_trie.proofs.chunks.Chunks.with_key.Goals.{In_ok-chunks}

-- the chunks are those before the key, near it and after it
parts_are : (c : In_ok-chunks) → map arc_value c.self.inside.chunks.items ≡ map arc_value c.around.result.0.now ++ (map arc_value c.around.result.1.now ++ map arc_value c.around.result.2.now)
parts_are c = sym (ap (map arc_value) c.as_slice.ensures.value) ∙ c.around.ensures.whole

-- the rows near the key after the edit
new_are : (c : In_ok-chunks) → c.as_slice-4.result.now ≡ after_edit c.args.edit.now (rows_of_chunks (map arc_value c.around.result.1.now))
new_are c =
    c.as_slice-4.ensures.value ∙ c.in_ok-new.ensures
    ∙ ap (after_edit c.args.edit.now) (c.as_slice-3.ensures.value ∙ c.in_ok-push_rows.ensures ∙ ap (λ none. none ++ rows_of_chunks (map arc_value c.around.result.1.now)) c.new-old.ensures.items)

edited : (c : In_ok-chunks) → rows_of_chunks (map arc_value c.in_ok-chunks.chunks.items) ≡ after_edit c.args.edit.now c.args.self.now
edited c =
    edited_chunks c.args.key.now c.args.edit.now (map arc_value c.self.inside.chunks.items) (map arc_value c.around.result.0.now) (map arc_value c.around.result.1.now) (map arc_value c.around.result.2.now)
    (map arc_value c.in_ok-chunks.chunks.items) c.as_slice-4.result.now (parts_are c) c.requires.key c.around.ensures.before c.around.ensures.after (new_are c) c.in_ok-chunks.ensures.rows
    ∙ ap (after_edit c.args.edit.now) c.self.view_is

pub of-requires-clause-chunks : goal.of-requires-clause-chunks
of-requires-clause-chunks c =
    let before : List (List Route) = map arc_value c.around.result.0.now in
    let near : List (List Route) = map arc_value c.around.result.1.now in
    let after : List (List Route) = map arc_value c.around.result.2.now in
    let parts : Each IsChunk (before ++ (near ++ after)) = subst (Each IsChunk) (parts_are c) c.self.invariant.0.each in
    record {
      table = subst IsTable (sym (edited c)) (table_after c.args.edit.now c.args.self.now (subst IsTable c.self.view_is c.self.invariant.0.table) c.requires.table c.read_edit.ensures.prefix c.read_edit.ensures.metric);
      each = c.in_ok-chunks.ensures.each (each_front IsChunk before (near ++ after) parts) (each_back IsChunk near after (each_back IsChunk before (near ++ after) parts));
    }

pub returns-clause-value : goal.returns-clause-value
returns-clause-value c = subst (λ rows. IfOk c.of.result (λ all. all ≡ rows)) (edited (goal.at.returns-clause-value c).In_ok-chunks) c.of.ensures.value
