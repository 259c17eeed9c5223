use Rattle.std.proofs.Common.{ap, find, subst, sym, ◌∙◌}
use Rattle.std.specs.Arc.{arc_value}
use Rattle.std.specs.Option.{option_copied}
use Rattle.prt_route.specs.RouteChoice.{is_chosen}
use Rattle.prt_trie.specs.Chunks.{IsChunk}
use Rattle.prt_trie.proofs.ChunkSteps.{chunk_at, found_in, not_found_in}
use Rattle.prt_trie.proofs.chunks.first_chosen.Goals as goal

pub first_chosen-requires : goal.first_chosen-requires
first_chosen-requires c = subst IsChunk (sym c.deref.ensures) (chunk_at arc_value c.args.chunks.now c.loop-chunk.chunk-index c.chunk-item.result c.requires c.loop-chunk-test.true c.chunk-item.is)

pub returns-in-Some : goal.returns-in-Some
returns-in-Some c =
    found_in arc_value (is_chosen c.args.choice.now) c.args.chunks.now c.loop-chunk.chunk-index c.chunk-item.result (option_copied c.first_chosen.result) c.in-Some.row.now (ap option_copied c.in-Some.is)
    c.loop-chunk-test.true c.chunk-item.is (c.first_chosen.ensures ∙ ap (find (is_chosen c.args.choice.now)) c.deref.ensures) c.loop-chunk.invariant

pub loop-chunk-preserved : goal.loop-chunk-preserved
loop-chunk-preserved c =
    not_found_in arc_value (is_chosen c.args.choice.now) c.args.chunks.now c.loop-chunk.chunk-index c.chunk-item.result c.loop-chunk-test.true c.chunk-item.is
    (ap (find (is_chosen c.args.choice.now)) (sym c.deref.ensures) ∙ sym c.first_chosen.ensures ∙ ap option_copied c.in_default.is) c.loop-chunk.invariant
