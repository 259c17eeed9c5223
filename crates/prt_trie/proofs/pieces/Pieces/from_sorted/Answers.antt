use Rattle.std.proofs.Common.{◌≡◌, map, arith, ap, subst, sym, ◌∙◌}
use Rattle.std.specs.Prelude.{IfOk}
use Rattle.std.specs.Arc.{arc_value}
use Rattle.prt_trie.specs.Pieces.{pieces_by, rows_of_pieces}
use Rattle.prt_trie.specs.Table.{IsOfOneTable, IsRising}
use Rattle.prt_trie.proofs.Splits.{part_at, parts_left}
use Rattle.prt_trie.proofs.Wholes.{joined_pieces, no_pieces, part_of_one_table, part_rises, pieces_step, whole_from}
use Rattle.prt_trie.proofs.pieces.Pieces.from_sorted.Goals as goal

pub loop-number-init : goal.loop-number-init
loop-number-init g c = record {
  parts = c.in_ok-parts.ensures;
  made = ap (map (λ piece. g.P.Piece.routes (arc_value piece))) c.in_ok-pieces.ensures.items ∙ sym (no_pieces c.args.cut c.args.rows.now);
}

pub piece_of-requires-clause-one_table : goal.piece_of-requires-clause-one_table
piece_of-requires-clause-one_table g c =
    subst IsOfOneTable
    (sym (part_at (λ part. part.items) c.args.cut c.args.rows.now c.loop-number.parts.items c.loop-number.number c.replace-part.result c.index_mut.result.now c.loop-number.invariant.parts c.loop-number-test.true c.replace-part.ensures.value c.index_mut.ensures.value))
    (part_of_one_table c.args.cut c.loop-number.number c.args.rows.now c.requires)

pub piece_of-requires-clause-rising : goal.piece_of-requires-clause-rising
piece_of-requires-clause-rising g c =
    subst IsRising
    (sym (part_at (λ part. part.items) c.args.cut c.args.rows.now c.loop-number.parts.items c.loop-number.number c.replace-part.result c.index_mut.result.now c.loop-number.invariant.parts c.loop-number-test.true c.replace-part.ensures.value c.index_mut.ensures.value))
    (part_rises c.args.cut c.loop-number.number c.args.rows.now c.requires)

pub loop-number-preserved : goal.loop-number-preserved
loop-number-preserved g c = record {
  parts = parts_left (λ part. part.items) c.args.cut c.args.rows.now c.loop-number.parts.items c.loop-number.number c.replace-part.new.dest c.loop-number.invariant.parts;
  made = pieces_step c.args.cut (λ piece. g.P.Piece.routes (arc_value piece)) c.loop-number.pieces.items c.push.new.self.items c.in_ok-piece_of.field-0 c.loop-number.number c.args.rows.now c.in_ok-push.ensures.items c.loop-number.invariant.made
      (c.in_ok-piece_of.ensures.value
      ∙ part_at (λ part. part.items) c.args.cut c.args.rows.now c.loop-number.parts.items c.loop-number.number c.replace-part.result c.index_mut.result.now c.loop-number.invariant.parts c.loop-number-test.true c.replace-part.ensures.value c.index_mut.ensures.value);
}

pub of-requires : goal.of-requires
of-requires g c =
    let e : c.loop-number.number ≡ 257 = omega arith in
    whole_from c.args.cut (map (λ piece. g.P.Piece.routes (arc_value piece)) c.loop-number.pieces.items) c.args.rows.now c.requires (c.loop-number.invariant.made ∙ ap (λ n. pieces_by c.args.cut 0 n c.args.rows.now) e)

pub returns-clause-value : goal.returns-clause-value
returns-clause-value g c =
    let e : c.loop-number.number ≡ 257 = omega arith in
    let whole : rows_of_pieces (map (λ piece. g.P.Piece.routes (arc_value piece)) c.loop-number.pieces.items) ≡ c.args.rows.now =
    ap rows_of_pieces (c.loop-number.invariant.made ∙ ap (λ n. pieces_by c.args.cut 0 n c.args.rows.now) e) ∙ joined_pieces c.args.cut c.args.rows.now c.requires in
    subst (λ rows. IfOk c.of.result (λ all. all ≡ (c.args.cut, rows))) whole c.of.ensures.value
