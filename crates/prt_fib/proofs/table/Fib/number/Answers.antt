use Rattle.std.proofs.Common.{◌≡◌, ◌/◌, Some, map, subst, arith}
use Rattle.std.specs.Arc.{arc_value}
use Rattle.std.specs.List.{slice_get}
use Rattle.std.proofs.lemmas.Option.{slice_get_within}
use Rattle.prt_fib.specs.Fib.{Table, outcome_to}
use Rattle.prt_fib.proofs.Steady.{number_told, piece_at}
use Rattle.prt_fib.proofs.table.Fib.number.Goals as goal

pub number-requires : goal.number-requires
number-requires c =
    let fits = c.well_formed in
    (c.self.invariant.each (c.args.dst.0 / 16777216) c.deref-piece.result.now
    (piece_at (λ piece. arc_value piece) c.self.inside.pieces.items (c.args.dst.0 / 16777216) c.index.result.now c.deref-piece.result.now c.self.invariant.size (omega arith) c.index.ensures c.deref-piece.ensures)).0

told : (c : goal.After-number) → slice_get c.args.self.now.outcomes c.number.result ≡ Some (outcome_to c.args.self.now.state c.args.self.now.packet c.args.dst.0)
told c =
    let inside = c.self.inside in
    let fits = c.well_formed in
    subst (λ (table : Table). slice_get table.outcomes c.number.result ≡ Some (outcome_to table.state table.packet c.args.dst.0)) c.self.view_is
    (number_told inside.version inside.packet (arc_value inside.outcomes) (map (λ piece. arc_value piece) inside.pieces.items) c.deref-piece.result.now c.args.dst.0 c.number.result c.self.invariant (omega arith)
    (piece_at (λ piece. arc_value piece) inside.pieces.items (c.args.dst.0 / 16777216) c.index.result.now c.deref-piece.result.now c.self.invariant.size (omega arith) c.index.ensures c.deref-piece.ensures)
    c.number.ensures)

pub returns-clause-value : goal.returns-clause-value
returns-clause-value c = told c

pub returns-clause-known : goal.returns-clause-known
returns-clause-known c = slice_get_within c.args.self.now.outcomes c.number.result (outcome_to c.args.self.now.state c.args.self.now.packet c.args.dst.0) (told c)
