use Rattle.prt_import.specs.TableNames.{names_of}
use Rattle.prt_import.proofs.NamedPieces.{ends, goes_on}
use Rattle.prt_import.proofs.naming.with_names.Goals as goal

pub loop-cut-preserved : goal.loop-cut-preserved
loop-cut-preserved c = goes_on c.args.form (names_of c.args.names.now) _ _ _ _ _ _ _ _ _ _ c.loop-cut.invariant c.in-Some.ensures.0 c.in_ok-push_piece.ensures c.in_ok-push.ensures.items c.last_word-before.ensures

pub returns : goal.returns
returns c = ends c.args.form (names_of c.args.names.now) _ _ _ _ _ c.loop-cut.invariant c.in_default.ensures c.in_ok-push_piece-2.ensures
