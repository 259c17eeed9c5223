use Rattle.std.proofs.Common.{sym, ◌∙◌}
use Rattle.prt_import.proofs.NamedPieces.{cut_at, last_piece}
use Rattle.prt_import.proofs.naming.next_piece.Goals as goal

pub returns-in_err-at : goal.returns-in_err-at
returns-in_err-at c = rw c.from_residual.ensures (last_piece c.args.form c.args.text.now (sym c.first_separator.ensures ∙ c.in_err-at.was))

pub returns : goal.returns
returns c = cut_at c.args.form c.args.text.now c.in_ok-at.at (sym c.first_separator.ensures ∙ c.in_ok-at.was)
