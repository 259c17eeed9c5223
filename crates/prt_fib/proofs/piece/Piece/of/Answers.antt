use Rattle.std.proofs.Common.{◌≤◌, length, sym, subst}
use Rattle.prt_fib.proofs.Finding.{few}
use Rattle.prt_fib.proofs.piece.Piece.of.Goals as goal

pub directory_of-requires-clause-fits : goal.directory_of-requires-clause-fits
directory_of-requires-clause-fits c = subst (λ starts. length starts ≤ 16777216) (sym c.deref.ensures.value) (few c.args.base c.args.starts.items c.requires.starts)
