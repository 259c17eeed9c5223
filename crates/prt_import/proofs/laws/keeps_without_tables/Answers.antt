use Rattle.prt_import.proofs.NamedPieces.{without_tables}
use Rattle.prt_import.proofs.laws.keeps_without_tables.Goals as goal

pub returns : goal.returns
returns c = λ form names text all. without_tables form names text all
