use Rattle.prt_import.proofs.NamedPieces.{unnamed}
use Rattle.prt_import.proofs.laws.keeps_without_names.Goals as goal

pub returns : goal.returns
returns c = λ form text. unnamed form text
