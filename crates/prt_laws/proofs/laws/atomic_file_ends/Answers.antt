use Rattle.prt_laws.proofs.Works.{file_ends, refused_file_does_nothing}
use Rattle.prt_laws.proofs.laws.atomic_file_ends.Goals as goal

pub returns : goal.returns
returns c = record { ends = file_ends; nothing = refused_file_does_nothing }
