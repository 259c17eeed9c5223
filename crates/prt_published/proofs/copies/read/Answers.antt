use Rattle.prt_published.proofs.Rules.{reads}
use Rattle.prt_published.proofs.copies.read.Goals as goal

pub enter_as-requires : goal.enter_as-requires
enter_as-requires c = reads _ _
