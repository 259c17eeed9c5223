use Rattle.prt_command.proofs.FaultWords.{about_back, is_about}
use Rattle.prt_command.proofs.word_at_fault.fault_words.Goals as goal

pub returns : goal.returns
returns c = λ ws left w. (is_about ws left w, about_back ws left w)
