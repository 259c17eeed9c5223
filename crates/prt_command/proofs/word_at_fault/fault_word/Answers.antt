use Rattle.prt_command.proofs.WordPlaces.{is_fault_word, is_in_line}
use Rattle.prt_command.proofs.word_at_fault.fault_word.Goals as goal

pub returns-clause-place : goal.returns-clause-place
returns-clause-place c = is_in_line c.args.line.now c.fault_in_line.result c.fault_in_line.ensures.place

pub returns-clause-word : goal.returns-clause-word
returns-clause-word c = is_fault_word c.args.line.now c.fault_in_line.result c.fault_in_line.ensures.words c.fault_in_line.ensures.place
