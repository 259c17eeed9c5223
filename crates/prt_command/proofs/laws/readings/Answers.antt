use Rattle.prt_command.proofs.ReadingLaws.{spells, spells_back, has_fault, fault_back}
use Rattle.prt_command.proofs.laws.readings.Goals as goal

pub returns-clause-request : goal.returns-clause-request
returns-clause-request c = λ verb ws request. (spells verb ws request, spells_back verb ws request)

pub returns-clause-fault : goal.returns-clause-fault
returns-clause-fault c = λ verb ws e. (has_fault verb ws e, fault_back verb ws e)
