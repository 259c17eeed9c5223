use Rattle.std.proofs.Common.{zero, arith}
use Rattle.prt_command.proofs.GrammarLaws.{good_of_items, only, fault, fault_only, longest}
use Rattle.prt_command.proofs.laws.first_faults.Goals as goal

pub returns-clause-found : goal.returns-clause-found
returns-clause-found c = λ line given items ws h.
    let d = good_of_items line ws zero given items h (omega arith) in
    (d.taken, d.good, d.is)

pub returns-clause-only : goal.returns-clause-only
returns-clause-only c = only

pub returns-clause-fault : goal.returns-clause-fault
returns-clause-fault c = λ line given ws e h. fault line ws zero given e h (omega arith)

pub returns-clause-fault_only : goal.returns-clause-fault_only
returns-clause-fault_only c = fault_only

pub returns-clause-longest : goal.returns-clause-longest
returns-clause-longest c = longest
