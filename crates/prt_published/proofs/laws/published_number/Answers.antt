use Rattle.prt_published.proofs.Numbers.{number_is, number_next}
use Rattle.prt_published.proofs.laws.published_number.Goals as goal

pub returns-clause-number : goal.returns-clause-number
returns-clause-number c = number_is

pub returns-clause-next : goal.returns-clause-next
returns-clause-next c = number_next
