use Rattle.prt_command.proofs.OrderLaws.{words_in_any_order}
use Rattle.prt_command.proofs.laws.any_order.Goals as goal

pub returns : goal.returns
returns c = words_in_any_order
