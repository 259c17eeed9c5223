use Rattle.prt_spelling.proofs.Digits.{number_back}
use Rattle.prt_spelling.proofs.RouteItems.{protocol_back, scope_back, table_back}
use Rattle.prt_spelling.proofs.Marks.{given_mark_back}
use Rattle.prt_spelling.proofs.Values.{address_back, mark_back, prefix_back}
use Rattle.prt_spelling.proofs.laws.values_read_back.Goals as goal

pub returns : goal.returns
returns c = record { number = number_back; address = address_back; prefix = prefix_back; table = table_back; protocol = protocol_back; scope = scope_back; mark = mark_back; given_mark = given_mark_back }
