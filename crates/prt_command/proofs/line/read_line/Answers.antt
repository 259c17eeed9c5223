use Rattle.prt_command.specs.Reading.{words}
use Rattle.prt_command.proofs.Stored.{text_is}
use Rattle.prt_command.proofs.line.read_line.Goals as goal

pub returns-clause-storable : goal.returns-clause-storable
returns-clause-storable c = (text_is (words c.in_ok-text.text.now) c.read_text.result c.read_text.ensures).0

pub returns-clause-number : goal.returns-clause-number
returns-clause-number c = (text_is (words c.in_ok-text.text.now) c.read_text.result c.read_text.ensures).1
