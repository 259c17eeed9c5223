-- The line of each command asks for it.
use Rattle.std.proofs.Common.{◌≡◌, true, refl, arith}
use Rattle.std.specs.Prelude.{codes}
use Rattle.prt_command.specs.declared.request.Command.{Command}
use Rattle.prt_command.specs.declared.request.Command.TheVariants.{RouteAdd, RouteChange, RouteReplace, RouteDel, RouteFlush, RuleAdd, RuleDel, RuleFlush}
use Rattle.prt_spelling.specs.Fits.{CommandFits}
use Rattle.prt_spelling.specs.Line.{command_line, line_by}
use Rattle.prt_spelling.specs.Spelled.{is_spelled}
use Rattle.prt_spelling.specs.declared.form.NameForm.{NameForm}
use Rattle.prt_spelling.specs.declared.form.NameForm.TheVariants.{ByName}
use Rattle.prt_spelling.proofs.Reading.{IsReadAs}
use Rattle.prt_spelling.proofs.RouteChoices as routes
use Rattle.prt_spelling.proofs.RouteFlushes.{selector_read}
use Rattle.prt_spelling.proofs.RouteLines.{route_read}
use Rattle.prt_spelling.proofs.RuleLines as rules

pub line_read_by : (form : NameForm) (command : Command) → CommandFits command → is_spelled command ≡ true → IsReadAs (line_by form command) command
line_read_by form (RouteAdd route) fits spelled = route_read form RouteAdd (codes "route add") (codes "add") 9 (record { words = refl; plain = refl; short = omega arith }) (omega arith) (λ ws. refl) route fits spelled
line_read_by form (RouteChange route) fits spelled = route_read form RouteChange (codes "route change") (codes "change") 12 (record { words = refl; plain = refl; short = omega arith }) (omega arith) (λ ws. refl) route fits spelled
line_read_by form (RouteReplace route) fits spelled = route_read form RouteReplace (codes "route replace") (codes "replace") 13 (record { words = refl; plain = refl; short = omega arith }) (omega arith) (λ ws. refl) route fits spelled
line_read_by form (RouteDel choice) fits spelled = routes.choice_read form choice fits spelled
line_read_by form (RouteFlush selector) fits spelled = selector_read form selector fits spelled
line_read_by form (RuleAdd rule) fits spelled = rules.rule_read rule fits spelled
line_read_by form (RuleDel choice) fits spelled = rules.choice_read choice fits spelled
line_read_by form RuleFlush fits spelled = record { plain = refl; short = omega arith; reads = refl }

-- the line with the names of protocols
pub line_read : (command : Command) → CommandFits command → is_spelled command ≡ true → IsReadAs (command_line command) command
line_read command fits spelled = line_read_by ByName command fits spelled
