use Rattle.std.proofs.Common.{subst}
use Rattle.prt_spelling.specs.Spelled.{IsWhyNotSpelled}
use Rattle.prt_diff.proofs.Texts.{asked_more, first_unspelled, line_more}
use Rattle.prt_diff.proofs.text.text_by.Goals as goal

pub returns-in-Err-NoLine-clause-reason : goal.returns-in-Err-NoLine-clause-reason
returns-in-Err-NoLine-clause-reason c = first_unspelled c.args.form c.args.commands.now c.loop-command.command-index c.command-item.result c.loop-command-test.true c.command-item.is c.loop-command.invariant.read (subst (IsWhyNotSpelled c.command-item.result) c.in-Err-NoLine.field-0-is c.in-Err-NoLine.ensures.reason)

pub loop-command-preserved : goal.loop-command-preserved
loop-command-preserved c = record {
  text = line_more c.args.form c.args.commands.now c.loop-command.command-index c.command-item.result c.loop-command.text.items c.push_command.new.text.items c.loop-command-test.true c.command-item.is c.loop-command.invariant.text c.in-Ok.ensures.text;
  read = asked_more c.args.form c.args.commands.now c.loop-command.command-index c.command-item.result c.loop-command-test.true c.command-item.is c.loop-command.invariant.read c.in-Ok.ensures.read;
}
