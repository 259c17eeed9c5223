use Rattle.prt_spelling.specs.Line.{command_parts, verb_words}
use Rattle.prt_spelling.proofs.Spaces.{line_pushed, ok_then}
use Rattle.prt_spelling.proofs.line.push_line_by.Goals as goal

pub returns : goal.returns
returns c =
    ok_then c.push_command.result _ _
    (λ last. line_pushed c.args.out.now.items c.push_text.new.out.items c.push_command.new.out.items c.verb_words.result.now (verb_words c.args.command.now) (command_parts c.args.form c.args.command.now) c.in_ok-push_text.ensures.ok c.verb_words.ensures last)
    c.push_command.ensures
