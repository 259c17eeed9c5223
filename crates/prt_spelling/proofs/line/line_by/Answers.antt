use Rattle.std.proofs.Common.{◌≡◌, ◌∙◌, ap, sym, true}
use Rattle.prt_command.specs.Reading.{reading}
use Rattle.prt_spelling.specs.Spelled.{is_spelled}
use Rattle.prt_spelling.proofs.Lines.{line_read_by}
use Rattle.prt_spelling.proofs.Spaces.{appended}
use Rattle.prt_spelling.proofs.line.line_by.Goals as goal

pub returns-clause-read : goal.returns-clause-read
returns-clause-read c =
    let spelled : is_spelled c.args.command.now ≡ true = sym c.is_spelled.ensures ∙ c.if-not-is_spelled.false in
    ap reading (appended _ _ _ c.in-Ok.ensures c.new-line.ensures.items) ∙ (line_read_by c.args.form c.args.command.now c.recall_command.ensures spelled).reads
