use Rattle.std.proofs.Common.{sym, ap, ◌∙◌}
use Rattle.std.specs.List.{list_all}
use Rattle.prt_command.specs.Reading.{is_text_byte}
use Rattle.prt_command.proofs.Splitting.{plain_line, plain_text}
use Rattle.prt_command.proofs.words.text_of.Goals as goal

pub returns-then-is_plain : goal.returns-then-is_plain
returns-then-is_plain c =
    let plain = sym c.is_plain.ensures ∙ c.if-is_plain.true in
    let same = plain_line c.args.line.now plain in
    (sym same, ap (list_all is_text_byte) same ∙ plain_text c.args.line.now plain)
