use Rattle.std.proofs.Common.{◌≡◌, take}
use Rattle.std.specs.List.{AllWithin}
use Rattle.prt_diff.specs.Text.{IsAskedFor, text_by}
use Rattle.prt_diff.proofs.text.text_by.Given as goal

abbrev pub invariant-loop-command : goal.invariant-loop-command
invariant-loop-command l = record {
  text : l.text.items ≡ text_by l.form (take l.command-index l.commands);
  read : AllWithin (IsAskedFor l.form) l.commands 0 l.command-index;
}
