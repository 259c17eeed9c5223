-- The published list after commands more.
use Rattle.std.proofs.Common.{◌≡◌, ℕ, ◌+◌, List, length, ap, ◌∙◌, arith}
use Rattle.prt_command.specs.declared.request.Command.{Command}
use Rattle.prt_published.specs.Line.{Line, grown_by, line_state}
use Rattle.prt_version.proofs.Folds.{count_fold, fold_append}
use Rattle.prt_version.specs.Accepted.{IsAccepted}
use Rattle.prt_version.specs.Change.{fold}

pub state_grown : (line next : Line) (commands : List Command) → next ≡ grown_by line commands → line_state next ≡ fold (line_state line) commands
state_grown line next commands is = ap line_state is ∙ fold_append line.base line.list commands

pub number_next : (line : Line) (n more : ℕ) → IsAccepted line.base line.list → n ≡ (line_state line).count + more → n ≡ line.base.count + length line.list + more
number_next line n more all is = omega (arith, is, count_fold line.base line.list all)
