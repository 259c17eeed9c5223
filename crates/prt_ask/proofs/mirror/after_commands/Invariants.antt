use Rattle.std.proofs.Common.{◌≡◌, drop}
use Rattle.prt_version.specs.Change.{fold}
use Rattle.prt_ask.proofs.mirror.after_commands.Given as goal

-- what comes of the commands that are left is what comes of all
abbrev pub invariant-loop-command : goal.invariant-loop-command
invariant-loop-command l = fold l.after (drop l.command-index l.commands) ≡ fold l.fn.version l.fn.commands
