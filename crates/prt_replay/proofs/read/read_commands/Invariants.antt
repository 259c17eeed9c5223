use Rattle.std.proofs.Common.{length}
use Rattle.prt_replay.proofs.CommandWords.{HasCommands}
use Rattle.prt_replay.proofs.read.read_commands.Given as goal

abbrev pub invariant-words : goal.invariant-words
invariant-words l = HasCommands l.fn.text l.them.items l.line.items l.rest

abbrev pub decreases-words : goal.decreases-words
decreases-words l = length l.rest
