use Rattle.std.proofs.Common.{◌≡◌, ◌+◌, length}
use Rattle.prt_service.proofs.followers.Followers.tell_all.Given as goal

-- as many commands are later as are left
abbrev pub invariant-loop-command : goal.invariant-loop-command
invariant-loop-command g l = l.later + l.command-index ≡ length l.commands
