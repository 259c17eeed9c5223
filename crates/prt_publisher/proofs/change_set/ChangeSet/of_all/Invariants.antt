use Rattle.std.proofs.Common.{◌≡◌, take}
use Rattle.prt_version.specs.Accepted.{IsAccepted}
use Rattle.prt_publisher.proofs.change_set.ChangeSet.of_all.Given as goal

abbrev pub invariant-loop-command : goal.invariant-loop-command
invariant-loop-command l = record {
  base : l.set.base ≡ l.version;
  done : l.set.commands ≡ take l.command-index l.commands;
  accepted : IsAccepted l.set.base l.set.commands;
}
