use Rattle.std.proofs.Common.{◌+◌, sym, ap}
use Rattle.prt_faults.proofs.quiet.commit_one.Goals as goal

pub commit-requires : goal.commit-requires
commit-requires g c = (c.args.version.now, record { sound = c.number-number.ensures.sound; command = c.args.command.now; storable = c.requires; makes = sym c.in_ok-change.ensures.value; counts = ap (λ n. n + 1) c.number-number.ensures.value })
