use Rattle.std.specs.Prelude.{All}
use Rattle.prt_command.specs.Storable.{IsStorable}
use Rattle.prt_disk_tests.proofs.store.together.commands_of.Given as goal

abbrev pub invariant-loop-line : goal.invariant-loop-line
invariant-loop-line l = All IsStorable l.commands.items
