use Rattle.std.proofs.Common.{ap, sym, ◌∙◌}
use Rattle.prt_partition.specs.Comparison.{after_of, before_of}
use Rattle.prt_partition.specs.Cuts.{to}
use Rattle.prt_partition.specs.Touching.{is_touched}
use Rattle.prt_partition.proofs.Verdicts.{no_transition}
use Rattle.prt_partition.proofs.comparison.Comparison.transition_at.Goals as goal

pub returns-else-is_touched : goal.returns-else-is_touched
returns-else-is_touched c =
    let comparison = c.args.self.now in
    sym (no_transition c.args.sameness (before_of comparison) (after_of comparison) (to c.args.packet.now c.args.addr)
    (c.requires.quiet c.args.addr (ap (is_touched comparison.touching) (sym c.to.ensures) ∙ sym c.is_touched.ensures ∙ c.if-is_touched.false)))
