use Rattle.std.proofs.Common.{subst, sym, ap, ◌∙◌}
use Rattle.std.specs.Prelude.{map}
use Rattle.prt_partition.specs.Boxes.{packet_of}
use Rattle.prt_partition.specs.Classes.{AreClasses}
use Rattle.prt_partition.proofs.BoxList.{all_classes}
use Rattle.prt_partition.proofs.class_list.classes.Goals as goal

pub returns-clause-value : goal.returns-clause-value
returns-clause-value c =
    let rules = c.args.rules.now in
    let boxes = c.in_ok-boxes.boxes.items in
    let fresh = c.in_ok-fresh.fresh in
    subst (AreClasses rules) (sym (c.in_ok-all.ensures ∙ ap (map (packet_of fresh)) c.deref.ensures.value)) (all_classes rules boxes fresh c.in_ok-boxes.ensures.value c.in_ok-fresh.ensures)
