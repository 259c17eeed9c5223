use Rattle.std.proofs.Common.{subst, sym, ap, ◌∙◌}
use Rattle.std.specs.Prelude.{map}
use Rattle.std.specs.List.{dedup}
use Rattle.prt_partition.specs.Spans.{AreSpans}
use Rattle.prt_partition.specs.Steps.{says_same, span_from}
use Rattle.prt_partition.proofs.SpanList.{whole}
use Rattle.prt_partition.proofs.destinations.spans.Goals as goal

pub returns-clause-value : goal.returns-clause-value
returns-clause-value c =
    let state = c.args.version.now in
    let packet = c.args.packet.now in
    subst (AreSpans state packet) (sym (c.join.ensures ∙ ap (dedup says_same) (c.in_ok-spans.ensures ∙ ap (map (span_from state packet)) c.deref.ensures.value)))
    (whole state packet c.in_ok-starts.starts.items c.in_ok-starts.ensures)
