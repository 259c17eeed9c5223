use Rattle.std.proofs.Common.{map, set, ap, ◌∙◌}
use Rattle.std.specs.Arc.{arc_value}
use Rattle.std.proofs.lemmas.List.{map-set}
use Rattle.prt_fib.proofs.table.pieces_with.Goals as goal

pub returns : goal.returns
returns c =
    map-set (λ piece. arc_value piece) c.in_ok-after.after.items c.args.octet c.in_ok-after-2.field-0
    ∙ ap (λ pieces. set pieces c.args.octet (arc_value c.in_ok-after-2.field-0)) c.in_ok-after.ensures
    ∙ ap (set (map (λ piece. arc_value piece) c.args.pieces.now) c.args.octet) c.in_ok-after-2.ensures.ok
