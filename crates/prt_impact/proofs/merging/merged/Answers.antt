use Rattle.prt_impact.proofs.Replaced.{reordered, then}
use Rattle.prt_impact.proofs.merging.merged.Goals as goal

pub returns : goal.returns
returns c = λ sameness before after of.
    let old = c.args.groups.items in
    let of_marks = c.in_ok-of_marks.of_marks.items in
    let of_interfaces = c.in_ok-of_interfaces.of_interfaces.items in
    let merged = c.in_ok-merged.merged.items in
    let sorted = c.sort_by.new.self.items in
    then sameness before after old of_marks sorted (c.in_ok-of_marks.ensures sameness before after)
    (then sameness before after of_marks of_interfaces sorted (c.in_ok-of_interfaces.ensures sameness before after of)
    (then sameness before after of_interfaces merged sorted (c.in_ok-merged.ensures sameness before after) (reordered sameness before after merged sorted c.sort_by.ensures.permutation)))
