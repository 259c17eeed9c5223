use Rattle.std.proofs.Common.{[], ◌∷◌, ◌++◌, ◌-◌, length, take}
use Rattle.prt_impact.specs.Replacing.{AlwaysReplaces}
use Rattle.prt_impact.proofs.Neighbours.{last_joined, some_weaker}
use Rattle.prt_impact.proofs.joining.join_last.Goals as goal

pub returns-clause-replaces : goal.returns-clause-replaces
returns-clause-replaces c =
    let groups = c.args.groups.now in
    let group = c.args.group.now in
    some_weaker (λ joined. AlwaysReplaces (c.in-Some.last.now ∷ group ∷ []) (joined ∷ [])) (λ joined. AlwaysReplaces (groups ++ group ∷ []) (take (length groups - 1) groups ++ joined ∷ []))
    (λ joined replaces. last_joined groups c.in-Some.field-0-1.now c.in-Some.last.now group joined c.in-Some.ensures.cases replaces) c.join_sources.result c.join_sources.ensures
