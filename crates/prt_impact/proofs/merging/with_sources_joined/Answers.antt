use Rattle.prt_impact.specs.Replacing.{AlwaysReplaces}
use Rattle.prt_impact.proofs.Replaced.{ok_weaker, sorted_then}
use Rattle.prt_impact.proofs.merging.with_sources_joined.Goals as goal

pub returns : goal.returns
returns c =
    let old = c.args.groups.items in
    let sorted = c.sort_by.new.self.items in
    let view = c.deref.result.now in
    ok_weaker (λ joined. AlwaysReplaces view joined.items) (λ joined. AlwaysReplaces old joined.items)
    (λ joined replaces. sorted_then old sorted view joined.items c.sort_by.ensures.permutation c.deref.ensures.value replaces)
    c.joined_sources.result c.joined_sources.ensures
