use Rattle.prt_impact.specs.Replacing.{ReplacesAt, ReplacesIfAll}
use Rattle.prt_impact.proofs.Replaced.{ok_weaker, sorted_then_at}
use Rattle.prt_impact.proofs.merging.with_interfaces_joined.Goals as goal

pub returns : goal.returns
returns c =
    let rules = c.args.rules.now in
    let old = c.args.groups.items in
    let sorted = c.sort_by.new.self.items in
    let all = c.deref.result.now in
    let view = c.deref-2.result.now in
    ok_weaker (λ joined. ReplacesIfAll all view joined.items) (λ joined. ReplacesAt rules old joined.items)
    (λ joined replaces. sorted_then_at rules c.in_ok-interfaces.interfaces.items all old sorted view joined.items c.in_ok-interfaces.ensures c.deref.ensures.value c.sort_by.ensures.permutation c.deref-2.ensures.value replaces)
    c.joined_interfaces.result c.joined_interfaces.ensures
