use Rattle.std.proofs.Common.{◌≡◌, true, false, rules, arith, sym, ap, ◌∙◌}
use Rattle.std.specs.List.Sorted.{IsPartitionPoint}
use Rattle.std.proofs.lemmas.List.Sorted.{IsPartitionPoint-from_clause}
use Rattle.prt_route.specs.declared.route.Route.{Route}
use Rattle.prt_trie.specs.Table.{has_same_key}
use Rattle.prt_diff.proofs.Finds.{IsBefore, finds_it, finds_none, is_in_at, keys_tell, none_has_key, parted}
use Rattle.prt_diff.proofs.routes.find_same_key.Goals as goal

pub returns-in_err-other : goal.returns-in_err-other
returns-in_err-other c =
    let point : IsPartitionPoint (λ y. IsBefore c.args.route.now y ≡ true) (λ y. IsBefore c.args.route.now y ≡ false) c.args.routes.now c.partition_point-place.result =
    IsPartitionPoint-from_clause (IsBefore c.args.route.now) c.args.routes.now c.partition_point-place.result c.partition_point-place.ensures.partitioned
    (parted c.args.route.now c.args.routes.now c.requires)
    (λ a r f' k. search rules) in
    let past = c.in_err-other.ensures.lookup in
    c.from_residual.ensures ∙ sym (finds_none (λ (other : Route). has_same_key other c.args.route.now) c.args.routes.now (none_has_key c.args.route.now c.args.routes.now c.partition_point-place.result c.requires point (λ d inside. absurd (omega (arith, past.3)))))

pub returns-then-eq : goal.returns-then-eq
returns-then-eq c =
    let at = c.in_ok-other.ensures.lookup in
    sym (finds_it c.args.route.now c.in_ok-other.other.now c.args.routes.now c.requires (is_in_at c.args.routes.now c.partition_point-place.result c.in_ok-other.other.now at.3.0 at.1)
    (sym (keys_tell c.in_ok-other.other.now c.args.route.now c.key.result c.key-2.result c.eq.result c.key.ensures c.key-2.ensures c.eq.ensures) ∙ c.if-eq.true))

pub returns-else-eq : goal.returns-else-eq
returns-else-eq c =
    let point : IsPartitionPoint (λ y. IsBefore c.args.route.now y ≡ true) (λ y. IsBefore c.args.route.now y ≡ false) c.args.routes.now c.partition_point-place.result =
    IsPartitionPoint-from_clause (IsBefore c.args.route.now) c.args.routes.now c.partition_point-place.result c.partition_point-place.ensures.partitioned
    (parted c.args.route.now c.args.routes.now c.requires)
    (λ a r f' k. search rules) in
    let at = c.in_ok-other.ensures.lookup in
    sym (finds_none (λ (other : Route). has_same_key other c.args.route.now) c.args.routes.now (none_has_key c.args.route.now c.args.routes.now c.partition_point-place.result c.requires point
    (λ d inside. ap (λ one. has_same_key one c.args.route.now) (sym (at.3.1 d)) ∙ sym (keys_tell c.in_ok-other.other.now c.args.route.now c.key.result c.key-2.result c.eq.result c.key.ensures c.key-2.ensures c.eq.ensures) ∙ c.if-eq.false)))
