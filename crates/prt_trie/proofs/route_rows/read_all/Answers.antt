use Rattle.std.proofs.Common.{◌<◌, ◌^◌, rules, arith}
use Rattle.std.proofs.lemmas.List.Elements.{AllWithin-more, at_read}
use Rattle.prt_addr.specs.Sound.{IsPrefix}
use Rattle.prt_route.specs.declared.route.Route.{Route}
use Rattle.prt_trie.proofs.route_rows.read_all.Goals as goal

pub loop-row-preserved : goal.loop-row-preserved
loop-row-preserved c = record {
  prefixes = AllWithin-more (λ (row : Route). IsPrefix row.prefix) c.args.rows.now 0 c.loop-row.row-index c.loop-row.invariant.prefixes (at_read c.args.rows.now (λ (row : Route). IsPrefix row.prefix) c.loop-row.row-index c.row-item.result (search rules) c.row-item.is c.bits-bits.ensures.prefix);
  metrics = AllWithin-more (λ (row : Route). row.metric < 2 ^ 32) c.args.rows.now 0 c.loop-row.row-index c.loop-row.invariant.metrics (at_read c.args.rows.now (λ (row : Route). row.metric < 2 ^ 32) c.loop-row.row-index c.row-item.result (search rules) c.row-item.is (omega (arith, c.metric_of-metric.ensures.value, c.metric_of-metric.ensures.fits)));
}
