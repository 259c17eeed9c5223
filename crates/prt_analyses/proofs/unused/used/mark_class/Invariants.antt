use Rattle.std.proofs.Common.{◌≡◌, drop, length, take}
use Rattle.std.specs.List.{AllByRecursion as Each}
use Rattle.prt_partition.specs.Classes.{IsPacket}
use Rattle.prt_analyses.specs.Unused.Steps.{marked, packets_to, route_place, rule_place}
use Rattle.prt_analyses.proofs.unused.used.mark_class.Given as goal

abbrev pub invariant-loop-start : goal.invariant-loop-start
invariant-loop-start l = record {
  rules : marked (rule_place l.version) l.used.rules.items (packets_to (drop l.start-index l.starts) l.class) ≡ marked (rule_place l.version) l.fn.used.rules.items (packets_to l.starts l.class);
  routes : marked (route_place l.version) l.used.routes.items (packets_to (drop l.start-index l.starts) l.class) ≡ marked (route_place l.version) l.fn.used.routes.items (packets_to l.starts l.class);
  rule_flags : length l.used.rules.items ≡ length l.version.rules;
  route_flags : length l.used.routes.items ≡ length l.version.routes;
  packets : Each IsPacket (packets_to (take l.start-index l.starts) l.class);
}
