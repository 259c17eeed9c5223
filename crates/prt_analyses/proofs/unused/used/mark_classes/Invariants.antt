use Rattle.std.proofs.Common.{◌≡◌, drop, length, take}
use Rattle.std.specs.List.{AllByRecursion as Each}
use Rattle.prt_partition.specs.Classes.{IsPacket}
use Rattle.prt_analyses.specs.Unused.Steps.{all_packets, marked, route_place, rule_place}
use Rattle.prt_analyses.proofs.unused.used.mark_classes.Given as goal

abbrev pub invariant-loop-class : goal.invariant-loop-class
invariant-loop-class l = record {
  rules : marked (rule_place l.version) l.used.rules.items (all_packets l.starts (drop l.class-index l.classes)) ≡ marked (rule_place l.version) l.fn.used.rules.items (all_packets l.starts l.classes);
  routes : marked (route_place l.version) l.used.routes.items (all_packets l.starts (drop l.class-index l.classes)) ≡ marked (route_place l.version) l.fn.used.routes.items (all_packets l.starts l.classes);
  rule_flags : length l.used.rules.items ≡ length l.version.rules;
  route_flags : length l.used.routes.items ≡ length l.version.routes;
  packets : Each IsPacket (all_packets l.starts (take l.class-index l.classes));
}
