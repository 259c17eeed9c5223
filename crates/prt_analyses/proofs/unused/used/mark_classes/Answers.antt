use Rattle.prt_partition.specs.Classes.{IsPacket}
use Rattle.prt_analyses.specs.Unused.Steps.{route_place, rule_place}
use Rattle.prt_analyses.proofs.Loops.{each_class, marked_class}
use Rattle.prt_analyses.proofs.unused.used.mark_classes.Goals as goal

pub loop-class-preserved : goal.loop-class-preserved
loop-class-preserved c =
    let state = c.args.version.now in
    let starts = c.args.starts.now in
    let classes = c.args.classes.now in
    let class = c.class-item.result in
    let i = c.loop-class.class-index in
    let was = c.loop-class.used in
    let is = c.mark_class.new.used in
    record {
      rules = marked_class (rule_place state) was.rules.items is.rules.items _ starts classes class i c.loop-class-test.true c.class-item.is c.mark_class.ensures.rules c.loop-class.invariant.rules;
      routes = marked_class (route_place state) was.routes.items is.routes.items _ starts classes class i c.loop-class-test.true c.class-item.is c.mark_class.ensures.routes c.loop-class.invariant.routes;
      rule_flags = c.mark_class.ensures.rule_flags;
      route_flags = c.mark_class.ensures.route_flags;
      packets = each_class IsPacket starts classes class i c.loop-class-test.true c.class-item.is c.loop-class.invariant.packets c.mark_class.ensures.packets;
    }
