use Rattle.std.proofs.Common.{ap, subst, ◌∙◌}
use Rattle.prt_partition.specs.Classes.{IsPacket}
use Rattle.prt_analyses.specs.Unused.Steps.{mark_at, route_place, rule_place}
use Rattle.prt_analyses.proofs.Loops.{each_start, marked_start}
use Rattle.prt_analyses.proofs.unused.used.mark_class.Goals as goal

pub loop-start-preserved : goal.loop-start-preserved
loop-start-preserved c =
    let state = c.args.version.now in
    let starts = c.args.starts.now in
    let class = c.args.class.now in
    let i = c.loop-start.start-index in
    let was = c.loop-start.used in
    let is = c.mark_packet.new.used in
    record {
      rules = marked_start (rule_place state) was.rules.items is.rules.items _ starts class i c.loop-start-test.true
          (c.mark_packet.ensures.rules ∙ ap (λ p. mark_at was.rules.items (rule_place state p)) c.to.ensures.value) c.loop-start.invariant.rules;
      routes = marked_start (route_place state) was.routes.items is.routes.items _ starts class i c.loop-start-test.true
          (c.mark_packet.ensures.routes ∙ ap (λ p. mark_at was.routes.items (route_place state p)) c.to.ensures.value) c.loop-start.invariant.routes;
      rule_flags = c.mark_packet.ensures.rule_flags;
      route_flags = c.mark_packet.ensures.route_flags;
      packets = each_start IsPacket starts class i c.loop-start-test.true c.loop-start.invariant.packets (subst IsPacket c.to.ensures.value c.to.ensures.fits);
    }
