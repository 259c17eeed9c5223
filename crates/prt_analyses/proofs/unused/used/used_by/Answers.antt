use Rattle.std.proofs.Common.{false, ap, ◌∙◌}
use Rattle.std.specs.Prelude.{map}
use Rattle.prt_analyses.specs.Unused.Steps.{all_packets, marked, route_place, rule_place}
use Rattle.prt_analyses.proofs.Samples.{samples}
use Rattle.prt_analyses.proofs.unused.used.used_by.Goals as goal

pub returns : goal.returns
returns c =
    let state = c.args.version.now in
    let all = all_packets c.args.starts.now c.args.classes.now in
    record {
      packets = c.mark_classes.ensures.packets;
      samples = samples state c.args.classes.now c.args.starts.now c.requires.classes c.requires.starts;
      rules = c.mark_classes.ensures.rules ∙ ap (λ flags. marked (rule_place state) flags all) (c.in_ok-rules.ensures ∙ ap (map (λ rule. false)) c.rules.ensures.value);
      routes = c.mark_classes.ensures.routes ∙ ap (λ flags. marked (route_place state) flags all) (c.in_ok-flags.ensures ∙ ap (map (λ route. false)) c.requires.routes);
    }
