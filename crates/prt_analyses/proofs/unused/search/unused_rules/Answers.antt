use Rattle.std.proofs.Common.{ap, length, sym, ◌∙◌}
use Rattle.prt_analyses.specs.Unused.Steps.{all_packets, rule_place}
use Rattle.prt_analyses.proofs.Whole.{flags_fit, whole_rules}
use Rattle.prt_analyses.proofs.unused.search.unused_rules.Goals as goal

pub unmarked_rules-requires : goal.unmarked_rules-requires
unmarked_rules-requires c =
    let state = c.args.version.now in
    ap length (c.deref.ensures.value ∙ c.requires.rules) ∙ flags_fit (rule_place state) state.rules (all_packets c.args.starts.now c.args.classes.now) ∙ ap length (sym c.rules.ensures.value)

pub returns : goal.returns
returns c =
    whole_rules c.args.version.now (all_packets c.args.starts.now c.args.classes.now) c.args.used.now c.rules.result.now c.in_ok-left.left.items c.deref-2.result.now c.deref.result.now c.in_ok-unused.unused.items
    c.rules.ensures.order c.rules.ensures.value c.deref.ensures.value c.in_ok-left.ensures c.deref-2.ensures.value c.in_ok-unused.ensures c.requires
