use Rattle.std.proofs.Common.{ap, subst, sym, ◌∙◌}
use Rattle.std.specs.List.{list_any}
use Rattle.prt_analyses.specs.Unused.Steps.{is_lookup_of}
use Rattle.prt_analyses.specs.Unused.{AllMiss}
use Rattle.prt_analyses.proofs.WhyUnused.{a_rule, no_rule}
use Rattle.prt_analyses.proofs.unused.reasons.route_reason.Goals as goal

pub returns-then-not-is_looked_up : goal.returns-then-not-is_looked_up
returns-then-not-is_looked_up c =
    let table = c.args.route.now.table in
    no_rule c.args.version.now.rules table (ap (list_any (is_lookup_of table)) (sym c.rules-rules.ensures.value) ∙ sym c.is_looked_up.ensures ∙ c.if-not-is_looked_up.true)

pub returns-in-None : goal.returns-in-None
returns-in-None c =
    let table = c.args.route.now.table in
    let rules = c.args.version.now.rules in (
      a_rule rules table (ap (list_any (is_lookup_of table)) (sym c.rules-rules.ensures.value) ∙ sym c.is_looked_up.ensures ∙ c.if-not-is_looked_up.false),
      subst (λ rs. AllMiss rs c.args.route.now) c.rules-rules.ensures.value c.in-None.ensures,
    )
