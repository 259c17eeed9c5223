use Rattle.std.proofs.Common.{refl, arith, ap, sym, ◌∙◌}
use Rattle.std.specs.List.{list_all}
use Rattle.prt_version.specs.Ordered.{is_rule_of}
use Rattle.prt_version.proofs.FromRows.{alike_rules, moved_thrice, passed_rules, same_ids}
use Rattle.prt_version.proofs.from_rows.ordered_rules.Goals as goal
use Rattle.prt_version.proofs.from_rows.ordered_rules.Goals.{then-not-are_unlike-via-then-not-are_unlike, then-not-are_unlike-via-else-not-are_unlike+then-not-have_distinct_ids}

pub returns-then-not-are_unlike-clause-reason : goal.returns-then-not-are_unlike-clause-reason
returns-then-not-are_unlike-clause-reason c = (
  refl,
  elim c.then-not-are_unlike.branch [
    | then-not-are_unlike-via-then-not-are_unlike w ↦ alike_rules c.args.number c.args.rules.items c.are_unlike.new.rules.items c.are_unlike.result c.are_unlike.ensures.moved c.are_unlike.ensures.value w.if-not-are_unlike.true
    | then-not-are_unlike-via-else-not-are_unlike+then-not-have_distinct_ids w ↦ same_ids c.args.number c.args.rules.items c.are_unlike.new.rules.items w.have_distinct_ids.new.rules.items w.have_distinct_ids.result c.are_unlike.ensures.moved w.have_distinct_ids.ensures.moved w.have_distinct_ids.ensures.value w.if-not-have_distinct_ids.true
  ],
)

pub returns-clause-same : goal.returns-clause-same
returns-clause-same c = moved_thrice c.args.rules.items c.are_unlike.new.rules.items c.have_distinct_ids.new.rules.items c.sort_rules.new.rules.items c.are_unlike.ensures.moved c.have_distinct_ids.ensures.moved c.sort_rules.ensures.moved

pub returns-clause-value : goal.returns-clause-value
returns-clause-value c = (
  passed_rules c.args.number c.args.rules.items c.are_unlike.new.rules.items c.have_distinct_ids.new.rules.items c.sort_rules.new.rules.items c.are_unlike.ensures.moved c.have_distinct_ids.ensures.moved c.sort_rules.ensures.moved
      (omega arith)
      (sym (ap (list_all (is_rule_of c.args.number)) c.deref.ensures.value) ∙ sym c.are_rules_of.ensures ∙ c.if-not-are_rules_of.false)
      (c.are_unlike.ensures.value.0 c.if-not-are_unlike.false)
      (c.have_distinct_ids.ensures.value.0 c.if-not-have_distinct_ids.false),
  c.sort_rules.ensures.order,
)
