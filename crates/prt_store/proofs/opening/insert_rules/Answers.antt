use Rattle.std.proofs.Common.{List, Ok, ap, get_or, subst}
use Rattle.prt_route.specs.Names.{default_table, local_table, main_table}
use Rattle.prt_rows.specs.RuleRow.{rule_row}
use Rattle.prt_rows.specs.Statements.{insert_rule}
use Rattle.prt_rule.specs.declared.rule.Rule.{Rule}
use Rattle.prt_store.proofs.Transactions.{works_then}
use Rattle.prt_store.specs.Openings.{InTurn, InsertsRule, Ran, Works}
use Rattle.prt_store.proofs.opening.insert_rules.Goals as goal

pub returns-clause-works : goal.returns-clause-works
returns-clause-works g c =
    let local = InsertsRule g.S.Store 1 0 local_table in
    let main = InsertsRule g.S.Store 2 32766 main_table in
    let default = InsertsRule g.S.Store 3 32767 default_table in
    let start = c.args.tx.now.conn.now in
    let first = c.insert_opening_rule.new.tx.conn.now in
    let second = c.insert_opening_rule-2.new.tx.conn.now in
    let third = c.insert_opening_rule-3.new.tx.conn.now in
    let last = c.insert_opening_rule-3.result in
    let one = subst (λ (rule : Rule). Works g.S.Store (Ran g.S.Store insert_rule (rule_row rule)) start first (Ok c.in_ok-insert_opening_rule.field-0)) (ap (λ (rules : List Rule). get_or rules 0 c.index-opening_rules-0.result) c.opening_rules.ensures) c.in_ok-insert_opening_rule.ensures.works in
    let two = subst (λ (rule : Rule). Works g.S.Store (Ran g.S.Store insert_rule (rule_row rule)) first second (Ok c.in_ok-insert_opening_rule-2.field-0)) (ap (λ (rules : List Rule). get_or rules 1 c.index-opening_rules-1.result) c.opening_rules.ensures) c.in_ok-insert_opening_rule-2.ensures.works in
    let three = subst (λ (rule : Rule). Works g.S.Store (Ran g.S.Store insert_rule (rule_row rule)) second third last) (ap (λ (rules : List Rule). get_or rules 2 c.index-opening_rules-2.result) c.opening_rules.ensures) c.insert_opening_rule-3.ensures.works in
    works_then g.S.Store local (InTurn main default) start first third c.in_ok-insert_opening_rule.field-0 last one
    (works_then g.S.Store main default first second third c.in_ok-insert_opening_rule-2.field-0 last two three)
