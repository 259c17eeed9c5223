use Rattle.std.proofs.Common.{[]}
use Rattle.prt_rows.specs.Kept.{id_values}
use Rattle.prt_rows.specs.RouteRow.{route_row}
use Rattle.prt_rows.specs.Statements.{delete_rule, flush_rules, insert_route}
use Rattle.prt_store.proofs.Transactions.{statement_works}
use Rattle.prt_store.proofs.commit.write.Goals as goal

pub returns-in-Route-clause-works : goal.returns-in-Route-clause-works
returns-in-Route-clause-works g c = rw c.in-Route.is c.edit_routes.ensures.works

pub returns-in-RouteAdd-clause-works : goal.returns-in-RouteAdd-clause-works
returns-in-RouteAdd-clause-works g c =
    rw c.in-RouteAdd.is
    (statement_works g.S.Store insert_route (route_row c.in-RouteAdd.route) c.args.tx.now.conn.now c.insert_route.new.tx.conn.now c.insert_route.result c.insert_route.ensures.runs c.insert_route.ensures.survives)

pub returns-in-RulePut-clause-works : goal.returns-in-RulePut-clause-works
returns-in-RulePut-clause-works g c = rw c.in-RulePut.is c.add_rule.ensures.works

pub returns-in-RuleDrop-clause-works : goal.returns-in-RuleDrop-clause-works
returns-in-RuleDrop-clause-works g c =
    rw c.in-RuleDrop.is
    (statement_works g.S.Store delete_rule (id_values c.in-RuleDrop.id) c.args.tx.now.conn.now c.delete_rule.new.tx.conn.now c.delete_rule.result c.delete_rule.ensures.runs c.delete_rule.ensures.survives)

pub returns-in-RuleFlush-clause-works : goal.returns-in-RuleFlush-clause-works
returns-in-RuleFlush-clause-works g c =
    rw c.in-RuleFlush.is
    (statement_works g.S.Store flush_rules [] c.args.tx.now.conn.now c.flush_rules.new.tx.conn.now c.flush_rules.result c.flush_rules.ensures.runs c.flush_rules.ensures.survives)

pub returns-in-Route-clause-typed : goal.returns-in-Route-clause-typed
returns-in-Route-clause-typed g c = rw c.in-Route.is c.edit_routes.ensures.typed

pub returns-in-RouteAdd-clause-typed : goal.returns-in-RouteAdd-clause-typed
returns-in-RouteAdd-clause-typed g c = rw c.in-RouteAdd.is c.insert_route.ensures.typed

pub returns-in-RulePut-clause-typed : goal.returns-in-RulePut-clause-typed
returns-in-RulePut-clause-typed g c = rw c.in-RulePut.is c.add_rule.ensures.typed

pub returns-in-RulePut-clause-fails : goal.returns-in-RulePut-clause-fails
returns-in-RulePut-clause-fails g c = rw c.in-RulePut.is c.add_rule.ensures.fails
