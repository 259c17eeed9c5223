use Rattle.std.proofs.Common.{[], subst, sym}
use Rattle.std.proofs.lemmas.Result.{IfOk-weaker}
use Rattle.sqlite.specs.Held.{state}
use Rattle.sqlite.specs.State.{Shown}
use Rattle.prt_rows.proofs.Quiet.{quiet_read_rules}
use Rattle.prt_rows.specs.RuleRow.{IsRule, rule_row}
use Rattle.prt_rows.specs.Statements.{read_rules}
use Rattle.prt_store.proofs.Shown.{nothing_read, rows_read, rules_shown}
use Rattle.prt_store.proofs.load.read_rules.Goals as goal

pub returns-in-Ok : goal.returns-in-Ok
returns-in-Ok g c =
    let old = state g.S.Store c.args.conn.now in
    let new = state g.S.Store c.query_all.new.self in
    rows_read g.S.Store c.args.conn.now c.query_all.new.self read_rules (quiet_read_rules old.now.schema) c.query_all.ensures.survives rule_row (IsRule c.args.last) (λ row. row) c.as_slice.result.now c.rules_of_rows.result
    (λ clean. subst (Shown read_rules [] old new) (sym c.as_slice.ensures.value) (c.in-Ok.ensures.ok clean)) c.rules_of_rows.ensures.rise
    (IfOk-weaker c.rules_of_rows.result _ _ (λ rules read shown rise. rules_shown g.S.Store c.args.conn.now c.as_slice.result.now c.args.last rules.items read shown rise) c.rules_of_rows.ensures.ok)
    c.rules_of_rows.ensures.err

pub returns-in-Err : goal.returns-in-Err
returns-in-Err g c =
    nothing_read g.S.Store c.args.conn.now c.query_all.new.self read_rules (quiet_read_rules (state g.S.Store c.args.conn.now).now.schema) c.query_all.ensures.survives c.in-Err.field-0 c.in-Err.ensures.err
