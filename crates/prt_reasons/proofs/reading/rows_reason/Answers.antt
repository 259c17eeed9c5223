use Rattle.std.proofs.Common.{Ok}
use Rattle.sqlite.specs.Held.{state}
use Rattle.prt_store.proofs.Loads.{handed_over, made_shown}
use Rattle.prt_reasons.specs.IsReason.{IsReasonIfAny}
use Rattle.prt_reasons.proofs.Readings.{reads_shown}
use Rattle.prt_reasons.proofs.Reasons.{explained_if_any}
use Rattle.prt_reasons.proofs.reading.rows_reason.Goals as goal

pub returns-in_err-rows : goal.returns-in_err-rows
returns-in_err-rows g c =
    reads_shown g.S.Store (λ reason. reason) IsReasonIfAny c.args.conn.now c.all_rows.new.conn c.from_residual.result (handed_over g.S.Store c.in_err-rows.field-0.0 c.from_residual.result c.from_residual.ensures.1 c.in_err-rows.ensures (λ none. none))

pub returns : goal.returns
returns g c =
    let old = c.args.conn.now in
    let rows = c.in_ok-rows.rows in
    reads_shown g.S.Store (λ reason. reason) IsReasonIfAny old c.all_rows.new.conn (Ok c.reason_in.result)
    (made_shown g.S.Store {None = ⊥} rows c.in_ok-rows.ensures (Ok c.reason_in.result) (λ all tables sound. explained_if_any (state g.S.Store old).now rows (all tables sound) c.reason_in.result c.reason_in.ensures) tt (λ all none. none))
