use Rattle.std.proofs.Common.{[], Err, Ok, inl, refl, subst, sym}
use Rattle.sqlite.specs.Held.{state}
use Rattle.sqlite.specs.State.{HasCleanDisk, Shown}
use Rattle.prt_refusals.specs.declared.refusal.Refusal.TheVariants.{Damaged}
use Rattle.prt_rows.proofs.Quiet.{quiet_read_meta, shown_unchanged}
use Rattle.prt_rows.specs.Statements.{read_meta}
use Rattle.prt_store.proofs.Loads.{shown_only}
use Rattle.prt_store.proofs.Shown.{count_shown, nothing_read}
use Rattle.prt_store.proofs.load.read_count.Goals as goal

pub returns-in-Some-clause-read : goal.returns-in-Some-clause-read
returns-in-Some-clause-read g c =
    let start = c.args.conn.now in
    let end = c.query_all.new.self in
    let rows = c.as_slice.result.now in
    let shown = λ (clean : HasCleanDisk (state g.S.Store end)). subst (Shown read_meta [] (state g.S.Store start) (state g.S.Store end)) (sym c.as_slice.ensures.value) (c.in-Ok.ensures.ok clean) in
    record {
      shown = λ clean. count_shown g.S.Store start rows c.in-Some.count (start, end, refl, shown clean) c.in-Some.ensures;
      damage = λ clean. tt;
      only = shown_only g.S.Store start end read_meta (quiet_read_meta (state g.S.Store start).now.schema) c.query_all.ensures.survives rows (Ok c.in-Some.count) shown tt;
    }

pub returns-in-Ok-clause-read : goal.returns-in-Ok-clause-read
returns-in-Ok-clause-read g c =
    let start = c.args.conn.now in
    let end = c.query_all.new.self in
    let rows = c.as_slice.result.now in
    let quiet = quiet_read_meta (state g.S.Store start).now.schema in
    let shown = λ (clean : HasCleanDisk (state g.S.Store end)). subst (Shown read_meta [] (state g.S.Store start) (state g.S.Store end)) (sym c.as_slice.ensures.value) (c.in-Ok.ensures.ok clean) in
    record {
      shown = λ clean. tt;
      damage = λ clean told. ((shown_unchanged read_meta (state g.S.Store start) (state g.S.Store end) quiet rows (shown clean)).0.was_open, (rows, (start, end, refl, shown clean), c.in-None.ensures));
      only = shown_only g.S.Store start end read_meta quiet c.query_all.ensures.survives rows (Err Damaged) shown (inl refl);
    }

pub returns-clause-read : goal.returns-clause-read
returns-clause-read g c =
    nothing_read g.S.Store c.args.conn.now c.query_all.new.self read_meta (quiet_read_meta (state g.S.Store c.args.conn.now).now.schema) c.query_all.ensures.survives c.in-Err.field-0 c.in-Err.ensures.err
