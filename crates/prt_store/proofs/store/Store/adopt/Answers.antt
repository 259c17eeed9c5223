use Rattle.std.proofs.Common.{inr, sym, ap, ◌∙◌}
use Rattle.sqlite.specs.Effect.{Database}
use Rattle.sqlite.specs.Held.{state}
use Rattle.prt_store.proofs.Anywhere.{keeps_or_fills}
use Rattle.prt_store.proofs.Adoptions.{migrated_stores, opening_stored, stored_still}
use Rattle.prt_store.proofs.store.Store.adopt.Goals as goal

pub returns-in-Ok-clause-ok : goal.returns-in-Ok-clause-ok
returns-in-Ok-clause-ok g c clean tables = (c.in-Ok.ensures.opens.ok clean tables).0

pub returns-in-Ok-clause-stored : goal.returns-in-Ok-clause-stored
returns-in-Ok-clause-stored g c clean stored held =
    stored_still (state g.S.Store c.args.conn).now (state g.S.Store c.open_tables.new.conn).now stored (c.in-Ok.ensures.opens.ok clean (inr (inr (inr (inr held.tables))))).0 held

pub returns-in-Ok-clause-format_1 : goal.returns-in-Ok-clause-format_1
returns-in-Ok-clause-format_1 g c clean stored held =
    migrated_stores (state g.S.Store c.args.conn).now (state g.S.Store c.open_tables.new.conn).now stored (c.in-Ok.ensures.opens.ok clean (inr (inr (inr held.tables)))).0 held

pub returns-in-Ok-clause-opening : goal.returns-in-Ok-clause-opening
returns-in-Ok-clause-opening g c clean tables empty = opening_stored (state g.S.Store c.args.conn).now (state g.S.Store c.open_tables.new.conn).now (c.in-Ok.ensures.opens.ok clean tables).0 empty

pub returns-in-Ok-clause-at_rest : goal.returns-in-Ok-clause-at_rest
returns-in-Ok-clause-at_rest g c is_open =
    let settled = c.in-Ok.ensures.settled is_open in
    record { settled = settled; crash = λ trees leaves. g.met.S.Store.settled c.open_tables.new.conn.store trees is_open leaves ∙ ap (λ (d : Database). d.trees) (sym settled.committed) }

pub returns-in-Ok-clause-crash_ok : goal.returns-in-Ok-clause-crash_ok
returns-in-Ok-clause-crash_ok g c clean tables = (returns-in-Ok-clause-at_rest g c (c.in-Ok.ensures.opens.ok clean tables).1.is_open).crash

pub returns-in-Ok-clause-same : goal.returns-in-Ok-clause-same
returns-in-Ok-clause-same g c clean tables = keeps_or_fills g.S.Store c.args.conn c.open_tables.new.conn tables (c.in-Ok.ensures.does clean)

pub returns-in-Ok-clause-other_columns : goal.returns-in-Ok-clause-other_columns
returns-in-Ok-clause-other_columns g c others = absurd (let no = (c.in-Ok.ensures.other_columns others).0 in cc)

pub returns-in-Err-clause-other_columns : goal.returns-in-Err-clause-other_columns
returns-in-Err-clause-other_columns g c others = (c.in-Err.ensures.other_columns others).1

pub returns-in-Ok-clause-settled : goal.returns-in-Ok-clause-settled
returns-in-Ok-clause-settled g c clean tables = (c.in-Ok.ensures.opens.ok clean tables).1
