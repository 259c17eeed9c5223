-- What the statements that read the four tables report.
use Rattle.std.proofs.Common.{List, [], Ok, Err, Result, subst}
use Rattle.std.specs.Prelude.{Vec}
use Rattle.std.specs.declared.alloc.Global.{Global}
use Rattle.sqlite.specs.Effect.{Database}
use Rattle.sqlite.specs.Held.{Held, state}
use Rattle.sqlite.specs.Listing.{understood}
use Rattle.sqlite.specs.Schema.{Schema}
use Rattle.sqlite.specs.Store.{Ghosts}
use Rattle.sqlite.specs.State.{Shown, State as Conn}
use Rattle.sqlite.specs.declared.rows.Row.{Row as ReadRow}
use Rattle.sqlite_value.specs.Order.{Row}
use Rattle.prt_refusals.specs.declared.refusal.Refusal.{Refusal}
use Rattle.prt_rows.proofs.Quiet.{IsQuiet, quiet_read_meta, quiet_read_routes, quiet_read_rules, quiet_read_suppress}
use Rattle.prt_rows.proofs.Reading.{reads_meta, reads_routes, reads_rules, reads_suppress}
use Rattle.prt_rows.proofs.Shapes.{meta_is_read, routes_are_read, rules_are_read, suppress_is_read}
use Rattle.prt_store.proofs.Loads.{then_shown}
use Rattle.prt_store.specs.Loaded.{ReadsShown}
use Rattle.prt_reasons.specs.Shows.{OfOurs, Reads, ShowsRows, text}
use Rattle.prt_reasons.specs.declared.reason.DatabaseTable.{DatabaseTable}
use Rattle.prt_reasons.specs.declared.reason.DatabaseTable.TheVariants as ours

-- ---- one table

-- the statements change nothing
pub quiet : (table : DatabaseTable) (schema : Schema) → IsQuiet (understood schema (text table))
quiet ours.Rule = quiet_read_rules
quiet ours.Route = quiet_read_routes
quiet ours.Meta = quiet_read_meta
quiet ours.Suppress = quiet_read_suppress

-- the rows that are shown are those of the table
pub shows : (table : DatabaseTable) (old new : Conn) (rows : List Row) → Shown (text table) [] old new rows → OfOurs (λ db. ShowsRows table db rows) old.now
shows ours.Rule old new rows shown t sound = rules_are_read t.tables t.indexes t.views old.now t.is sound rows (reads_rules t.tables t.indexes t.views old new t.is rows shown)
shows ours.Route old new rows shown t sound = routes_are_read t.tables t.indexes t.views old.now t.is sound rows (reads_routes t.tables t.indexes t.views old new t.is rows shown)
shows ours.Meta old new rows shown t sound = meta_is_read t.tables t.indexes t.views old.now t.is sound rows (reads_meta t.tables t.indexes t.views old new t.is rows shown)
shows ours.Suppress old new rows shown t sound = suppress_is_read t.tables t.indexes t.views old.now t.is sound rows (reads_suppress t.tables t.indexes t.views old new t.is rows shown)

-- ---- one table after another

-- what the first reads returned, and what the next one does
pub next_shown : {S X : Type 0} (g : Ghosts S) (start : Held S) (Before : Database → Type 0) {P : X → Type 0} {a b : Held S} (table : DatabaseTable) (x : X) → ReadsShown g P ⊥ start a (Ok x) → (P x → OfOurs Before (state g start).now) → (result : Result (Vec ReadRow Global) Refusal)
    → ReadsShown g (λ (rows : Vec ReadRow Global). OfOurs (λ db. ShowsRows table db rows.items) (state g a).now) ⊥ a b result → ReadsShown g (λ (rows : Vec ReadRow Global). OfOurs (λ db. Before db × ShowsRows table db rows.items) (state g start).now) ⊥ start b result
next_shown g start Before table x one before result next =
    then_shown g x one result next (λ same first rows it tables sound. (before first tables sound, subst (OfOurs (λ db. ShowsRows table db rows.items)) same it tables sound)) (λ same first none. none)

-- what was read of a database of ours
pub reads_shown : {S X V : Type 0} (g : Ghosts S) (seen : X → V) (Spells : Database → V → Type 0) (old new : Held S) (result : Result X Refusal) → ReadsShown g (λ value. OfOurs (λ db. Spells db (seen value)) (state g old).now) ⊥ old new result → Reads g seen Spells old new result
reads_shown g seen Spells old new (Ok value) it = record { ok = λ clean readable. it.shown clean readable.tables (readable.live (it.only.same clean).0.was_open).0; damaged = λ clean readable. tt; only = it.only }
reads_shown g seen Spells old new (Err reason) it = record { ok = λ clean readable. tt; damaged = λ clean readable told. absurd (it.damage clean told).1; only = it.only }
