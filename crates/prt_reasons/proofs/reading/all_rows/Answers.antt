use Rattle.std.proofs.Common.{Err, List, Ok}
use Rattle.sqlite.specs.Effect.{Database}
use Rattle.sqlite_value.specs.Order.{Row}
use Rattle.prt_store.proofs.Loads.{handed_over, made_shown}
use Rattle.prt_reasons.specs.Shows.{ShowsRows}
use Rattle.prt_reasons.specs.declared.reason.DatabaseTable.TheVariants as ours
use Rattle.prt_reasons.proofs.Readings.{next_shown}
use Rattle.prt_reasons.proofs.reading.all_rows.Goals as goal

-- what the first reads returned
abbrev One : List Row → Database → Type 0
One meta db = ShowsRows ours.Meta db meta

abbrev Two : List Row → List Row → Database → Type 0
Two meta rules db = One meta db × ShowsRows ours.Rule db rules

abbrev Three : List Row → List Row → List Row → Database → Type 0
Three meta rules lengths db = Two meta rules db × ShowsRows ours.Suppress db lengths

pub returns-in_err-meta : goal.returns-in_err-meta
returns-in_err-meta g c = handed_over g.S.Store c.in_err-meta.field-0.0 c.from_residual.result c.from_residual.ensures.1 c.in_err-meta.ensures (λ none. none)

pub returns-in_err-rules : goal.returns-in_err-rules
returns-in_err-rules g c =
    let reason = c.in_err-rules.field-0.0 in
    let meta = c.in_ok-meta.meta in
    handed_over g.S.Store reason c.from_residual-in_err-rules.result c.from_residual-in_err-rules.ensures.1 (next_shown g.S.Store c.args.conn.now (One meta.items) ours.Rule meta c.in_ok-meta.ensures (λ it. it) (Err reason) c.in_err-rules.ensures) (λ none. none)

pub returns-in_err-lengths : goal.returns-in_err-lengths
returns-in_err-lengths g c =
    let start = c.args.conn.now in
    let reason = c.in_err-lengths.field-0.0 in
    let meta = c.in_ok-meta.meta in
    let rules = c.in_ok-rules.rules in
    let two = next_shown g.S.Store start (One meta.items) ours.Rule meta c.in_ok-meta.ensures (λ it. it) (Ok rules) c.in_ok-rules.ensures in
    handed_over g.S.Store reason c.from_residual-in_err-lengths.result c.from_residual-in_err-lengths.ensures.1 (next_shown g.S.Store start (Two meta.items rules.items) ours.Suppress rules two (λ it. it) (Err reason) c.in_err-lengths.ensures) (λ none. none)

pub returns-in_err-routes : goal.returns-in_err-routes
returns-in_err-routes g c =
    let start = c.args.conn.now in
    let reason = c.in_err-routes.field-0.0 in
    let meta = c.in_ok-meta.meta in
    let rules = c.in_ok-rules.rules in
    let lengths = c.in_ok-lengths.lengths in
    let two = next_shown g.S.Store start (One meta.items) ours.Rule meta c.in_ok-meta.ensures (λ it. it) (Ok rules) c.in_ok-rules.ensures in
    let three = next_shown g.S.Store start (Two meta.items rules.items) ours.Suppress rules two (λ it. it) (Ok lengths) c.in_ok-lengths.ensures in
    handed_over g.S.Store reason c.from_residual-in_err-routes.result c.from_residual-in_err-routes.ensures.1
    (next_shown g.S.Store start (Three meta.items rules.items lengths.items) ours.Route lengths three (λ it. it) (Err reason) c.in_err-routes.ensures) (λ none. none)

pub returns : goal.returns
returns g c =
    let start = c.args.conn.now in
    let meta = c.in_ok-meta.meta in
    let rules = c.in_ok-rules.rules in
    let lengths = c.in_ok-lengths.lengths in
    let routes = c.in_ok-routes.routes in
    let two = next_shown g.S.Store start (One meta.items) ours.Rule meta c.in_ok-meta.ensures (λ it. it) (Ok rules) c.in_ok-rules.ensures in
    let three = next_shown g.S.Store start (Two meta.items rules.items) ours.Suppress rules two (λ it. it) (Ok lengths) c.in_ok-lengths.ensures in
    let four = next_shown g.S.Store start (Three meta.items rules.items lengths.items) ours.Route lengths three (λ it. it) (Ok routes) c.in_ok-routes.ensures in
    made_shown g.S.Store {None = ⊥} routes four (Ok (record { meta = meta; rules = rules; lengths = lengths; routes = routes }))
    (λ all tables sound. let it = all tables sound in record { meta = it.0.0.0; rules = it.0.0.1; lengths = it.0.1; routes = it.1 }) tt (λ all none. none)
