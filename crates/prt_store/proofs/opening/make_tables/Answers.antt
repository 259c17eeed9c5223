use Rattle.std.proofs.Common.{Err, Ok}
use Rattle.prt_rows.specs.Format.{BeginsFormat2, BeginsWithMeta, BeginsWithRoutes, BeginsWithRules, IsFormat2}
use Rattle.prt_store.proofs.Anywhere.{tables_made}
use Rattle.prt_store.proofs.Openings.{advances_not, advances_then, meta_made, routes_made, rules_made, suppress_made}
use Rattle.prt_store.proofs.opening.make_tables.Goals as goal

pub returns-in_err-make_missing-clause-advances : goal.returns-in_err-make_missing-clause-advances
returns-in_err-make_missing-clause-advances g c =
    advances_not g.S.Store BeginsFormat2 BeginsWithRules IsFormat2 c.args.conn.now c.make_missing.new.conn c.in_err-make_missing.field-0.0 c.from_residual.result c.from_residual.ensures.0
    (rules_made g.S.Store c.args.conn.now c.make_missing.new.conn (Err c.in_err-make_missing.field-0.0) c.in_err-make_missing.ensures.makes)

pub returns-in_err-make_missing-2-clause-advances : goal.returns-in_err-make_missing-2-clause-advances
returns-in_err-make_missing-2-clause-advances g c =
    let start = c.args.conn.now in
    let first = c.make_missing.new.conn in
    let second = c.make_missing-2.new.conn in
    advances_not g.S.Store BeginsFormat2 BeginsWithRoutes IsFormat2 start second c.in_err-make_missing-2.field-0.0 c.from_residual-in_err-make_missing-2.result c.from_residual-in_err-make_missing-2.ensures.0
    (advances_then g.S.Store BeginsFormat2 BeginsWithRules BeginsWithRoutes start first second (Err c.in_err-make_missing-2.field-0.0) (rules_made g.S.Store start first (Ok tt) c.in_ok-make_missing.ensures.makes)
    (routes_made g.S.Store first second (Err c.in_err-make_missing-2.field-0.0) c.in_err-make_missing-2.ensures.makes))

pub returns-in_err-make_missing-3-clause-advances : goal.returns-in_err-make_missing-3-clause-advances
returns-in_err-make_missing-3-clause-advances g c =
    let start = c.args.conn.now in
    let first = c.make_missing.new.conn in
    let second = c.make_missing-2.new.conn in
    let third = c.make_missing-3.new.conn in
    let two = advances_then g.S.Store BeginsFormat2 BeginsWithRules BeginsWithRoutes start first second (Ok tt) (rules_made g.S.Store start first (Ok tt) c.in_ok-make_missing.ensures.makes)
    (routes_made g.S.Store first second (Ok tt) c.in_ok-make_missing-2.ensures.makes) in
    advances_not g.S.Store BeginsFormat2 BeginsWithMeta IsFormat2 start third c.in_err-make_missing-3.field-0.0 c.from_residual-in_err-make_missing-3.result c.from_residual-in_err-make_missing-3.ensures.0
    (advances_then g.S.Store BeginsFormat2 BeginsWithRoutes BeginsWithMeta start second third (Err c.in_err-make_missing-3.field-0.0) two
    (meta_made g.S.Store second third (Err c.in_err-make_missing-3.field-0.0) c.in_err-make_missing-3.ensures.makes))

pub returns-clause-advances : goal.returns-clause-advances
returns-clause-advances g c =
    let start = c.args.conn.now in
    let first = c.make_missing.new.conn in
    let second = c.make_missing-2.new.conn in
    let third = c.make_missing-3.new.conn in
    let fourth = c.make_missing-4.new.conn in
    let two = advances_then g.S.Store BeginsFormat2 BeginsWithRules BeginsWithRoutes start first second (Ok tt) (rules_made g.S.Store start first (Ok tt) c.in_ok-make_missing.ensures.makes)
    (routes_made g.S.Store first second (Ok tt) c.in_ok-make_missing-2.ensures.makes) in
    let three = advances_then g.S.Store BeginsFormat2 BeginsWithRoutes BeginsWithMeta start second third (Ok tt) two (meta_made g.S.Store second third (Ok tt) c.in_ok-make_missing-3.ensures.makes) in
    advances_then g.S.Store BeginsFormat2 BeginsWithMeta IsFormat2 start third fourth c.make_missing-4.result three (suppress_made g.S.Store third fourth c.make_missing-4.result c.make_missing-4.ensures.makes)

pub returns-clause-makes : goal.returns-clause-makes
returns-clause-makes g c clean =
    tables_made g.S.Store c.args.conn.now c.make_missing.new.conn c.make_missing-2.new.conn c.make_missing-3.new.conn c.make_missing-4.new.conn c.make_missing-4.result c.in_ok-make_missing.ensures.makes c.in_ok-make_missing-2.ensures.makes
    c.in_ok-make_missing-3.ensures.makes c.make_missing-4.ensures.makes clean
