use Rattle.std.proofs.Common.{◌+◌, Err, Ok, Result, drop, inl, inr}
use Rattle.std.proofs.lemmas.Result.{IfOk-weaker}
use Rattle.std.specs.Prelude.{ℕ, Vec}
use Rattle.std.specs.declared.alloc.Global.{Global}
use Rattle.sqlite.specs.Held.{Held}
use Rattle.sqlite.specs.Store.{Ghosts}
use Rattle.prt_refusals.specs.declared.refusal.Refusal.{Refusal}
use Rattle.prt_route.specs.declared.route.Route.{Route}
use Rattle.prt_rows.specs.RouteRow.{IsInRange, route_row}
use Rattle.prt_rows.specs.RuleRow.{IsRule, rule_row}
use Rattle.prt_rows.specs.Statements.{read_routes, read_rules, read_suppress}
use Rattle.prt_rows.specs.SuppressRow.{IsLength, suppress_row}
use Rattle.prt_rows.specs.declared.suppress_row.RuleLength.{RuleLength}
use Rattle.prt_rule.specs.declared.rule.Rule.{Rule}
use Rattle.prt_store.proofs.Loads.{handed_over, made_shown, then_shown}
use Rattle.prt_store.proofs.Shown.{bad_moved, lengths_moved, no_state, routes_moved, rules_moved, shows_state}
use Rattle.prt_store.specs.Loaded.{ReadsShown}
use Rattle.prt_store.specs.Shown.{ShowsBadRows, ShowsCount, ShowsDamage, ShowsLengths, ShowsNoCount, ShowsRoutes, ShowsRules}
use Rattle.prt_store.proofs.load.load.Goals as goal

-- what the first reads showed, and what is damaged if the next one fails
module _ {S : Type 0} (g : Ghosts S) (start : Held S) (count : ℕ) where
  abbrev Two : Vec Rule Global → Type 0
  Two rules = ShowsCount g start count × ShowsRules g (count + 3) start rules.items

  abbrev Three : Vec Rule Global → Vec RuleLength Global → Type 0
  Three rules lengths = Two rules × ShowsLengths g (count + 3) start lengths.items

  abbrev Four : Vec Rule Global → Vec RuleLength Global → Vec Route Global → Type 0
  Four rules lengths routes = Three rules lengths × ShowsRoutes g start routes.items

  two : {a b : Held S} → ReadsShown g (ShowsCount g start) (ShowsNoCount g start) start a (Ok count) → (result : Result (Vec Rule Global) Refusal)
      → ReadsShown g (λ (rules : Vec Rule Global). ShowsRules g (count + 3) a rules.items) (ShowsBadRows g a read_rules rule_row (IsRule (count + 3)) (λ row. row)) a b result → ReadsShown g Two (ShowsDamage g start) start b result
  two {a = a} one result next =
      then_shown g count one result next (λ same first rules it. (first, rules_moved g start a same (count + 3) rules.items it))
      (λ same first bad. inr (count, first, inl (inl (bad_moved g start a same read_rules rule_row (IsRule (count + 3)) (λ row. row) bad))))

  three : {a b : Held S} (rules : Vec Rule Global) → ReadsShown g Two (ShowsDamage g start) start a (Ok rules) → (result : Result (Vec RuleLength Global) Refusal)
      → ReadsShown g (λ (lengths : Vec RuleLength Global). ShowsLengths g (count + 3) a lengths.items) (ShowsBadRows g a read_suppress suppress_row (IsLength (count + 3)) (λ row. row)) a b result → ReadsShown g (Three rules) (ShowsDamage g start) start b result
  three {a = a} rules one result next =
      then_shown g rules one result next (λ same first lengths it. (first, lengths_moved g start a same (count + 3) lengths.items it))
      (λ same first bad. inr (count, first.0, inl (inr (inl (bad_moved g start a same read_suppress suppress_row (IsLength (count + 3)) (λ row. row) bad)))))

  four : {a b : Held S} (rules : Vec Rule Global) (lengths : Vec RuleLength Global) → ReadsShown g (Three rules) (ShowsDamage g start) start a (Ok lengths) → (result : Result (Vec Route Global) Refusal)
      → ReadsShown g (λ (routes : Vec Route Global). ShowsRoutes g a routes.items) (ShowsBadRows g a read_routes route_row IsInRange (drop 1)) a b result → ReadsShown g (Four rules lengths) (ShowsDamage g start) start b result
  four {a = a} rules lengths one result next =
      then_shown g lengths one result next (λ same first routes it. (first, routes_moved g start a same routes.items it))
      (λ same first bad. inr (count, first.0.0, inl (inr (inr (bad_moved g start a same read_routes route_row IsInRange (drop 1) bad)))))

pub returns-in_err-count : goal.returns-in_err-count
returns-in_err-count g c = handed_over g.S.Store c.in_err-count.field-0.0 c.from_residual.result c.from_residual.ensures.1 c.in_err-count.ensures.read (λ bad. inl bad)

pub returns-in_err-listed : goal.returns-in_err-listed
returns-in_err-listed g c =
    let reason = c.in_err-listed.field-0.0 in
    handed_over g.S.Store reason c.from_residual-in_err-listed.result c.from_residual-in_err-listed.ensures.1 (two g.S.Store c.args.conn.now c.in_ok-count.count c.in_ok-count.ensures.read (Err reason) c.in_err-listed.ensures) (λ bad. bad)

pub returns-in_err-lengths : goal.returns-in_err-lengths
returns-in_err-lengths g c =
    let start = c.args.conn.now in
    let count = c.in_ok-count.count in
    let rules = c.in_ok-listed.listed in
    let reason = c.in_err-lengths.field-0.0 in
    let second = two g.S.Store start count c.in_ok-count.ensures.read (Ok rules) c.in_ok-listed.ensures in
    handed_over g.S.Store reason c.from_residual-in_err-lengths.result c.from_residual-in_err-lengths.ensures.1 (three g.S.Store start count rules second (Err reason) c.in_err-lengths.ensures) (λ bad. bad)

pub returns-in_err-routes : goal.returns-in_err-routes
returns-in_err-routes g c =
    let start = c.args.conn.now in
    let count = c.in_ok-count.count in
    let rules = c.in_ok-listed.listed in
    let lengths = c.in_ok-lengths.lengths in
    let reason = c.in_err-routes.field-0.0 in
    let second = two g.S.Store start count c.in_ok-count.ensures.read (Ok rules) c.in_ok-listed.ensures in
    let third = three g.S.Store start count rules second (Ok lengths) c.in_ok-lengths.ensures in
    handed_over g.S.Store reason c.from_residual-in_err-routes.result c.from_residual-in_err-routes.ensures.1 (four g.S.Store start count rules lengths third (Err reason) c.in_err-routes.ensures) (λ bad. bad)

pub returns-in_err-rules : goal.returns-in_err-rules
returns-in_err-rules g c =
    let start = c.args.conn.now in
    let count = c.in_ok-count.count in
    let rules = c.in_ok-listed.listed in
    let lengths = c.in_ok-lengths.lengths in
    let routes = c.in_ok-routes.routes in
    let reason = c.in_err-rules.field-0.0 in
    let second = two g.S.Store start count c.in_ok-count.ensures.read (Ok rules) c.in_ok-listed.ensures in
    let third = three g.S.Store start count rules second (Ok lengths) c.in_ok-lengths.ensures in
    let fourth = four g.S.Store start count rules lengths third (Ok routes) c.in_ok-routes.ensures in
    handed_over {X = Vec Rule Global} g.S.Store {P = λ _. Unit {0}} reason c.from_residual-in_err-rules.result c.from_residual-in_err-rules.ensures.1
    (made_shown g.S.Store routes fourth (Err reason) (λ it. tt) (rw (c.as_slice.ensures.value, c.as_slice-2.ensures.value) at c.in_err-rules.ensures.err)
    (λ it left. no_state g.S.Store start count rules.items lengths.items routes.items it.0.0.0 it.0.0.1 it.0.1 it.1 (inl left))) (λ bad. bad)

pub returns : goal.returns
returns g c =
    let start = c.args.conn.now in
    let count = c.in_ok-count.count in
    let rules = c.in_ok-listed.listed in
    let lengths = c.in_ok-lengths.lengths in
    let routes = c.in_ok-routes.routes in
    let second = two g.S.Store start count c.in_ok-count.ensures.read (Ok rules) c.in_ok-listed.ensures in
    let third = three g.S.Store start count rules second (Ok lengths) c.in_ok-lengths.ensures in
    let fourth = four g.S.Store start count rules lengths third (Ok routes) c.in_ok-routes.ensures in
    let both = rw (c.as_slice.ensures.value, c.as_slice-2.ensures.value) at c.in_ok-rules.ensures.ok in
    made_shown g.S.Store routes fourth c.from_rows.result
    (λ it. IfOk-weaker c.from_rows.result _ _ (shows_state g.S.Store start count rules.items lengths.items routes.items it.0.0.0 it.0.0.1 it.0.1 it.1 both.1) (rw both.0 at c.from_rows.ensures.value)) (rw both.0 at c.from_rows.ensures.reason)
    (λ it none. no_state g.S.Store start count rules.items lengths.items routes.items it.0.0.0 it.0.0.1 it.0.1 it.1 (inr none))
