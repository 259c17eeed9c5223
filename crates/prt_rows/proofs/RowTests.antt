-- Which rows pass the tests of the statements.
use Rattle.std.proofs.Common.{◌≡◌, ℕ, pos, Some, Bool, true, false, not, [], ◌==◌, ◌&&◌, refl, ap, ◌∙◌, arith}
use Rattle.std.proofs.lemmas.Grind.{common_steps}
use Rattle.std.specs.Ordering.{is_eq, is_ne, int_cmp}
use Rattle.sqlite.specs.Collation.TheVariants.{Binary}
use Rattle.sqlite.specs.declared.types.Value.{Value}
use Rattle.sqlite.specs.declared.types.Value.TheVariants.{Int}
use Rattle.sqlite_sql.specs.Ops.{binary, is_true, from_truth}
use Rattle.sqlite_sql.specs.declared.ops.BinaryOp.TheVariants.{Compare}
use Rattle.sqlite_sql.specs.declared.ops.CompareOp.TheVariants.{Eq, Ne}
use Rattle.sqlite_value.proofs.OrderLemmas.{value_cmp-Int}
use Rattle.prt_route.specs.Route.{is_same_key, key_of}
use Rattle.prt_route.specs.declared.route.Route.{Route}
use Rattle.prt_route.specs.declared.route.RouteKey.{RouteKey}
use Rattle.prt_rule.specs.declared.rule.Rule.{Rule}
use Rattle.prt_rows.specs.Effects.{passes}
use Rattle.prt_rows.specs.Kept.{id_values, kept_route, kept_rule, key_values}
use Rattle.prt_rows.specs.Meanings.{has_id, has_key, has_priority}

pub truth_again : (b : Bool) → is_true (from_truth (Some b)) ≡ b
truth_again true = refl
truth_again false = refl

eq_cmp : (a b : ℕ) → is_eq (int_cmp (pos a) (pos b)) ≡ (a == b)
eq_cmp a b = grind (arith, common_steps)

ne_cmp : (a b : ℕ) → is_ne (int_cmp (pos a) (pos b)) ≡ not (a == b)
ne_cmp a b = grind (arith, common_steps)

pub eq_test : (a b : ℕ) → is_true (binary (Compare Eq Binary) (Int (pos a)) (Int (pos b))) ≡ (a == b)
unfolding binary
eq_test a b = truth_again _ ∙ ap is_eq (value_cmp-Int (pos a) (pos b)) ∙ eq_cmp a b

pub ne_test : (a b : ℕ) → is_true (binary (Compare Ne Binary) (Int (pos a)) (Int (pos b))) ≡ not (a == b)
unfolding binary
ne_test a b = truth_again _ ∙ ap is_ne (value_cmp-Int (pos a) (pos b)) ∙ ne_cmp a b

pub and_end : (b : Bool) → (b && true) ≡ b
and_end true = refl
and_end false = refl

pub and_key : (table bits len metric : Bool) → (table && (bits && (len && (metric && true)))) ≡ ((table && (bits && len)) && metric)
and_key true true true metric = and_end metric
and_key true true false metric = refl
and_key true false len metric = refl
and_key false bits len metric = refl

-- the rule with this id
pub passes_id : (rule : Rule) (id : ℕ) → passes has_id (id_values id) (kept_rule rule) ≡ (rule.id == id)
passes_id rule id = and_end _ ∙ eq_test rule.id id

-- the rules whose priority isn't 0
pub passes_priority : (rule : Rule) → passes has_priority [] (kept_rule rule) ≡ not (rule.priority == 0)
passes_priority rule = and_end _ ∙ ne_test rule.priority 0

-- the routes with this key
pub passes_key : (rowid : Value) (route : Route) (key : RouteKey) → passes has_key (key_values key) (kept_route rowid route) ≡ is_same_key (key_of route) key
passes_key rowid route key =
    rw (eq_test route.table key.table, eq_test route.prefix.bits key.prefix.bits, eq_test route.prefix.len key.prefix.len, eq_test route.metric key.metric)
    (and_key (route.table == key.table) (route.prefix.bits == key.prefix.bits) (route.prefix.len == key.prefix.len) (route.metric == key.metric))
