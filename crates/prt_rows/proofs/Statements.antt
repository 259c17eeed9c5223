-- What the statements that delete do to the rows, in a file whose first tables are ours.
use Rattle.std.proofs.Common.{◌≡◌, ℕ, List, Ok, refl}
use Rattle.sqlite.specs.Schema.{Schema}
use Rattle.sqlite.specs.State.{State, Executes}
use Rattle.sqlite.specs.Table.{Table}
use Rattle.sqlite.specs.Term.{Term}
use Rattle.sqlite_schema.specs.declared.schema.Index.{Index}
use Rattle.sqlite_schema.specs.declared.schema.View.{View}
use Rattle.sqlite_value.specs.Order.{Row}
use Rattle.prt_addr.specs.Word.{Word}
use Rattle.prt_rows.proofs.Deletions.{deletes}
use Rattle.prt_rows.proofs.Foreign.{no_works}
use Rattle.prt_rows.proofs.RuleDeletions.{deletes_rules}
use Rattle.prt_rows.proofs.Texts.{Means}
use Rattle.prt_rows.proofs.Texts as texts
use Rattle.prt_rows.specs.Effects.{Deletes, DeletesRules, IsKeyed}
use Rattle.prt_rows.specs.Meanings.{deletion, is_flushed, has_id, has_key, has_priority}
use Rattle.prt_rows.specs.Others.{AreOthers}
use Rattle.prt_rows.specs.Statements.{delete_route, delete_rule, flush_routes, flush_rules}
use Rattle.prt_rows.specs.Tables.{route_table, schema_with}

module _ (tables : List Table) (indexes : List Index) (views : List View) (others : AreOthers tables) (old new : State) (has : old.now.schema ≡ schema_with tables indexes views) (params : Row) (count : ℕ) where
  abbrev schema : Schema
  schema = schema_with tables indexes views

  from_routes : (sql : Word) (tests : List Term) → Means schema sql (deletion 1 1 tests) → IsKeyed (old.now.trees 1) → Executes sql params old new (Ok count) → Deletes route_table tests params old.now new.now
  from_routes sql tests means = deletes schema 1 route_table refl (λ keys. no_works 1 tables indexes views others.route others.elsewhere keys refl 0) sql tests means old new params count has refl

  from_rules : (sql : Word) (tests : List Term) → Means schema sql (deletion 0 0 tests) → IsKeyed (old.now.trees 0) → IsKeyed (old.now.trees 4) → Executes sql params old new (Ok count) → DeletesRules tests params old.now new.now
  from_rules sql tests means = deletes_rules tables indexes views others sql tests means old new params count has

  pub deletes_route : IsKeyed (old.now.trees 1) → Executes delete_route params old new (Ok count) → Deletes route_table has_key params old.now new.now
  deletes_route = from_routes delete_route has_key (texts.delete_route_is tables indexes views)

  pub deletes_routes : IsKeyed (old.now.trees 1) → Executes flush_routes params old new (Ok count) → Deletes route_table is_flushed params old.now new.now
  deletes_routes = from_routes flush_routes is_flushed (texts.flush_routes_is tables indexes views)

  pub deletes_rule : IsKeyed (old.now.trees 0) → IsKeyed (old.now.trees 4) → Executes delete_rule params old new (Ok count) → DeletesRules has_id params old.now new.now
  deletes_rule = from_rules delete_rule has_id (texts.delete_rule_is tables indexes views)

  pub flushes_rules : IsKeyed (old.now.trees 0) → IsKeyed (old.now.trees 4) → Executes flush_rules params old new (Ok count) → DeletesRules has_priority params old.now new.now
  flushes_rules = from_rules flush_rules has_priority (texts.flush_rules_is tables indexes views)
