-- What each statement that writes does to the rows of a file whose first tables are ours.
use Rattle.sqlite.specs.Held.{state}
use Rattle.sqlite.specs.Store.{Ghosts}
use Rattle.prt_rows.proofs.Counting.{sets_count}
use Rattle.prt_rows.proofs.Insertion.{adds_length, adds_rule}
use Rattle.prt_rows.proofs.Migrating.{sets_format}
use Rattle.prt_rows.proofs.Putting.{puts_route}
use Rattle.prt_rows.proofs.RouteInsertion.{adds_route}
use Rattle.prt_rows.proofs.Statements.{deletes_route, deletes_routes, deletes_rule, flushes_rules}
use Rattle.prt_rows.specs.Changing.{AddsLength, AddsRoute, AddsRule, DeletesRows, DeletesTheRules, PutsRoute, SetsCount, SetsFormat}
use Rattle.prt_rows.specs.Meanings.{has_id, has_key, has_priority, is_flushed}
use Rattle.prt_rows.specs.Statements.{delete_route, delete_rule, flush_routes, flush_rules, insert_route, insert_rule, insert_suppress, migrate, put_route, set_count}
use Rattle.prt_rows.specs.Tables.{route_table}

module _ {S : Type 0} (g : Ghosts S) where
  pub route_deleted : DeletesRows g delete_route route_table has_key
  route_deleted old new params ran keyed = let t = ran.0 in deletes_route t.tables t.indexes t.views t.others (state g old) (state g new) t.is params ran.1.0 keyed ran.1.1

  pub routes_deleted : DeletesRows g flush_routes route_table is_flushed
  routes_deleted old new params ran keyed = let t = ran.0 in deletes_routes t.tables t.indexes t.views t.others (state g old) (state g new) t.is params ran.1.0 keyed ran.1.1

  pub rule_deleted : DeletesTheRules g delete_rule has_id
  rule_deleted old new params ran keyed lengths = let t = ran.0 in deletes_rule t.tables t.indexes t.views t.others (state g old) (state g new) t.is params ran.1.0 keyed lengths ran.1.1

  pub rules_deleted : DeletesTheRules g flush_rules has_priority
  rules_deleted old new params ran keyed lengths = let t = ran.0 in flushes_rules t.tables t.indexes t.views t.others (state g old) (state g new) t.is params ran.1.0 keyed lengths ran.1.1

  pub route_put : PutsRoute g put_route
  route_put old new route ran routes keyed = let t = ran.0 in puts_route t.tables t.indexes t.views t.others t.free (state g old) (state g new) route ran.1.0 t.is routes keyed ran.1.1

  pub route_added : AddsRoute g insert_route
  route_added old new route ran routes keyed = let t = ran.0 in adds_route t.tables t.indexes t.views t.others t.free (state g old) (state g new) route ran.1.0 t.is routes keyed ran.1.1

  pub rule_added : AddsRule g insert_rule
  rule_added old new rule ran = let t = ran.0 in adds_rule t.tables t.indexes t.views t.others (state g old) (state g new) rule ran.1.0 t.is ran.1.1

  pub count_set : SetsCount g set_count
  count_set old new before count ran row = let t = ran.0 in sets_count t.tables t.indexes t.views t.others (state g old) (state g new) before count ran.1.0 t.is row ran.1.1

  pub length_added : AddsLength g insert_suppress
  length_added old new length ran = let t = ran.0 in adds_length t.tables t.indexes t.views t.others (state g old) (state g new) length ran.1.0 t.is ran.1.1

  pub format_set : SetsFormat g migrate
  format_set old new count ran row = let t = ran.0 in sets_format t.tables t.indexes t.views t.others (state g old) (state g new) count ran.1.0 t.is row ran.1.1
