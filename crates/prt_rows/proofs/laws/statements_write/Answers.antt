use Rattle.prt_rows.proofs.Changing.{count_set, format_set, length_added, route_added, route_deleted, route_put, routes_deleted, rule_added, rule_deleted, rules_deleted}
use Rattle.prt_rows.proofs.laws.statements_write.Goals as goal

pub returns : goal.returns
returns g c =
    let store = g.S.Store in
    record {
      delete_route = route_deleted store;
      flush_routes = routes_deleted store;
      delete_rule = rule_deleted store;
      flush_rules = rules_deleted store;
      insert_route = route_added store;
      put_route = route_put store;
      insert_rule = rule_added store;
      insert_suppress = length_added store;
      set_count = count_set store;
      migrate = format_set store;
    }
