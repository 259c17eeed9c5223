use Rattle.prt_diff.proofs.HeldBack.{found_route, unread_rule, wanted_route}
use Rattle.prt_diff.proofs.laws.nothing_is_passed_over.Goals as goal

pub returns : goal.returns
returns c = record {
  wanted_routes = wanted_route;
  found_routes = found_route;
  wanted_rules = λ fence found wanted rule within meant. unread_rule fence wanted found rule within meant;
  found_rules = unread_rule;
}
