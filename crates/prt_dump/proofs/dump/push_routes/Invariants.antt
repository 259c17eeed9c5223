use Rattle.std.proofs.Common.{◌≡◌, ◌++◌, map, take}
use Rattle.prt_listing.specs.QueryText.{lines_text}
use Rattle.prt_spelling.specs.Line.{command_line}
use Rattle.prt_dump.specs.Dump.{add_route}
use Rattle.prt_dump.proofs.dump.push_routes.Given as goal

abbrev pub invariant-loop-route : goal.invariant-loop-route
invariant-loop-route l = l.out.items ≡ l.fn.out.items ++ lines_text (map (λ route. command_line (add_route route)) (take l.route-index l.routes))
