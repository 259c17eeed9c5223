use Rattle.std.proofs.Common.{◌≡◌, ◌++◌, map, take}
use Rattle.prt_json.specs.Steps.{values_tokens}
use Rattle.prt_impact.specs.GroupsJson.{group_json}
use Rattle.prt_impact.proofs.document.push_each.Given as goal

abbrev pub invariant-loop-group : goal.invariant-loop-group
invariant-loop-group l = record { tokens : l.out.tokens ≡ l.fn.out.tokens ++ values_tokens (map group_json (take l.group-index l.groups)); before : l.out.before ≡ l.fn.out.before }
