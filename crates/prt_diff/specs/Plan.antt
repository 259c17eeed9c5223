-- The commands that bring one state to another, each made before another is broken: ip-route(8), ip-rule(8).
use Rattle.std.specs.Prelude.{List, [], ◌∷◌, ◌++◌, if◌then◌else◌, map}
use Rattle.prt_route.specs.declared.route.Route.{Route}
use Rattle.prt_rule.specs.declared.rule.Rule.{Rule}
use Rattle.prt_command.specs.declared.request.Command.{Command}
use Rattle.prt_version.specs.Change.{has_rule}
use Rattle.prt_version.specs.State.{State}
use Rattle.prt_diff.specs.Routes.{delete_route, early_routes, in_turn, late_routes, missing_routes, replace_route, unwanted_routes}
use Rattle.prt_diff.specs.Rules.{add_rule, barring_rules, coming_rules, delete_rule, going_rules, is_first_taken, with_rule, without_rule}
use Rattle.prt_diff.specs.declared.plan.Changes.{Changes}
use Rattle.prt_diff.specs.declared.fence.Fence.{Fence}

-- The commands so far, and the rules after them except for ids. Besides these, the rules that were moved, those that could not
-- be deleted, and those that went before others came.
pub record Plan : Type 0 where
  pub commands : List Command
  pub rules : List Rule
  pub moved : List Rule
  pub left : List Rule
  pub early : List Rule

abbrev pub plan_of : Changes → Plan
plan_of changes = record {
  commands = changes.commands.items;
  rules = changes.rules.items;
  moved = changes.moved.items;
  left =
      changes.left.items;
  early = changes.early.items;
}

-- ---- one rule

abbrev pub added : Rule → Plan → Plan
added rule plan = record plan { commands = plan.commands ++ add_rule rule ∷ []; rules = with_rule rule plan.rules }

abbrev pub deleted : Rule → Plan → Plan
deleted rule plan = record plan { commands = plan.commands ++ delete_rule rule ∷ []; rules = without_rule rule plan.rules }

-- deleted, and added again behind the others of its priority
abbrev pub moved : Rule → Plan → Plan
moved rule plan = record (added rule (deleted rule plan)) { moved = plan.moved ++ rule ∷ [] }

abbrev pub left : Rule → Plan → Plan
left rule plan = record plan { left = plan.left ++ rule ∷ [] }

-- a rule that moves, if its words take it
abbrev pub moved_or_left : Rule → Plan → Plan
moved_or_left rule plan = if is_first_taken rule plan.rules then moved rule plan else left rule plan

-- a rule that comes: one that is there moves
abbrev pub brought : Rule → Plan → Plan
brought rule plan = if has_rule rule plan.rules then moved_or_left rule plan else added rule plan

-- a rule that goes, if its words take it
abbrev pub removed : Rule → Plan → Plan
removed rule plan = if is_first_taken rule plan.rules then deleted rule plan else left rule plan

abbrev pub deleted_early : Rule → Plan → Plan
deleted_early rule plan = record (deleted rule plan) { early = plan.early ++ rule ∷ [] }

-- a rule that bars one that comes, if its words take it now
abbrev pub cleared : Rule → Plan → Plan
cleared rule plan = if is_first_taken rule plan.rules then deleted_early rule plan else plan

-- ---- all

-- all routes that come or change
abbrev pub coming_routes : Fence → State → State → List Route
coming_routes fence found wanted =
    in_turn (early_routes found.rules (missing_routes fence found.routes wanted.routes))
    ++ in_turn (late_routes found.rules (missing_routes fence found.routes wanted.routes))

abbrev pub bring_all : List Rule → Plan → Plan
bring_all [] plan = plan
bring_all (rule ∷ rules) plan = bring_all rules (brought rule plan)

abbrev pub clear_all : List Rule → Plan → Plan
clear_all [] plan = plan
clear_all (rule ∷ rules) plan = clear_all rules (cleared rule plan)

abbrev pub remove_all : List Rule → Plan → Plan
remove_all [] plan = plan
remove_all (rule ∷ rules) plan = remove_all rules (removed rule plan)

abbrev pub replace_routes : List Route → Plan → Plan
replace_routes routes plan = record plan { commands = plan.commands ++ map replace_route routes }

abbrev pub delete_routes : List Route → Plan → Plan
delete_routes routes plan = record plan { commands = plan.commands ++ map delete_route routes }

abbrev pub nothing_yet : List Rule → Plan
nothing_yet rules = record { commands = []; rules = rules; moved = []; left = []; early = [] }

-- The routes come of tables that no rule looks up, if the kernel finds their gateways. Then rules go that bar others, and those
-- come.
abbrev pub made : Fence → State → State → Plan
made fence found wanted =
    bring_all (coming_rules fence found.rules wanted.rules)
    (clear_all (barring_rules fence found.rules wanted.rules)
    (replace_routes (in_turn (early_routes found.rules (missing_routes fence found.routes wanted.routes)))
    (nothing_yet found.rules)))

-- then the other routes come, then the other rules go, and at last routes
abbrev pub plan : Fence → State → State → Plan
plan fence found wanted =
    delete_routes (unwanted_routes fence found.routes wanted.routes)
    (remove_all (going_rules fence (made fence found wanted).rules wanted.rules)
    (replace_routes (in_turn (late_routes found.rules (missing_routes fence found.routes wanted.routes)))
    (made fence found wanted)))

abbrev pub changes : Fence → State → State → List Command
changes fence found wanted = (plan fence found wanted).commands
