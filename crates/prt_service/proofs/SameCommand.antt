-- Commands of which `==` holds are the same.
use Rattle.std.proofs.Common.{◌≡◌, eqb, ◌&&◌, Bool, true, ap, refl, arith}
use mathlib.Core.Bool.{beq}
use Rattle.std.specs.Option.{option_eq}
use Rattle.std.specs.Str.{bytes_eq}
use Rattle.std.proofs.lemmas.Bool.{and_parts, eqb-true, false≢true}
use Rattle.std.proofs.lemmas.Grind.{common_steps}
use Rattle.std.proofs.lemmas.Slice.Eq.{bytes_eq-Decides}
use Rattle.prt_addr.specs.Prefix.{is_same_prefix}
use Rattle.prt_addr.specs.contracts.addr
use Rattle.prt_command.specs.contracts.request
use Rattle.prt_command.specs.declared.request.Command.TheVariants.{RouteAdd, RouteChange, RouteReplace, RouteDel, RouteFlush, RuleAdd, RuleDel, RuleFlush}
use Rattle.prt_route.specs.contracts.choice as route_choice
use Rattle.prt_route.specs.contracts.kind
use Rattle.prt_route.specs.contracts.route
use Rattle.prt_rule.specs.contracts.choice as rule_choice
use Rattle.prt_rule.specs.contracts.rule

-- If this `==` holds, the two are the same.
abbrev IsExact : {A : Type 0} → (A → A → Bool) → Type 0
IsExact {A} equal = (a b : A) → equal a b ≡ true → a ≡ b

both : {A : Type 0} {equal : A → A → Bool} {a b : A} {rest : Bool} {Q : Type 0} → IsExact equal → (a ≡ b → rest ≡ true → Q) → (equal a b && rest) ≡ true → Q
both same then are = let parts = and_parts _ _ are in then (same _ _ parts.0) parts.1

option : {A : Type 0} {equal : A → A → Bool} → IsExact equal → IsExact (option_eq equal)
option same a b is = grind (arith, common_steps, same)

number : IsExact (option_eq eqb)
number = option eqb-true

dev : IsExact (option_eq bytes_eq)
dev = option λ a b. (bytes_eq-Decides a b).0

same_bool : IsExact beq
same_bool a b is = grind (arith, common_steps)

same_prefix : IsExact is_same_prefix
same_prefix a b is = grind (arith, common_steps)

same_addr : IsExact (addr.AddrPartialEq.TheImpl.ghosts).eq
same_addr a b is = grind (arith, common_steps)

same_kind : IsExact (kind.KindPartialEq.TheImpl.ghosts).eq
same_kind a b is = grind (arith, common_steps)

same_range : IsExact (route_choice.RangePartialEq.TheImpl.ghosts).eq
same_range a b is = grind (arith, common_steps, same_prefix)

same_mark : IsExact (rule.MarkPartialEq.TheImpl.ghosts).eq
same_mark a b is = grind (arith, common_steps)

same_action : IsExact (rule.ActionPartialEq.TheImpl.ghosts).eq
same_action a b is = grind (arith, common_steps)

same_route : IsExact (route.RoutePartialEq.TheImpl.ghosts).eq
same_route a b = both eqb-true λ table. both same_prefix λ prefix. both eqb-true λ metric. both same_kind λ kind. both (option same_addr) λ via. both dev λ dev. both (option same_addr) λ src. both eqb-true λ proto is.
    let scope = eqb-true _ _ is in λ i. record { table = table i; prefix = prefix i; metric = metric i; kind = kind i; via = via i; dev = dev i; src = src i; proto = proto i; scope = scope i }

same_route_choice : IsExact (route_choice.RouteChoicePartialEq.TheImpl.ghosts).eq
same_route_choice a b = both eqb-true λ table. both same_prefix λ prefix. both number λ metric. both (option same_kind) λ kind. both (option same_addr) λ via. both dev λ dev. both (option same_addr) λ src. both number λ proto is.
    let scope = number _ _ is in λ i. record { table = table i; prefix = prefix i; metric = metric i; kind = kind i; via = via i; dev = dev i; src = src i; proto = proto i; scope = scope i }

same_selector : IsExact (route_choice.SelectorPartialEq.TheImpl.ghosts).eq
same_selector a b = both number λ table. both same_range λ range. both (option same_kind) λ kind. both number λ proto. both number λ scope is.
    let device = dev _ _ is in λ i. record { table = table i; range = range i; kind = kind i; proto = proto i; scope = scope i; dev = device i }

same_new_rule : IsExact (request.NewRulePartialEq.TheImpl.ghosts).eq
same_new_rule a b = both number λ priority. both same_bool λ inverted. both same_prefix λ from. both same_prefix λ to. both dev λ iif. both (option same_mark) λ mark. both same_action λ action is.
    let suppress = number _ _ is in λ i. record { priority = priority i; inverted = inverted i; from = from i; to = to i; iif = iif i; mark = mark i; action = action i; suppress = suppress i }

same_rule_choice : IsExact (rule_choice.RuleChoicePartialEq.TheImpl.ghosts).eq
same_rule_choice a b = both number λ priority. both same_bool λ inverted. both (option same_prefix) λ from. both (option same_prefix) λ to. both dev λ iif. both (option same_mark) λ mark. both (option same_action) λ action is.
    let suppress = number _ _ is in λ i. record { priority = priority i; inverted = inverted i; from = from i; to = to i; iif = iif i; mark = mark i; action = action i; suppress = suppress i }

pub same_command : IsExact (request.CommandPartialEq.TheImpl.ghosts).eq
same_command (RouteAdd a) (RouteAdd b) is = ap RouteAdd (same_route a b is)
same_command (RouteChange a) (RouteChange b) is = ap RouteChange (same_route a b is)
same_command (RouteReplace a) (RouteReplace b) is = ap RouteReplace (same_route a b is)
same_command (RouteDel a) (RouteDel b) is = ap RouteDel (same_route_choice a b is)
same_command (RouteFlush a) (RouteFlush b) is = ap RouteFlush (same_selector a b is)
same_command (RuleAdd a) (RuleAdd b) is = ap RuleAdd (same_new_rule a b is)
same_command (RuleDel a) (RuleDel b) is = ap RuleDel (same_rule_choice a b is)
same_command RuleFlush RuleFlush is = refl
same_command _ _ is = absurd (false≢true is)
