-- A code determines what it stands for.
use Rattle.std.proofs.Common.{◌≡◌, ℕ, refl, sym, ap, ◌∙◌, ◌==◌, if◌then◌else◌}
use Rattle.prt_route.specs.declared.kind.Kind.{Kind}
use Rattle.prt_route.specs.declared.kind.Kind.TheVariants.{Unicast, Blackhole, Unreachable, Prohibit, Throw}
use Rattle.prt_rule.specs.declared.rule.Action.{Action}
use Rattle.prt_rule.specs.declared.rule.Action.TheVariants.{Lookup}
use Rattle.prt_rule.specs.declared.rule.Action.TheVariants as actions
use Rattle.prt_rows.specs.RouteRow.{kind_code}
use Rattle.prt_rows.specs.RuleRow.{action_code, action_table}

kind_of : ℕ → Kind
kind_of n = if n == 1 then Unicast else if n == 6 then Blackhole else if n == 7 then Unreachable else if n == 8 then Prohibit else Throw

back : (a : Kind) → kind_of (kind_code a) ≡ a
unfolding kind_of
back Unicast = refl
back Blackhole = refl
back Unreachable = refl
back Prohibit = refl
back Throw = refl

pub same_kind : (a b : Kind) → kind_code a ≡ kind_code b → a ≡ b
same_kind a b is = sym (back a) ∙ ap kind_of is ∙ back b

action_of : ℕ → ℕ → Action
action_of code table = if code == 1 then Lookup table else if code == 6 then actions.Blackhole else if code == 7 then actions.Unreachable else actions.Prohibit

action_back : (a : Action) → action_of (action_code a) (action_table a) ≡ a
unfolding action_of
action_back (Lookup table) = refl
action_back actions.Blackhole = refl
action_back actions.Unreachable = refl
action_back actions.Prohibit = refl

pub same_action : (a b : Action) → action_code a ≡ action_code b → action_table a ≡ action_table b → a ≡ b
same_action a b code table = sym (action_back a) ∙ (λ i. action_of (code i) (table i)) ∙ action_back b
