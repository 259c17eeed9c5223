-- Rules that say nothing of any packet, since they look up tables with no routes.
use Rattle.std.proofs.Common.{◌≡◌, ℕ, ◌+◌, ◌<◌, ◌≤◌, Bool, true, false, cond, List, [], length, get_or, not, Option, Some, None, refl, sym, ap, subst, ◌∙◌, arith, ⊎_elim}
use Rattle.std.specs.Prelude.{option_map}
use Rattle.std.proofs.lemmas.Bool.{cases_lt}
use Rattle.std.proofs.lemmas.List.{get_or_default}
use Rattle.prt_addr.specs.Word.{keep}
use Rattle.prt_route.specs.declared.route.Route.{Route}
use Rattle.prt_rule.specs.Rule.{matches}
use Rattle.prt_rule.specs.declared.packet.Packet.{Packet}
use Rattle.prt_rule.specs.declared.rule.Action.{Action}
use Rattle.prt_rule.specs.declared.rule.Action.TheVariants.{Lookup}
use Rattle.prt_rule.specs.declared.rule.Rule.{Rule}
use Rattle.prt_version.specs.Select.{decision, is_throw, suppresses, verdict_by}
use Rattle.prt_version.specs.Steps.{first_verdict}
use Rattle.prt_version.specs.Tables.{rows_of_table}
use Rattle.prt_version.specs.Tried.{AreTried, SaysNothing}
use Rattle.prt_version.specs.declared.answer.Verdict.{Verdict}
use Rattle.prt_version.specs.declared.answer.Verdict.TheVariants.{NoRoute, Route as ByRoute}
use Rattle.prt_version.specs.declared.tried.Tried.{Tried}
use Rattle.prt_version.proofs.ByTable.{no_best}
use Rattle.prt_version.proofs.RuleIndexes.{no_verdict, verdict_at}

matched : (b : Bool) (said : Option Verdict) → said ≡ None → cond b said None ≡ None
matched true said none = none
matched false said none = refl

nothing_by : (action : Action) (suppress : Option ℕ) (priority table : ℕ) (routes : List Route) (packet : Packet) → action ≡ Lookup table → [] ≡ rows_of_table table routes → verdict_by action suppress priority routes packet ≡ None
nothing_by action suppress priority table routes packet is none =
    subst (λ (a : Action). verdict_by a suppress priority routes packet ≡ None) (sym is)
    (ap (λ (best : Option Route). option_map (λ route. ByRoute priority route) (keep (λ route. not (suppresses suppress route)) (keep (λ route. not (is_throw route.kind)) best))) (sym (no_best routes table packet.dst none)))

-- a rule that looks up a table with no routes
pub says_nothing : (rule : Rule) (table : ℕ) (routes : List Route) → rule.action ≡ Lookup table → [] ≡ rows_of_table table routes → SaysNothing rule routes
says_nothing rule table routes is none packet =
    matched (matches rule packet) (verdict_by rule.action rule.suppress rule.priority routes packet) (nothing_by rule.action rule.suppress rule.priority table routes packet is none)

module _ (rules : List Rule) (routes : List Route) (packet : Packet) where
  -- none up to a place says anything of the packet
  abbrev pub AreSilent : ℕ → Type 0
  AreSilent place = (k : ℕ) (d : Rule) → k < place → decision (get_or rules k d) routes packet ≡ None

  pub one_silent : (place : ℕ) (rule : Rule) → place < length rules → rule ≡ get_or rules place rule → decision rule routes packet ≡ None → AreSilent place → AreSilent (place + 1)
  one_silent place rule inside is silent before k d lt =
      ⊎_elim
      (λ (early : k < place). before k d early)
      (λ (late : place ≤ k).
      let at : k ≡ place = omega arith in
      ap (λ n. decision (get_or rules n d) routes packet) at ∙ ap (λ r. decision r routes packet) (get_or_default rules place d rule inside ∙ sym is) ∙ silent)
      (cases_lt k place)

  pub first_says : (place : ℕ) (rule : Rule) (verdict : Verdict) → place < length rules → rule ≡ get_or rules place rule → decision rule routes packet ≡ Some verdict → AreSilent place → first_verdict rules routes packet ≡ verdict
  first_says place rule verdict inside is says before =
      verdict_at rules place routes packet verdict inside (λ d. ap (λ r. decision r routes packet) (get_or_default rules place d rule inside ∙ sym is) ∙ says) before

  pub none_says : (tried : Tried) (place : ℕ) → AreTried rules routes tried → tried.to ≤ place → AreSilent place → first_verdict rules routes packet ≡ NoRoute
  none_says tried place are end before =
      no_verdict rules routes packet (λ k d lt. ⊎_elim
      (λ (early : k < place). before k d early)
      (λ (late : place ≤ k). are.after k d (omega arith) lt packet)
      (cases_lt k place))

module _ (rules : List Rule) (routes : List Route) (place : ℕ) (rule : Rule) (inside : place < length rules) (is : rule ≡ get_or rules place rule) (silent : SaysNothing rule routes) where
  -- one rule more at the front
  pub front_more : ((k : ℕ) (d : Rule) → k < place → SaysNothing (get_or rules k d) routes) → (k : ℕ) (d : Rule) → k < place + 1 → SaysNothing (get_or rules k d) routes
  front_more before k d lt packet = one_silent rules routes packet place rule inside is (silent packet) (λ k d early. before k d early packet) k d lt

  -- one rule more at the end
  pub end_more : ((k : ℕ) (d : Rule) → place + 1 ≤ k → k < length rules → SaysNothing (get_or rules k d) routes) → (k : ℕ) (d : Rule) → place ≤ k → k < length rules → SaysNothing (get_or rules k d) routes
  end_more after k d from lt packet =
      ⊎_elim
      (λ (under : k < place + 1).
      let at : k ≡ place = omega arith in
      ap (λ n. decision (get_or rules n d) routes packet) at ∙ ap (λ r. decision r routes packet) (get_or_default rules place d rule inside ∙ sym is) ∙ silent packet)
      (λ (behind : place + 1 ≤ k). after k d behind lt packet)
      (cases_lt k (place + 1))
