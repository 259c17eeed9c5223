-- Of the rules that are tried the last one decides, if one does.
use Rattle.std.proofs.Common.{◌≡◌, Bool, true, false, ◌||◌, List, [], ◌∷◌, ◌++◌, refl, sym, ap, ◌∙◌, cond}
use Rattle.std.specs.List.{list_any}
use Rattle.prt_route.specs.declared.route.Route.{Route}
use Rattle.prt_rule.specs.declared.packet.Packet.{Packet}
use Rattle.prt_rule.specs.declared.rule.Rule.{Rule}
use Rattle.prt_explain.specs.Explanation.{asked_rules}
use Rattle.prt_json.specs.ExplanationJson.{decides}

module _ (routes : List Route) (packet : Packet) where
  abbrev asked : List Rule → List Rule
  asked rules = asked_rules rules routes packet

  abbrev does : Rule → Bool
  does rule = decides routes packet rule

  -- if no rule is tried there is none
  none_decides : (rules : List Rule) → asked rules ≡ [] → list_any does rules ≡ false
  none_decides [] is = refl
  none_decides (rule ∷ rules) is = absurd cc

  last_by : (first : Rule) (rules : List Rule) (b : Bool) → does first ≡ b → ((before : List Rule) (rule : Rule) → asked rules ≡ before ++ rule ∷ [] → does rule ≡ list_any does rules) → (before : List Rule) (rule : Rule) → first ∷ cond b [] (asked rules) ≡ before ++ rule ∷ [] → does rule ≡ b || list_any does rules
  last_by first rules true says others [] rule is =
      let same : first ≡ rule = cc in
      ap does (sym same) ∙ says
  last_by first rules true says others (other ∷ []) rule is = absurd cc
  last_by first rules true says others (other ∷ another ∷ before) rule is = absurd cc
  last_by first rules false says others [] rule is =
      let same : first ≡ rule = cc in
      let none : asked rules ≡ [] = cc in
      ap does (sym same) ∙ says ∙ sym (none_decides rules none)
  last_by first rules false says others (other ∷ before) rule is =
      let rest : asked rules ≡ before ++ rule ∷ [] = cc in
      others before rule rest

  pub last : (rules before : List Rule) (rule : Rule) → asked rules ≡ before ++ rule ∷ [] → does rule ≡ list_any does rules
  last [] [] rule is = absurd cc
  last [] (other ∷ before) rule is = absurd cc
  last (first ∷ rules) before rule is = last_by first rules (does first) refl (last rules) before rule is

  other_by : (first : Rule) (rules : List Rule) (b : Bool) → does first ≡ b → ((before after : List Rule) (rule next : Rule) → asked rules ≡ before ++ rule ∷ next ∷ after → does rule ≡ false) → (before after : List Rule) (rule next : Rule) → first ∷ cond b [] (asked rules) ≡ before ++ rule ∷ next ∷ after → does rule ≡ false
  other_by first rules true says others [] after rule next is = absurd cc
  other_by first rules true says others (other ∷ []) after rule next is = absurd cc
  other_by first rules true says others (other ∷ another ∷ before) after rule next is = absurd cc
  other_by first rules false says others [] after rule next is =
      let same : first ≡ rule = cc in
      ap does (sym same) ∙ says
  other_by first rules false says others (other ∷ before) after rule next is =
      let rest : asked rules ≡ before ++ rule ∷ next ∷ after = cc in
      others before after rule next rest

  pub others : (rules before after : List Rule) (rule next : Rule) → asked rules ≡ before ++ rule ∷ next ∷ after → does rule ≡ false
  others [] [] after rule next is = absurd cc
  others [] (other ∷ before) after rule next is = absurd cc
  others (first ∷ rules) before after rule next is = other_by first rules (does first) refl (others rules) before after rule next is
