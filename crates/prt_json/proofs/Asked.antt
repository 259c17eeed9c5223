-- The rules that are tried, one after another, and what each one finds.
use Rattle.std.proofs.Common.{◌≡◌, ℕ, ◌+◌, ◌<◌, Bool, true, false, List, [], ◌∷◌, ◌++◌, Option, Some, None, refl, sym, ap, ◌∙◌, append_assoc, cond, drop, get_or, length, map}
use Rattle.std.specs.Prelude.{codes, option_map, unwrap_or}
use Rattle.prt_addr.specs.declared.addr.Addr.{Addr}
use Rattle.prt_route.specs.Best.{best}
use Rattle.prt_route.specs.declared.route.Route.{Route}
use Rattle.prt_rule.specs.declared.packet.Packet.{Packet}
use Rattle.prt_rule.specs.declared.rule.Rule.{Rule}
use Rattle.prt_version.specs.Select.{suppresses}
use Rattle.prt_explain.specs.Explanation.{asked_rules, runner_up}
use Rattle.prt_explain.specs.Steps.{found}
use Rattle.prt_explain.specs.declared.lookup.Found.{Found}
use Rattle.prt_explain.proofs.Texts.{dropped}
use Rattle.json.specs.Token.{Token}
use Rattle.json.specs.Tree.{json_tokens}
use Rattle.prt_json.specs.ExplanationJson.{asked_json, decides, found_fields, route_field, truth_field}
use Rattle.prt_json.specs.Fields.{Member}
use Rattle.prt_json.specs.Steps.{asked_tokens, values_tokens}

-- ---- what a lookup finds

-- the fields of what was found
abbrev pub shown : Option ℕ → Found → List (Option Member)
shown suppress it =
    route_field (codes "found") (Some it.best)
    ∷ route_field (codes "runner_up") it.runner_up
    ∷ truth_field (codes "suppressed") (suppresses suppress it.best)
    ∷ []

module _ (suppress : Option ℕ) (table : ℕ) (routes : List Route) (addr : Addr) where
  abbrev found_as : Option Route → Option Found
  found_as first = option_map (λ route. record { best = route; runner_up = runner_up route routes table addr }) first

  shown_by : (it : Found) (first : Option Route) → Some it ≡ found_as first → shown suppress it ≡ found_fields suppress table routes addr first
  shown_by it None is = absurd cc
  shown_by it (Some route) is = ap (λ o. shown suppress (unwrap_or o it)) is

  nothing_by : (first : Option Route) → None ≡ found_as first → [] ≡ found_fields suppress table routes addr first
  nothing_by None is = refl
  nothing_by (Some route) is = absurd cc

  -- what is found is shown
  pub is_shown : (it : Found) → Some it ≡ found routes table addr → shown suppress it ≡ found_fields suppress table routes addr (best routes table addr)
  is_shown it is = shown_by it (best routes table addr) is

  pub is_nothing : None ≡ found routes table addr → [] ≡ found_fields suppress table routes addr (best routes table addr)
  is_nothing is = nothing_by (best routes table addr) is

-- ---- the rules

asked_by : (rule : Rule) (rules : List Rule) (routes : List Route) (packet : Packet) (b : Bool) → values_tokens (map (asked_json routes packet) (rule ∷ cond b [] (asked_rules rules routes packet))) ≡ json_tokens (asked_json routes packet rule) ++ cond b [] (asked_tokens rules routes packet)
asked_by rule rules routes packet true = refl
asked_by rule rules routes packet false = refl

-- the first rule, and the others if it doesn't decide
asked-first : (rule : Rule) (rules : List Rule) (routes : List Route) (packet : Packet) → asked_tokens (rule ∷ rules) routes packet ≡ json_tokens (asked_json routes packet rule) ++ cond (decides routes packet rule) [] (asked_tokens rules routes packet)
asked-first rule rules routes packet = asked_by rule rules routes packet (decides routes packet rule)

-- the rule at i is tried: its tokens are there, and those of the rules after it are still to come if it doesn't decide
pub asked_more : (rules : List Rule) (i : ℕ) (rule : Rule) (routes : List Route) (packet : Packet) (before old new : List Token) (b : Bool) → i < length rules → rule ≡ get_or rules i rule → old ++ asked_tokens (drop i rules) routes packet ≡ before → new ≡ old ++ json_tokens (asked_json routes packet rule) → b ≡ decides routes packet rule → new ++ cond b [] (asked_tokens (drop (i + 1) rules) routes packet) ≡ before
asked_more rules i rule routes packet before old new b inside is held pushed says =
    let rest : List Token = cond b [] (asked_tokens (drop (i + 1) rules) routes packet) in
    let tokens : List Token = json_tokens (asked_json routes packet rule) in
    let here : asked_tokens (drop i rules) routes packet ≡ tokens ++ rest =
    ap (λ others. asked_tokens others routes packet) (dropped rules i rule inside is)
    ∙ asked-first rule (drop (i + 1) rules) routes packet
    ∙ ap (λ d. tokens ++ cond d [] (asked_tokens (drop (i + 1) rules) routes packet)) (sym says) in
    ap (λ ts. ts ++ rest) pushed ∙ append_assoc old tokens rest ∙ ap (λ ts. old ++ ts) (sym here) ∙ held
