use Rattle.std.proofs.Common.{◌≡◌, ◌∙◌, subst, sym, true}
use Rattle.std.specs.List.{AllByRecursion as Each}
use Rattle.std.proofs.lemmas.List.Elements.{recursion_from_All}
use Rattle.prt_route.specs.declared.route.Route.{Route}
use Rattle.prt_rule.specs.declared.rule.Rule.{Rule}
use Rattle.prt_spelling.specs.Fits.{CommandFits}
use Rattle.prt_spelling.specs.Spelled.{is_spelled}
use Rattle.prt_dump.specs.Dump.{add_route, add_rule}
use Rattle.prt_dump.specs.PutBack.{IsPlainState, IsPutBack, StateFits, session_of}
use Rattle.prt_dump.proofs.Sessions.{put_back}
use Rattle.prt_dump.proofs.Texts.{each_passes, text_of_state}
use Rattle.prt_dump.proofs.dump.dump_text.Goals as goal

pub returns-clause-plain : goal.returns-clause-plain
returns-clause-plain c = record {
  rules = subst (Each (λ (rule : Rule). is_spelled (add_rule rule) ≡ true)) c.rules.ensures.value (each_passes (λ (rule : Rule). is_spelled (add_rule rule)) c.rules.result.now c.in_ok-find_unplain.ensures.plain.0);
  routes = subst (Each (λ (route : Route). is_spelled (add_route route) ≡ true)) (c.deref.ensures.value ∙ c.in-Ok.ensures) (each_passes (λ (route : Route). is_spelled (add_route route)) c.deref.result.now c.in_ok-find_unplain.ensures.plain.1);
}

pub returns-clause-fits : goal.returns-clause-fits
returns-clause-fits c = record {
  rules = subst (Each (λ (rule : Rule). CommandFits (add_rule rule))) c.rules-2.ensures.value (recursion_from_All (λ (rule : Rule). CommandFits (add_rule rule)) c.rules-2.result.now c.recall_rules.ensures);
  routes = subst (Each (λ (route : Route). CommandFits (add_route route))) (c.deref-2.ensures.value ∙ c.in-Ok.ensures) (recursion_from_All (λ (route : Route). CommandFits (add_route route)) c.deref-2.result.now c.recall_routes.ensures);
}

pub returns-clause-put_back : goal.returns-clause-put_back
returns-clause-put_back c =
    let state = c.args.version.now in
    let plain : IsPlainState state = record {
      rules = subst (Each (λ (rule : Rule). is_spelled (add_rule rule) ≡ true)) c.rules.ensures.value (each_passes (λ (rule : Rule). is_spelled (add_rule rule)) c.rules.result.now c.in_ok-find_unplain.ensures.plain.0);
      routes = subst (Each (λ (route : Route). is_spelled (add_route route) ≡ true)) (c.deref.ensures.value ∙ c.in-Ok.ensures) (each_passes (λ (route : Route). is_spelled (add_route route)) c.deref.result.now c.in_ok-find_unplain.ensures.plain.1);
    } in
    let fits : StateFits state = record {
      rules = subst (Each (λ (rule : Rule). CommandFits (add_rule rule))) c.rules-2.ensures.value (recursion_from_All (λ (rule : Rule). CommandFits (add_rule rule)) c.rules-2.result.now c.recall_rules.ensures);
      routes = subst (Each (λ (route : Route). CommandFits (add_route route))) (c.deref-2.ensures.value ∙ c.in-Ok.ensures) (recursion_from_All (λ (route : Route). CommandFits (add_route route)) c.deref-2.result.now c.recall_routes.ensures);
    } in
    let text = text_of_state state c.rules-3.result.now c.deref-3.result.now c.in-Ok-text_of.text.items c.in-Ok-text_of.ensures c.rules-3.ensures.value (c.deref-3.ensures.value ∙ c.in-Ok.ensures) in
    λ mode. subst (λ t. IsPutBack state (session_of mode t)) (sym text) (put_back state mode c.number-number.ensures.sound fits plain)
