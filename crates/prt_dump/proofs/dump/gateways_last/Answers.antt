use Rattle.std.proofs.Common.{rules, ◌≡◌, ◌∙◌, ◌++◌, ap}
use Rattle.std.specs.Prelude.{filter, is_none, is_some}
use Rattle.std.proofs.lemmas.Fn.{filter_same}
use Rattle.prt_route.specs.declared.route.Route.{Route}
use Rattle.prt_dump.proofs.dump.gateways_last.Goals as goal

pub returns : goal.returns
returns c =
    let first : c.retain.new.self.items ≡ filter (λ (route : Route). is_none route.via) c.args.routes.now = filter_same _ _ _ (λ x b f' k. search rules) _ _ c.retain.ensures.filtered ∙ ap (filter _) c.in_ok-rows.ensures.items in
    let second : c.retain-2.new.self.items ≡ filter (λ (route : Route). is_some route.via) c.args.routes.now = filter_same _ _ _ (λ x b f' k. search rules) _ _ c.retain-2.ensures.filtered ∙ ap (filter _) c.in_ok-through_gateways.ensures.items in
    c.in_ok-extend_from_slice.ensures.items
    ∙ ap (λ xs. xs ++ c.deref.result.now) first
    ∙ ap (λ xs. filter (λ (route : Route). is_none route.via) c.args.routes.now ++ xs) (c.deref.ensures.value ∙ second)
