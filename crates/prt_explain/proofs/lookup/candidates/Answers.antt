use Rattle.std.proofs.Common.{rules, ◌≡◌, ◌∙◌, ap}
use Rattle.std.specs.Prelude.{filter}
use Rattle.std.proofs.lemmas.Fn.{filter_same}
use Rattle.prt_addr.specs.Prefix.{contains}
use Rattle.prt_route.specs.declared.route.Route.{Route}
use Rattle.prt_explain.proofs.Lookups.{candidates_of}
use Rattle.prt_explain.proofs.lookup.candidates.Goals as goal

pub returns : goal.returns
returns c =
    let kept : c.retain.new.self.items ≡ filter (λ (route : Route). contains route.prefix c.args.addr) c.in-Ok.routes.items = filter_same _ _ _ (λ x b f' k. search rules) _ _ c.retain.ensures.filtered in
    kept ∙ ap (filter _) c.in-Ok.ensures.value ∙ candidates_of c.args.version.now.routes c.args.table c.args.addr
