use Rattle.std.proofs.Common.{◌≡◌, ◌∙◌, ◌≢◌, Bool, codes, inl, inr, option_map, refl, sym, ap, true≢false}
use Rattle.std.specs.Cmp.{booleans_Decides}
use Rattle.clap.specs.declared.parser.matches.ArgMatches.{ArgMatches}
use Rattle.prt_route.specs.Names.{protocol}
use Rattle.prt_args.specs.NoQuestion.{IsNoReach}
use Rattle.prt_args.specs.Reaching.{IsReachBy, names_nothing, span_of, values_of}
use Rattle.prt_args.specs.declared.reach.Ends.TheVariants as ends
use Rattle.prt_args.specs.declared.reach.Reach.{Reach}
use Rattle.prt_args.proofs.Readings.{read_of_values, spans_are}
use Rattle.prt_args.proofs.reach.reach_of.Goals as goal

-- all of it and a part is named, or neither
no_reach : (matches : ArgMatches) (reach : Reach) (nothing : Bool) → IsReachBy matches reach → nothing ≡ names_nothing reach → reach.all ≢ nothing → IsNoReach matches
no_reach matches reach nothing by is other = inr (inr (inr (reach, by, λ same. other (same ∙ sym is))))

pub returns-in_default-clause-refused : goal.returns-in_default-clause-refused
returns-in_default-clause-refused c =
    let tables = read_of_values (span_of ends.Tables) c.get_strs.result _ _ _ _ c.in_ok-tables.ensures c.unwrap_or-tables.ensures refl c.get_strs.ensures in
    inl (sym tables ∙ ap (option_map (λ spans. spans.items)) c.in_default.is)

pub returns-in_default-2-clause-refused : goal.returns-in_default-2-clause-refused
returns-in_default-2-clause-refused c =
    let protocols = read_of_values protocol c.get_strs-2.result _ _ _ _ c.in_ok-protocols.ensures c.unwrap_or-protocols.ensures refl c.get_strs-2.ensures in
    inr (inl (sym protocols ∙ ap (option_map (λ protocols. protocols.items)) c.in_default-2.is))

pub returns-in_default-3-clause-refused : goal.returns-in_default-3-clause-refused
returns-in_default-3-clause-refused c =
    let priorities = read_of_values (span_of ends.Priorities) c.get_strs-3.result _ _ _ _ c.in_ok-priorities.ensures c.unwrap_or-priorities.ensures refl c.get_strs-3.ensures in
    inr (inr (inl (sym priorities ∙ ap (option_map (λ spans. spans.items)) c.in_default-3.is)))

pub returns-then-reach-names_nothing : goal.returns-then-reach-names_nothing
returns-then-reach-names_nothing c =
    let tables = ap (option_map (λ spans. spans.items)) (sym c.in-Some.is)
    ∙ read_of_values (span_of ends.Tables) c.get_strs.result _ _ _ _ c.in_ok-tables.ensures c.unwrap_or-tables.ensures refl c.get_strs.ensures in
    let protocols = ap (option_map (λ protocols. protocols.items)) (sym c.in-Some-2.is)
    ∙ read_of_values protocol c.get_strs-2.result _ _ _ _ c.in_ok-protocols.ensures c.unwrap_or-protocols.ensures refl c.get_strs-2.ensures in
    let priorities = ap (option_map (λ spans. spans.items)) (sym c.in-Some-3.is)
    ∙ read_of_values (span_of ends.Priorities) c.get_strs-3.result _ _ _ _ c.in_ok-priorities.ensures c.unwrap_or-priorities.ensures refl c.get_strs-3.ensures in
    record {
      reads = (tables, protocols, priorities, c.get_flag.ensures.value, c.get_flag.ensures.other);
      limits = (
        (booleans_Decides c.get_flag.result c.names_nothing.result).0 c.if-reach-names_nothing.true ∙ c.names_nothing.ensures,
        spans_are ends.Tables (values_of c.args.matches.now (codes "table")) c.in-Some.tables.items (sym tables),
        spans_are ends.Priorities (values_of c.args.matches.now (codes "priority")) c.in-Some-3.priorities.items (sym priorities),
      );
      refused = tt;
    }

pub returns-then-reach-clause-refused : goal.returns-then-reach-clause-refused
returns-then-reach-clause-refused c =
    let tables = ap (option_map (λ spans. spans.items)) (sym c.in-Some.is)
    ∙ read_of_values (span_of ends.Tables) c.get_strs.result _ _ _ _ c.in_ok-tables.ensures c.unwrap_or-tables.ensures refl c.get_strs.ensures in
    let protocols = ap (option_map (λ protocols. protocols.items)) (sym c.in-Some-2.is)
    ∙ read_of_values protocol c.get_strs-2.result _ _ _ _ c.in_ok-protocols.ensures c.unwrap_or-protocols.ensures refl c.get_strs-2.ensures in
    let priorities = ap (option_map (λ spans. spans.items)) (sym c.in-Some-3.is)
    ∙ read_of_values (span_of ends.Priorities) c.get_strs-3.result _ _ _ _ c.in_ok-priorities.ensures c.unwrap_or-priorities.ensures refl c.get_strs-3.ensures in
    let reach : Reach = record { all = c.get_flag.result; tables = c.in-Some.tables; protocols = c.in-Some-2.protocols; priorities = c.in-Some-3.priorities } in
    no_reach c.args.matches.now reach c.names_nothing.result (tables, protocols, priorities, c.get_flag.ensures.value, c.get_flag.ensures.other) c.names_nothing.ensures
    (λ same. true≢false (sym ((booleans_Decides c.get_flag.result c.names_nothing.result).1 same) ∙ c.if-reach-names_nothing.false))

pub returns-clause-refused : goal.returns-clause-refused
returns-clause-refused c =
    let tables = ap (option_map (λ spans. spans.items)) (sym c.in-Some.is)
    ∙ read_of_values (span_of ends.Tables) c.get_strs.result _ _ _ _ c.in_ok-tables.ensures c.unwrap_or-tables.ensures refl c.get_strs.ensures in
    let protocols = ap (option_map (λ protocols. protocols.items)) (sym c.in-Some-2.is)
    ∙ read_of_values protocol c.get_strs-2.result _ _ _ _ c.in_ok-protocols.ensures c.unwrap_or-protocols.ensures refl c.get_strs-2.ensures in
    let priorities = ap (option_map (λ spans. spans.items)) (sym c.in-Some-3.is)
    ∙ read_of_values (span_of ends.Priorities) c.get_strs-3.result _ _ _ _ c.in_ok-priorities.ensures c.unwrap_or-priorities.ensures refl c.get_strs-3.ensures in
    let reach : Reach = record { all = c.get_flag.result; tables = c.in-Some.tables; protocols = c.in-Some-2.protocols; priorities = c.in-Some-3.priorities } in
    no_reach c.args.matches.now reach c.names_nothing.result (tables, protocols, priorities, c.get_flag.ensures.value, c.get_flag.ensures.other) c.names_nothing.ensures
    (λ same. true≢false (sym ((booleans_Decides c.get_flag.result c.names_nothing.result).1 same) ∙ c.if-reach-names_nothing.false))
