-- The test of two routes decides whether they are equal.
use Rattle.std.proofs.Common.{◌≡◌, ap}
use Rattle.std.specs.Prelude.{bytes_eq}
use Rattle.std.specs.Bool.{Decides}
use Rattle.std.proofs.lemmas.Bool.Decides.{Decides-eqb, Decides-and, Decides-like}
use Rattle.std.proofs.lemmas.Slice.Eq.{bytes_eq-Decides}
use Rattle.prt_route.specs.RouteChoice.{is_same_addr}
use Rattle.prt_route.specs.declared.route.Route.{Route}
use Rattle.prt_diff.specs.Apply.Routes.{is_same_route}
use Rattle.prt_diff.proofs.SameRoutes.{addresses, keys, kinds, options}

abbrev by_parts : Route → Route
by_parts b = record { table = b.table; prefix = b.prefix; metric = b.metric; kind = b.kind; via = b.via; dev = b.dev; src = b.src; proto = b.proto; scope = b.scope }

equal : (a b : Route) → a.table ≡ b.table → a.prefix ≡ b.prefix → a.metric ≡ b.metric → a.kind ≡ b.kind → a.via ≡ b.via → a.dev ≡ b.dev → a.src ≡ b.src → a.proto ≡ b.proto → a.scope ≡ b.scope → by_parts a ≡ by_parts b
equal a b table prefix metric kind via dev src proto scope = cc

pub routes_same : (a b : Route) → Decides (is_same_route a b) (a ≡ b)
routes_same a b =
    Decides-like (is_same_route a b)
    (λ h. equal a b h.0.0.0.0.0.0.0.0 h.0.0.0.0.0.0.0.1 h.0.0.0.0.0.0.1 h.0.0.0.0.0.1 h.0.0.0.0.1 h.0.0.0.1 h.0.0.1 h.0.1 h.1)
    (λ e. (((((((((ap (λ x. x.table) e, ap (λ x. x.prefix) e), ap (λ x. x.metric) e), ap (λ x. x.kind) e), ap (λ x. x.via) e), ap (λ x. x.dev) e), ap (λ x. x.src) e), ap (λ x. x.proto) e)), ap (λ x. x.scope) e))
    (Decides-and _ _
    (Decides-and _ _
    (Decides-and _ _
    (Decides-and _ _
    (Decides-and _ _
    (Decides-and _ _ (keys a b) (kinds a.kind b.kind))
    (options is_same_addr addresses a.via b.via))
    (options bytes_eq bytes_eq-Decides a.dev b.dev))
    (options is_same_addr addresses a.src b.src))
    (Decides-eqb a.proto b.proto))
    (Decides-eqb a.scope b.scope))
