-- The test of two outcomes decides whether they are equal.
use Rattle.std.proofs.Common.{◌≡◌, ℕ, Bool, Option, Some, None, refl, ap}
use Rattle.std.specs.Prelude.{bytes_eq}
use Rattle.std.specs.Option.{option_eq}
use Rattle.std.specs.Bool.{Decides}
use Rattle.std.proofs.lemmas.Bool.Decides.{Decides-eqb, Decides-and, Decides-like}
use Rattle.std.proofs.lemmas.Slice.Eq.{bytes_eq-Decides}
use Rattle.prt_addr.specs.declared.addr.Addr.{Addr}
use Rattle.prt_route.specs.RouteChoice.{is_same_addr, is_same_kind}
use Rattle.prt_route.specs.declared.kind.Kind.{Kind}
use Rattle.prt_route.specs.declared.kind.Kind.TheVariants.{Unicast, Blackhole, Unreachable, Prohibit, Throw}
use Rattle.prt_partition.specs.Sameness.{is_same_outcome}
use Rattle.prt_partition.specs.declared.sameness.Outcome.{Outcome}

options : {X : Type 0} (test : X → X → Bool) → ((x y : X) → Decides (test x y) (x ≡ y)) → (a b : Option X) → Decides (option_eq test a b) (a ≡ b)
options test tells None None = (λ _. refl, λ _. refl)
options test tells None (Some y) = (λ e. absurd cc, λ e. absurd cc)
options test tells (Some x) None = (λ e. absurd cc, λ e. absurd cc)
options test tells (Some x) (Some y) = Decides-like (test x y) (λ e. ap Some e) (λ e. cc) (tells x y)

abbrev addr_by : ℕ → Addr
addr_by bits = record { 0 = bits }

addresses : (a b : Addr) → Decides (is_same_addr a b) (a ≡ b)
addresses a b = Decides-like (is_same_addr a b) (λ h. ap addr_by h) (λ e. ap (λ x. x.0) e) (Decides-eqb a.0 b.0)

kinds : (a b : Kind) → Decides (is_same_kind a b) (a ≡ b)
kinds Unicast Unicast = (λ _. refl, λ _. refl)
kinds Blackhole Blackhole = (λ _. refl, λ _. refl)
kinds Unreachable Unreachable = (λ _. refl, λ _. refl)
kinds Prohibit Prohibit = (λ _. refl, λ _. refl)
kinds Throw Throw = (λ _. refl, λ _. refl)
kinds _ _ = (λ e. absurd cc, λ e. absurd cc)

abbrev outcome_by_parts : Outcome → Outcome
outcome_by_parts b = record { kind = b.kind; via = b.via; dev = b.dev; src = b.src }

equal_outcomes : (a b : Outcome) → a.kind ≡ b.kind → a.via ≡ b.via → a.dev ≡ b.dev → a.src ≡ b.src → a ≡ b
equal_outcomes a b kind via dev src = let e : outcome_by_parts a ≡ outcome_by_parts b = cc in e

pub outcomes_same : (a b : Outcome) → Decides (is_same_outcome a b) (a ≡ b)
outcomes_same a b =
    Decides-like (is_same_outcome a b) (λ h. equal_outcomes a b h.0.0.0 h.0.0.1 h.0.1 h.1) (λ e. (((ap (λ x. x.kind) e, ap (λ x. x.via) e), ap (λ x. x.dev) e), ap (λ x. x.src) e))
    (Decides-and _ _
    (Decides-and _ _ (Decides-and _ _ (options is_same_kind kinds a.kind b.kind) (options is_same_addr addresses a.via b.via)) (options bytes_eq bytes_eq-Decides a.dev b.dev))
    (options is_same_addr addresses a.src b.src))
