-- What becomes of packets, as C reads it, whichever rule and route decide.
use Rattle.std.specs.Prelude.{ℕ, Option, Some, None}
use Rattle.prt_route.specs.declared.kind.Kind.{Kind}
use Rattle.prt_partition.specs.declared.sameness.Outcome.{Outcome}
use Rattle.prt_c.specs.Answer.{addr_number, has, kind_number, name_bytes}
use Rattle.prt_c.specs.declared.outcome.OutcomeC.{OutcomeC}

abbrev pub outcome_kind : Option Kind → ℕ
outcome_kind None = 0
outcome_kind (Some kind) = kind_number kind

abbrev pub outcome_in_c : Outcome → OutcomeC
outcome_in_c outcome = record {
  kind = outcome_kind outcome.kind;
  has_gateway = has outcome.via;
  gateway = addr_number outcome.via;
  has_source = has outcome.src;
  source = addr_number outcome.src;
  device = name_bytes outcome.dev;
}
