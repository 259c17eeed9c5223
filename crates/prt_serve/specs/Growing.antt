-- What is known of the published list only grows.
use Rattle.prt_published.proofs.Prefixes.{begins_self, begins_trans}
use Rattle.prt_published.specs.Line.{Begins}
use Rattle.prt_service.specs.Look.{Look}
use Rattle.prt_session.specs.Preorder.{IsPreorder}

-- the list that the looker knew is a prefix of the one that it knows
abbrev pub Grows : Look → Look → Type 0
Grows old new = Begins old.known new.known

-- so it is over any number of requests
pub grows_over_all : IsPreorder Grows
grows_over_all = record { reflexive = λ l. begins_self l.known; transitive = λ l m n p q. begins_trans l.known m.known n.known p q }
