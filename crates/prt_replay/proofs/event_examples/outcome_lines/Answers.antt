use Rattle.std.proofs.Common.{refl}
use Rattle.std.specs.Fmt.{digits}
use Rattle.prt_replay.proofs.event_examples.outcome_lines.Goals as goal

pub returns : goal.returns
unfolding digits
returns c = record {
  none = refl;
  prepared = refl;
  refused = refl;
  closed = refl;
  not_published = refl;
  begin = refl;
  write = refl;
  count = refl;
  commit = refl;
  published = refl;
  noted = refl;
  acknowledged = refl;
  online = refl;
  fetched = refl;
  announced = refl;
  offline = refl;
  no_route = refl;
  route = refl;
  reclaimed = refl;
  stopped = refl;
  reopened = refl;
  in_order = refl;
  of_nothing = refl;
}
