use Rattle.prt_replay.specs.World.{run_from, start}
use Rattle.prt_replay.proofs.Claims.{acknowledged_of, answered_of, durable_of, reopened_of, retained_of}
use Rattle.prt_replay.proofs.Growth.{grows_on}
use Rattle.prt_replay.proofs.Phases.{every_run_holds}
use Rattle.prt_replay.proofs.Told.{all_but_last}
use Rattle.prt_replay.proofs.laws.every_run.Goals as goal

pub returns : goal.returns
returns c = record {
  durable = λ events. durable_of (run_from start events) (every_run_holds events);
  reopened = λ events. reopened_of (run_from start events) (every_run_holds events);
  acknowledged = λ events. acknowledged_of (run_from start events) (every_run_holds events);
  all_but_last = all_but_last;
  answered = λ events. answered_of (run_from start events) (every_run_holds events);
  retained = λ events. retained_of (run_from start events) (every_run_holds events);
  grows = grows_on;
}
