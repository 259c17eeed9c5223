use Rattle.prt_store.proofs.Nexts.{next_of}
use Rattle.prt_thread_tests.proofs.front.commit_next.Goals as goal

pub commit-requires : goal.commit-requires
commit-requires g c = (c.args.version.now, next_of c.args.version.now c.args.command.now c.in_ok-change.change _ c.number-number.ensures.value c.number-number.ensures.sound c.requires c.in_ok-change.ensures.value)
