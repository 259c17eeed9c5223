-- How accepting at several listeners ends.
use Rattle.prt_serve.specs.declared.accept_loop.Accepting.{Accepting}
use Rattle.prt_serve.specs.declared.accept_loop.Accepting.TheVariants.{Ended, Failed, NoWorkers}

-- the worse of two ends
abbrev pub worse : Accepting → Accepting → Accepting
worse Failed other = Failed
worse NoWorkers Failed = Failed
worse NoWorkers NoWorkers = NoWorkers
worse NoWorkers Ended = NoWorkers
worse Ended other = other
