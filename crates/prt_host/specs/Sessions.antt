-- Sessions over the databases of a machine.
use Rattle.sqlite.specs.Held.{Held}
use Rattle.sqlite.specs.Store.{Ghosts}
use Rattle.prt_addr.specs.Word.{Word}
use Rattle.prt_machine.specs.declared.database_opener.DatabaseOpener.{Ghosts as Opener}
use Rattle.prt_machine.specs.declared.database_opener.Wanted.TheVariants.{Any}
use Rattle.prt_publisher.specs.Remains.{Remains}
use Rattle.prt_publisher.specs.StoreDesk.{IsKept, IsStoreMishap, LeavesFound, StandsFor}
use Rattle.prt_program.specs.Program.{RunsAt, SessionFact}
use Rattle.prt_publisher.specs.Openings.{OpensOne}
use Rattle.prt_version.specs.Sound.{IsSound}

-- A session was run over the database at a path of a machine, by a desk over the connection that was found there. The
-- connection was closed as the desk had it. If its file is known, each state that an opening may make of what was left then is
-- one that the session left stored.
abbrev pub RunsOverMachine : {M S : Type 0} → Ghosts S → Opener M (Held S) → M → M → Word → SessionFact
RunsOverMachine g by old new path =
    RunsAt (λ _ _ opened. IsSound opened) (λ old new path desk. OpensOne g (by.opens Any old new path) desk)
    (λ old new desk. IsKept g desk × by.closes old new desk.tables) (LeavesFound g)
    (StandsFor g) (Remains g) IsStoreMishap old new path
