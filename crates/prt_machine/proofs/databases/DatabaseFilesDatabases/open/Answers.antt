use Rattle.prt_publisher.specs.StoreDesk.{StandsFor, published}
use Rattle.prt_session.specs.Open.{IsOpenOn}
use Rattle.prt_version.specs.Sound.{IsSound}
use Rattle.prt_machine.proofs.Opened.{of_some}
use Rattle.prt_machine.proofs.databases.DatabaseFilesDatabases.open.Goals as goal

pub returns-clause-opened : goal.returns-clause-opened
returns-clause-opened g c = of_some IsSound (IsOpenOn (StandsFor g.H.Store.Store)) published c.open_desk.result c.open_desk.ensures.stands
