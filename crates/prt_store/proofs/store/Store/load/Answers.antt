use Rattle.std.proofs.lemmas.Result.{IfErr-weaker}
use Rattle.prt_store.proofs.Loads.{loads_none, loads_stored, still_sound}
use Rattle.prt_store.proofs.store.Store.load.Goals as goal

pub returns-clause-damage : goal.returns-clause-damage
returns-clause-damage g c clean = IfErr-weaker c.load.result _ _ (λ reason it told. (it told).1) (c.load.ensures.damage clean)

pub returns-clause-ok : goal.returns-clause-ok
returns-clause-ok g c clean tables = loads_stored g.S.Store c.args.self.now.conn c.load.new.conn c.schema-live.ensures.live clean tables c.load.result c.load.ensures

pub returns-clause-damaged : goal.returns-clause-damaged
returns-clause-damaged g c clean tables = loads_none g.S.Store c.args.self.now.conn c.load.new.conn c.schema-live.ensures.live clean tables c.load.result c.load.ensures

pub returns-clause-sound : goal.returns-clause-sound
returns-clause-sound g c clean = still_sound g.S.Store c.args.self.now.conn c.load.new.conn c.load.result c.schema-live.ensures.live (c.load.ensures.only.same clean)
