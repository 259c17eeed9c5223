use Rattle.sqlite.specs.Held.{state}
use Rattle.prt_published.specs.Line.{line_state}
use Rattle.prt_laws.proofs.Opening.{fresh_is, opened_again, started, stopped_there}
use Rattle.prt_laws.proofs.calls.adopt.Goals as goal

pub returns-in-Ok-clause-fresh : goal.returns-in-Ok-clause-fresh
returns-in-Ok-clause-fresh g c empty known =
    let made = c.in-Ok.publisher in
    let own = c.in-Ok.ensures.opened.adopts known.1 (c.in-Ok.ensures.format.0 known.0) in
    started g.S.Store made (c.in-Ok.ensures.ready.0, c.in-Ok.ensures.ready.2) c.in-Ok.ensures.stands (fresh_is g.S.Store c.args.conn made.tables (line_state made.line) empty own.0 own.1.now)

pub returns-in-Ok-clause-again : goal.returns-in-Ok-clause-again
returns-in-Ok-clause-again g c clean is_open = (
  c.in-Ok.ensures.ready.0,
  λ old w s spells. opened_again g.S.Store old c.in-Ok.publisher w s (c.in-Ok.ensures.ready.0, c.in-Ok.ensures.ready.2) c.in-Ok.ensures.stands (c.in-Ok.ensures.opened.found clean is_open w.disk spells).1,
)

pub returns-in-Ok-clause-stopped : goal.returns-in-Ok-clause-stopped
returns-in-Ok-clause-stopped g c clean is_open =
    stopped_there g.S.Store c.in-Ok.publisher (state g.S.Store c.args.conn).now.trees (c.in-Ok.ensures.ready.0, c.in-Ok.ensures.ready.2) c.in-Ok.ensures.stands (λ stored spells. (c.in-Ok.ensures.opened.found clean is_open stored spells).1)
