use Rattle.prt_publisher.proofs.connected.publisher_over.Goals as goal

pub returns-in-Ok-adopt-clause-ok : goal.returns-in-Ok-adopt-clause-ok
returns-in-Ok-adopt-clause-ok g c =
    let says = c.in-Ok-adopt.ensures in
    record { was = c.in-Ok.conn; found = c.in-Ok.is; format = says.format; opened = says.opened; begun = (says.ready.1, says.ready.2) }

pub returns-in-Err-adopt-clause-err : goal.returns-in-Err-adopt-clause-err
returns-in-Err-adopt-clause-err g c = record { was = c.in-Ok.conn; found = c.in-Ok.is; refused = c.in-Err-adopt.ensures.refused }
