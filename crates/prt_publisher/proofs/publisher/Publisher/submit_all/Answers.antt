use Rattle.prt_publisher.proofs.publisher.Publisher.submit_all.Goals as goal

pub returns-in-Ok-clause-ran : goal.returns-in-Ok-clause-ran
returns-in-Ok-clause-ran g c = rw c.in-Ok.ensures.ok.1 at c.submit_checked.ensures.ran
