use Rattle.prt_publisher.proofs.publisher.Publisher.submit.Goals as goal

pub returns-clause-ran : goal.returns-clause-ran
returns-clause-ran g c = rw c.from_ref.ensures.value at c.submit_all.ensures.ran
