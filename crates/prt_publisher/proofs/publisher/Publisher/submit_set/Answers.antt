use Rattle.prt_publisher.proofs.publisher.Publisher.submit_set.Goals as goal

pub returns-in-Ready-clause-ran : goal.returns-in-Ready-clause-ran
returns-in-Ready-clause-ran g c = rw c.of_set.ensures.commands at c.submit_checked.ensures.ran
