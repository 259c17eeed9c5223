use Rattle.prt_session.proofs.check.check_lines.Goals as goal

pub returns : goal.returns
returns g c = (c.run_session.ensures.run tt tt).2
