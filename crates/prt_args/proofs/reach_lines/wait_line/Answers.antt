use Rattle.prt_args.proofs.reach_lines.wait_line.Goals as goal

pub returns-clause-line : goal.returns-clause-line
returns-clause-line c = c.with_argument.ensures.line _ _ c.server_line.ensures.line c.number_option.ensures.rule c.number_option.ensures.own
