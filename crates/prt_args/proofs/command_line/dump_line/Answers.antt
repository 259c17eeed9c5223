use Rattle.prt_args.proofs.command_line.dump_line.Goals as goal

pub returns-clause-line : goal.returns-clause-line
returns-clause-line c = c.with_argument.ensures.line _ _ c.tables_line.ensures.line c.flag.ensures.rule c.flag.ensures.own
