use Rattle.prt_args.proofs.command_line.question_line.Goals as goal

pub returns-clause-line : goal.returns-clause-line
returns-clause-line c = c.with_argument.ensures.line _ _ c.tables_line.ensures.line c.words_operand.ensures.rule c.words_operand.ensures.own
