use Rattle.prt_args.proofs.analysis_lines.unused_line.Goals as goal

pub returns-clause-line : goal.returns-clause-line
returns-clause-line c = c.with_argument.ensures.line _ _ c.place_line.ensures.line c.file_operand.ensures.rule c.file_operand.ensures.own
