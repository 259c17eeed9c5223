use Rattle.prt_args.proofs.analysis_lines.assert_line.Goals as goal

pub returns-clause-line : goal.returns-clause-line
returns-clause-line c =
    let explained = c.with_argument-explained.ensures.line _ _ c.place_line.ensures.line c.flag.ensures.rule c.flag.ensures.own in
    c.with_argument.ensures.line _ _ explained c.words_operand.ensures.rule c.words_operand.ensures.own
