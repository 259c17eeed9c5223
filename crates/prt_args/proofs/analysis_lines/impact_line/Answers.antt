use Rattle.prt_args.proofs.analysis_lines.impact_line.Goals as goal

pub returns-clause-line : goal.returns-clause-line
returns-clause-line c =
    let formed = c.with_argument-formed.ensures.line _ _ c.place_line.ensures.line c.flag.ensures.rule c.flag.ensures.own in
    let compared = c.with_argument-compared.ensures.line _ _ formed c.flag-2.ensures.rule c.flag-2.ensures.own in
    let forced = c.with_argument-forced.ensures.line _ _ compared c.flag-3.ensures.rule c.flag-3.ensures.own in
    c.with_argument.ensures.line _ _ forced c.words_operand.ensures.rule c.words_operand.ensures.own
