use Rattle.prt_args.proofs.service_lines.apply_line.Goals as goal

pub returns-clause-line : goal.returns-clause-line
returns-clause-line c =
    let joined = c.with_argument-joined.ensures.line _ _ c.place_line-place.ensures.line c.option.ensures.rule c.option.ensures.own in
    let tried = c.with_argument-tried.ensures.line _ _ joined c.flag.ensures.rule c.flag.ensures.own in
    let compared = c.with_argument-compared.ensures.line _ _ tried c.flag-2.ensures.rule c.flag-2.ensures.own in
    c.with_argument.ensures.line _ _ compared c.file_operand.ensures.rule c.file_operand.ensures.own
