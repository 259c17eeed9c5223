use Rattle.prt_args.proofs.command_line.tables_line.Goals as goal

pub returns-clause-line : goal.returns-clause-line
returns-clause-line c =
    let formed = c.with_argument-formed.ensures.line _ _ c.place_line.ensures.line c.flag.ensures.rule c.flag.ensures.own in
    c.with_argument.ensures.line _ _ formed c.flag-2.ensures.rule c.flag-2.ensures.own
