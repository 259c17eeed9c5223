use Rattle.std.proofs.Common.{◌∙◌, ap}
use Rattle.clap.specs.Simple.{app_of_fields}
use Rattle.prt_args.proofs.command_line.batch_line.Goals as goal

pub returns-clause-line : goal.returns-clause-line
returns-clause-line c =
    let command = ap app_of_fields c.about.ensures ∙ c.new.ensures.app in
    let forced = c.with_argument-forced.ensures.line _ _ command c.flag.ensures.rule c.flag.ensures.own in
    let joined = c.with_argument-joined.ensures.line _ _ forced c.flag-2.ensures.rule c.flag-2.ensures.own in
    let named = c.with_argument-named.ensures.line _ _ joined c.database_option.ensures.rule c.database_option.ensures.own in
    let served = c.with_argument-served.ensures.line _ _ named c.option.ensures.rule c.option.ensures.own in
    let told = c.with_argument-told.ensures.line _ _ served c.flag-3.ensures.rule c.flag-3.ensures.own in
    c.with_argument.ensures.line _ _ told c.file_operand.ensures.rule c.file_operand.ensures.own
