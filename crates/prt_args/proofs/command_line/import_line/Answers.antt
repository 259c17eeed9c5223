use Rattle.std.proofs.Common.{◌∙◌, ap}
use Rattle.clap.specs.Simple.{app_of_fields}
use Rattle.prt_args.proofs.command_line.import_line.Goals as goal

pub returns-clause-line : goal.returns-clause-line
returns-clause-line c =
    let command = ap app_of_fields c.about.ensures ∙ c.new.ensures.app in
    let named = c.with_argument-named.ensures.line _ _ command c.option.ensures.rule c.option.ensures.own in
    c.with_argument.ensures.line _ _ named c.listing_operand.ensures.rule c.listing_operand.ensures.own
