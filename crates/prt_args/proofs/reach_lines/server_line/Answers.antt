use Rattle.std.proofs.Common.{◌∙◌, ap}
use Rattle.clap.specs.Simple.{app_of_fields}
use Rattle.prt_args.proofs.reach_lines.server_line.Goals as goal

pub returns-clause-line : goal.returns-clause-line
returns-clause-line c =
    let command = ap app_of_fields c.about.ensures ∙ c.new.ensures.app in
    c.with_argument.ensures.line _ _ command c.needed_option.ensures.rule c.needed_option.ensures.own
