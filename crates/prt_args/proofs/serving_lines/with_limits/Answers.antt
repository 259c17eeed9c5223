use Rattle.std.proofs.Common.{refl}
use Rattle.clap.specs.Words.{app_of}
use Rattle.prt_args.proofs.serving_lines.with_limits.Goals as goal

pub returns-clause-line : goal.returns-clause-line
returns-clause-line c =
    let working = c.with_argument-working.ensures.line (app_of c.args.command) _ refl c.number_option.ensures.rule c.number_option.ensures.own in
    let counting = c.with_argument-counting.ensures.line _ _ working c.number_option-2.ensures.rule c.number_option-2.ensures.own in
    c.with_argument.ensures.line _ _ counting c.number_option-3.ensures.rule c.number_option-3.ensures.own
