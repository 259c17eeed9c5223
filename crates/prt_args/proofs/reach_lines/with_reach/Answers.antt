use Rattle.std.proofs.Common.{refl}
use Rattle.clap.specs.Words.{app_of}
use Rattle.prt_args.proofs.reach_lines.with_reach.Goals as goal

pub returns-clause-line : goal.returns-clause-line
returns-clause-line c =
    let free = c.with_argument-free.ensures.line (app_of c.args.command) _ refl c.flag.ensures.rule c.flag.ensures.own in
    let tabled = c.with_argument-tabled.ensures.line _ _ free c.repeated_option.ensures.rule c.repeated_option.ensures.own in
    let sorted = c.with_argument-sorted.ensures.line _ _ tabled c.repeated_option-2.ensures.rule c.repeated_option-2.ensures.own in
    c.with_argument.ensures.line _ _ sorted c.repeated_option-3.ensures.rule c.repeated_option-3.ensures.own
