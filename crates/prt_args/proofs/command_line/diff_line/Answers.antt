use Rattle.std.proofs.Common.{◌∙◌, ap}
use Rattle.std.proofs.lemmas.Result.{IfOk-weaker}
use Rattle.prt_args.specs.CommandLine.{with_reach}
use Rattle.prt_args.proofs.command_line.diff_line.Goals as goal

pub returns-clause-line : goal.returns-clause-line
returns-clause-line c =
    let reaching = IfOk-weaker c.with_reach-reaching.result _ _ (λ command added. added ∙ ap with_reach c.in_ok-place.ensures.line) c.with_reach-reaching.ensures.line in
    let checking = c.with_argument-checking.ensures.line _ _ reaching c.flag.ensures.rule c.flag.ensures.own in
    let showing = c.with_argument-showing.ensures.line _ _ checking c.flag-2.ensures.rule c.flag-2.ensures.own in
    c.with_argument.ensures.line _ _ showing c.listing_operand.ensures.rule c.listing_operand.ensures.own
