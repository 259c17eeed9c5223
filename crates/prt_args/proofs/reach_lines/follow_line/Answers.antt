use Rattle.std.proofs.Common.{◌∙◌, ap}
use Rattle.std.proofs.lemmas.Result.{IfOk-weaker}
use Rattle.prt_args.specs.CommandLine.{with_reach}
use Rattle.prt_args.proofs.reach_lines.follow_line.Goals as goal

pub returns-clause-line : goal.returns-clause-line
returns-clause-line c =
    let reaching = IfOk-weaker c.with_reach-reaching.result _ _ (λ command added. added ∙ ap with_reach c.in_ok-server.ensures.line) c.with_reach-reaching.ensures.line in
    let ending = c.with_argument-ending.ensures.line _ _ reaching c.flag.ensures.rule c.flag.ensures.own in
    c.with_argument.ensures.line _ _ ending c.listing_operand.ensures.rule c.listing_operand.ensures.own
