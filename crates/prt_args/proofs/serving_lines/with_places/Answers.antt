use Rattle.std.proofs.Common.{refl}
use Rattle.clap.specs.Words.{app_of}
use Rattle.prt_args.proofs.serving_lines.with_places.Goals as goal

pub returns-clause-line : goal.returns-clause-line
returns-clause-line c =
    let listening = c.with_argument-listening.ensures.line (app_of c.args.command) _ refl c.option.ensures.rule c.option.ensures.own in
    let joining = c.with_argument-joining.ensures.line _ _ listening c.option-2.ensures.rule c.option-2.ensures.own in
    let feeding = c.with_argument-feeding.ensures.line _ _ joining c.option-3.ensures.rule c.option-3.ensures.own in
    c.with_argument.ensures.line _ _ feeding c.option-4.ensures.rule c.option-4.ensures.own
