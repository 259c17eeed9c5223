use Rattle.std.proofs.Common.{◌∙◌, ap}
use Rattle.std.proofs.lemmas.Result.{IfOk-weaker}
use Rattle.clap.specs.Simple.{app_of_fields}
use Rattle.clap.specs.declared.builder.command.Command.{Command}
use Rattle.clap.specs.declared.builder.command.Command.TheOpen.{Command-F}
use Rattle.prt_args.specs.CommandLine.{with_limits, with_places}
use Rattle.prt_args.proofs.serving_lines.serve_line.Goals as goal

pub returns-clause-line : goal.returns-clause-line
returns-clause-line c =
    let command = ap app_of_fields c.about.ensures ∙ c.new.ensures.app in
    let named = c.in_ok-named.ensures.line _ _ command c.needed_option.ensures.rule c.needed_option.ensures.own in
    let placed = c.in_ok-placed.ensures.line ∙ ap with_places named in
    let limited = IfOk-weaker c.with_limits-limited.result _ _ (λ command added. added ∙ ap with_limits placed) c.with_limits-limited.ensures.line in
    c.with_argument.ensures.line _ _ limited c.flag.ensures.rule c.flag.ensures.own

pub returns-clause-own : goal.returns-clause-own
returns-clause-own c =
    let command_own = ap (λ (fields : Command-F Command). fields.has_globals) c.about.ensures ∙ c.new.ensures.local in
    let named_own = c.in_ok-named.ensures.own command_own c.needed_option.ensures.own in
    c.with_argument.ensures.own (c.with_limits-limited.ensures.own (c.in_ok-placed.ensures.own named_own)) c.flag.ensures.own
