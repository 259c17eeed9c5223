use Rattle.std.proofs.Common.{◌∙◌, Bool, Some, ap}
use Rattle.clap.specs.Words.{Rule, rule_of}
use Rattle.clap.specs.declared.builder.action.ArgAction.TheVariants.{SetTrue}
use Rattle.clap.specs.declared.builder.arg.Arg.{Arg}
use Rattle.prt_args.proofs.command_line.flag.Goals as goal

abbrev is_global : Arg → Bool
is_global arg = arg.global

abbrev with_action : Rule → Rule
with_action rule = record rule { action = Some SetTrue }

pub returns : goal.returns
returns c = record {
  rule = ap rule_of c.help.ensures ∙ ap rule_of c.action.ensures ∙ ap (λ (arg : Arg). with_action (rule_of arg)) c.long.ensures
      ∙ ap (λ (rule : Rule). with_action (record rule { long = Some c.args.name.now })) c.new.ensures.rule;
  own = ap is_global c.help.ensures ∙ ap is_global c.action.ensures ∙ ap is_global c.long.ensures ∙ c.new.ensures.optional.1;
}
