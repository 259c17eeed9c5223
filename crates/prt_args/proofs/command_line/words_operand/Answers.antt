use Rattle.std.proofs.Common.{◌∙◌, Bool, Some, ap}
use Rattle.clap.specs.Words.{Rule, rule_of}
use Rattle.clap.specs.declared.builder.action.ArgAction.TheVariants.{Append}
use Rattle.clap.specs.declared.builder.arg.Arg.{Arg}
use Rattle.prt_args.proofs.command_line.words_operand.Goals as goal

abbrev is_global : Arg → Bool
is_global arg = arg.global

abbrev with_value : Rule → Rule
with_value rule = record rule { value_names = 1 }

pub returns : goal.returns
returns c = record {
  rule = ap rule_of c.help.ensures ∙ ap rule_of c.value_name.ensures ∙ ap (λ (arg : Arg). with_value (rule_of arg)) c.action.ensures
      ∙ ap (λ (rule : Rule). with_value (record rule { action = Some Append })) c.new.ensures.rule;
  own = ap is_global c.help.ensures ∙ ap is_global c.value_name.ensures ∙ ap is_global c.action.ensures ∙ c.new.ensures.optional.1;
}
