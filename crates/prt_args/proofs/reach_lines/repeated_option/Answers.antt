use Rattle.std.proofs.Common.{◌∙◌, Bool, Some, ap}
use Rattle.clap.specs.Words.{Rule, rule_of}
use Rattle.clap.specs.declared.builder.action.ArgAction.TheVariants.{Append}
use Rattle.clap.specs.declared.builder.arg.Arg.{Arg}
use Rattle.prt_args.proofs.reach_lines.repeated_option.Goals as goal

abbrev is_global : Arg → Bool
is_global arg = arg.global

pub returns : goal.returns
returns c = record {
  rule = ap rule_of c.action.ensures ∙ ap (λ (rule : Rule). record rule { action = Some Append }) c.option.ensures.rule;
  own = ap is_global c.action.ensures ∙ c.option.ensures.own;
}
