use Rattle.std.proofs.Common.{◌∙◌, Bool, ap}
use Rattle.clap.specs.Words.{Rule, rule_of}
use Rattle.clap.specs.declared.builder.arg.Arg.{Arg}
use Rattle.prt_args.proofs.command_line.file_operand.Goals as goal

abbrev is_global : Arg → Bool
is_global arg = arg.global

pub returns : goal.returns
returns c = record {
  rule = ap rule_of c.help.ensures ∙ ap rule_of c.value_name.ensures ∙ ap (λ (rule : Rule). record rule { value_names = 1 }) c.new.ensures.rule;
  own = ap is_global c.help.ensures ∙ ap is_global c.value_name.ensures ∙ c.new.ensures.optional.1;
}
