use Rattle.std.proofs.Common.{◌∙◌, Bool, true, ap}
use Rattle.clap.specs.Words.{Rule, rule_of}
use Rattle.clap.specs.declared.builder.arg.Arg.{Arg}
use Rattle.prt_args.proofs.command_line.needed_option.Goals as goal

abbrev is_global : Arg → Bool
is_global arg = arg.global

pub returns : goal.returns
returns c = record {
  rule = ap rule_of c.required.ensures ∙ ap (λ (rule : Rule). record rule { required = true }) c.option.ensures.rule;
  own = ap is_global c.required.ensures ∙ c.option.ensures.own;
}
