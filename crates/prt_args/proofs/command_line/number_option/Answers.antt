use Rattle.std.proofs.Common.{◌∙◌, Bool, [], ◌∷◌, ap}
use Rattle.clap.specs.Words.{Rule, rule_of}
use Rattle.clap.specs.declared.builder.arg.Arg.{Arg}
use Rattle.prt_args.proofs.command_line.number_option.Goals as goal

abbrev is_global : Arg → Bool
is_global arg = arg.global

pub returns : goal.returns
returns c = record {
  rule = ap rule_of c.default_value.ensures ∙ ap (λ (rule : Rule). record rule { defaults = c.args.missing.now ∷ [] }) c.option.ensures.rule;
  own = ap is_global c.default_value.ensures ∙ c.option.ensures.own;
}
