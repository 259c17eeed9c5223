use Rattle.std.proofs.Common.{◌∙◌, ◌||◌, ap, ap₂}
use Rattle.std.proofs.lemmas.Result.{IfOk-weaker}
use Rattle.clap.specs.Words.{with_rule}
use Rattle.clap.specs.Simple.{app_of_fields}
use Rattle.clap.specs.declared.builder.command.Command.{Command}
use Rattle.clap.specs.declared.builder.command.Command.TheOpen.{Command-F}
use Rattle.prt_args.proofs.command_line.replay_line.Goals as goal

pub returns : goal.returns
returns c = record {
  line = IfOk-weaker c.arg.result _ _ (λ command added. added.shape c.file_operand.ensures.own
      ∙ ap₂ with_rule (ap app_of_fields c.about.ensures ∙ c.new.ensures.app) c.file_operand.ensures.rule) c.arg.ensures;
  own = IfOk-weaker c.arg.result _ _ (λ command added. added.globals
      ∙ ap₂ (λ a b. a || b) (ap (λ (fields : Command-F Command). fields.has_globals) c.about.ensures ∙ c.new.ensures.local) c.file_operand.ensures.own) c.arg.ensures;
}
