use Rattle.std.proofs.Common.{◌∙◌}
use Rattle.clap.proofs.WalkLemmas.{one_text-rows}
use Rattle.clap.specs.Words.{found_of}
use Rattle.prt_args.proofs.task.has_flag.Goals as goal

pub returns : goal.returns
returns c = record {
  given = λ set. c.get_flag.ensures.value (one_text-rows (found_of c.args.matches.now) c.args.name.now ∙ set);
  left_out = λ unset. c.get_flag.ensures.other (one_text-rows (found_of c.args.matches.now) c.args.name.now ∙ unset);
}
