use Rattle.std.proofs.Common.{◌∙◌, ap, codes}
use Rattle.std.specs.Prelude.{option_and_then}
use Rattle.clap.proofs.WalkLemmas.{first_value-rows}
use Rattle.clap.specs.Words.{found_of}
use Rattle.prt_args.specs.Invocation.{file_of}
use Rattle.prt_args.proofs.WordsRead.{path_of}
use Rattle.prt_args.proofs.task.file_in.Goals as goal

pub returns : goal.returns
returns c =
    let values = path_of c.get_str.result c.and_then.result c.and_then.ensures ∙ ap (option_and_then file_of) c.get_str.ensures in
    record { rows = values ∙ ap (option_and_then file_of) (first_value-rows (found_of c.args.matches.now) (codes "file")); value = values }
