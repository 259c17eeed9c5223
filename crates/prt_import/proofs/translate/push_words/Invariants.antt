use Rattle.std.proofs.Common.{length}
use Rattle.prt_command.specs.Reading.{words}
use Rattle.prt_import.specs.TableNames.{known_names}
use Rattle.prt_import.specs.Translation.{translated}
use Rattle.prt_import.proofs.Translating.{SoFar}
use Rattle.prt_import.proofs.translate.push_words.Given as goal

abbrev pub invariant-loop-word : goal.invariant-loop-word
invariant-loop-word l = SoFar (translated (known_names l.names) l.object l.fn.place (words l.fn.text)) (translated (known_names l.names) l.object l.place (words l.rest)) l.fn.out.items l.out.items l.is_scope_settled

abbrev pub decreases-loop-word : goal.decreases-loop-word
decreases-loop-word l = length l.rest
