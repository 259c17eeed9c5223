use Rattle.std.proofs.Common.{◌≡◌, take}
use Rattle.std.specs.Prelude.{filter_map}
use Rattle.prt_import.specs.TableNames.{known_names}
use Rattle.prt_questions.specs.Fencing.{unread_key}
use Rattle.prt_questions.proofs.fencing.unread_keys.Given as goal

abbrev pub invariant-loop-line : goal.invariant-loop-line
invariant-loop-line l = l.keys.items ≡ filter_map (unread_key (known_names l.names)) (take l.line-index l.unread)
