use Rattle.std.proofs.Common.{◌≡◌, ◌++◌}
use Rattle.std.specs.Prelude.{drop}
use Rattle.prt_questions.specs.Analyses.{breaches_text}
use Rattle.prt_questions.proofs.asserting.push_all.Given as goal

abbrev pub invariant-loop-breach : goal.invariant-loop-breach
invariant-loop-breach l = l.out.items ++ breaches_text l.is_explained l.version (drop l.breach-index l.breaches) ≡ l.fn.out.items ++ breaches_text l.is_explained l.version l.breaches
