use Rattle.prt_import.proofs.Translating.{goes_on}
use Rattle.prt_import.proofs.translate.push_words.Goals as goal

pub loop-word-preserved : goal.loop-word-preserved
loop-word-preserved c = goes_on _ _ _ _ _ _ _ _ _ _ _ _ c.loop-word.invariant c.in-Some.ensures.0 c.in_ok-step.ensures c.in_ok-push_written.ensures
