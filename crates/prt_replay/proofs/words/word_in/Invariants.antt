use Rattle.std.proofs.Common.{◌≡◌, drop, map}
use Rattle.prt_replay.specs.EventWords.{word_in}
use Rattle.prt_replay.proofs.words.word_in.Given as goal

abbrev pub invariant-loop-text : goal.invariant-loop-text
invariant-loop-text l = word_in (map (λ row. (row.0.now, row.1)) l.fn.words) l.fn.word ≡ word_in (map (λ row. (row.0.now, row.1)) (drop l.text-index l.words)) l.fn.word
