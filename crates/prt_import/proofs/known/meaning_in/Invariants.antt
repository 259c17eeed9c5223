use Rattle.std.proofs.Common.{◌≡◌, drop, map}
use Rattle.prt_import.specs.Known.{meaning_in}
use Rattle.prt_import.proofs.known.meaning_in.Given as goal

abbrev pub invariant-loop-name : goal.invariant-loop-name
invariant-loop-name l = meaning_in (map (λ row. (row.0.now, row.1)) l.fn.known) l.fn.word ≡ meaning_in (map (λ row. (row.0.now, row.1)) (drop l.name-index l.known)) l.fn.word
