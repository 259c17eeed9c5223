-- A few blocks of marks in a fixed number of places.
use Rattle.std.proofs.Common.{◌≡◌, ◌-◌, ◌≤◌, List, ◌++◌, length, take, drop, sym, ◌∙◌, ap}
use Rattle.std.specs.Prelude.{replicate}
use Rattle.std.proofs.lemmas.List.{drop-replicate}
use Rattle.std.proofs.Math.Seq.{take-append_seam}
use Rattle.prt_rule.specs.declared.rule.Mark.{Mark}
use Rattle.prt_impact.specs.Padded.{IsPadded, no_mark}

-- blocks before places that have none are padded
pub padded : (blocks places : List Mark) → length blocks ≤ 16 → places ≡ blocks ++ drop (length blocks) (replicate 16 no_mark) → IsPadded (length blocks) places
padded blocks places few e =
    let front : take (length blocks) places ≡ blocks = ap (take (length blocks)) e ∙ take-append_seam blocks (drop (length blocks) (replicate 16 no_mark)) in
    record {
      whole = ap length front;
      zeros = ap (λ xs. xs ++ replicate (16 - length xs) no_mark) front ∙ ap (λ xs. blocks ++ xs) (sym (drop-replicate (length blocks) 16 no_mark)) ∙ sym e;
      few = few;
    }
