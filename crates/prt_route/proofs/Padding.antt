-- A name in a fixed number of bytes.
use Rattle.std.proofs.Common.{◌≡◌, ℕ, ◌-◌, List, ◌++◌, length, take, drop, true, sym, ◌∙◌, ap}
use Rattle.std.specs.Prelude.{replicate}
use Rattle.std.proofs.lemmas.List.{drop-replicate}
use Rattle.std.proofs.Math.Seq.{take-append_seam}
use Rattle.prt_addr.specs.Word.{Word}
use Rattle.prt_route.specs.Name.{is_name}
use Rattle.prt_route.specs.Sound.{IsPadded}

-- a name before zeros is padded
pub padded : (w : Word) (bytes : List ℕ) → is_name w ≡ true → bytes ≡ w ++ drop (length w) (replicate 15 0) → IsPadded (length w) bytes
padded w bytes h e =
    let front : take (length w) bytes ≡ w = ap (take (length w)) e ∙ take-append_seam w (drop (length w) (replicate 15 0)) in
    record {
      whole = ap length front;
      zeros = ap (λ x. x ++ replicate (15 - length x) 0) front ∙ ap (λ x. w ++ x) (sym (drop-replicate (length w) 15 0)) ∙ sym e;
      name = ap is_name front ∙ h;
    }
