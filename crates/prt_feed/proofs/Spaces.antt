-- A line cut at its first space.
use Rattle.std.proofs.Common.{◌≡◌, ◌<◌, ◌+◌, ◌-◌, ℕ, zero, suc, true, List, [], ◌∷◌, ◌++◌, length, take, drop, get_or, Some, sym, ap, ◌∙◌, arith}
use Rattle.std.proofs.lemmas.Bool.{eqb-true}
use Rattle.std.proofs.lemmas.List.{length-drop, take_all}
use Rattle.std.proofs.lemmas.List.Quantifiers.{position-Some}
use Rattle.std.specs.List.{position}
use Rattle.std.specs.Prelude.{◌==◌}
use Rattle.prt_command.proofs.Splitting.{from}
use Rattle.prt_feed.specs.Changes.{IsCutAt}

-- a space at a place
cut_there : (bs : List ℕ) (at : ℕ) → at < length bs → (get_or bs at 0 == 32) ≡ true → bs ≡ take at bs ++ (32 ∷ drop (suc at) bs)
cut_there [] at within ends = absurd (omega arith)
cut_there (b ∷ bs) zero within ends = ap (λ x. x ∷ bs) (eqb-true b 32 ends)
cut_there (b ∷ bs) (suc at) within ends = ap (λ xs. b ∷ xs) (cut_there bs at (omega arith) ends)

pub cut_at : (bs : List ℕ) (at : ℕ) → position (λ b. b == 32) bs ≡ Some at → IsCutAt bs (take at bs) (from bs (at + 1))
cut_at bs at h =
    let found = position-Some (λ b. b == 32) bs at 0 h in
    let cut = cut_there bs at found.0 found.1 in
    let rest : from bs (at + 1) ≡ drop (at + 1) bs = take_all (length bs - (at + 1)) (drop (at + 1) bs) (let e = length-drop (at + 1) bs in omega (arith, e)) in
    let e : suc at ≡ at + 1 = omega arith in
    cut ∙ ap (λ n. take at bs ++ (32 ∷ drop n bs)) e ∙ ap (λ xs. take at bs ++ (32 ∷ xs)) (sym rest)
