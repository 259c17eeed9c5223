use Rattle.std.proofs.Common.{◌≡◌, ◌*◌, ◌<◌, ◌≤◌, ℕ, inl, List, [], ◌∷◌, ◌++◌, refl, sym, subst, arith, ⊎_elim}
use Rattle.std.specs.List.{Contains}
use Rattle.std.proofs.lemmas.Bool.{cases_lt}
use Rattle.prt_partition.proofs.Starts.{contains_in, in_contains, in_left, in_right}
use Rattle.prt_fib.proofs.dividing.push_bases.Goals as goal

pub loop-octet-preserved : goal.loop-octet-preserved
loop-octet-preserved c =
    let old : List ℕ = c.loop-octet.starts.items in
    let octet : ℕ = c.loop-octet.octet in
    let base : ℕ = octet * 16777216 in
    let new : List ℕ = c.push.new.self.items in
    let made : new ≡ old ++ base ∷ [] = c.in_ok-push.ensures.items in
    let now = c.loop-octet.invariant in
    let kept : (n : ℕ) → Contains old n → Contains new n = λ n h. subst (λ xs. Contains xs n) (sym made) (in_contains n (old ++ base ∷ []) (in_left n old (base ∷ []) (contains_in n old h))) in
    record {
      keeps = λ n h. kept n (now.keeps n h);
      bases = λ k lt.
          ⊎_elim
          (λ (before : k < octet). kept (k * 16777216) (now.bases k before))
          (λ (from : octet ≤ k).
          let e : octet ≡ k = omega arith in
          subst (λ j. Contains new (j * 16777216)) e (subst (λ xs. Contains xs base) (sym made) (in_contains base (old ++ base ∷ []) (in_right base old (base ∷ []) (inl refl)))))
          (cases_lt k octet);
    }
