-- Jobs that are served one after another.
use Rattle.std.proofs.Common.{◌≡◌, ◌≤◌, ◌+◌, ◌-◌, ◌^◌, ℕ, List, [], ◌∷◌, ◌++◌, Option, refl, subst, arith, length, min}
use Rattle.std.proofs.lemmas.List.{length-append}
use Rattle.prt_published.specs.Line.{Line}
use Rattle.prt_serve.specs.Jobs.{ServesEach, ServesJob}
use Rattle.prt_serve.specs.declared.worker.Job.{Job}
use Rattle.prt_serve.specs.declared.worker.Served.{Served}

module _ {R W F : Type 0} (remaining : R → Option (List ℕ)) (contents : W → Option (List ℕ)) (takes : F → Served R W → F → Type 0) where
  -- one job more
  pub ServesEach-more : (known0 : Line) (after0 : F) (jobs : List (Job R W)) (known : Line) (after : F) (job : Job R W) (next : Line) (called : F) → ServesEach remaining contents takes known0 after0 jobs known after → ServesJob remaining contents takes known after job next called
      → ServesEach remaining contents takes known0 after0 (jobs ++ job ∷ []) next called
  ServesEach-more known0 after0 [] known after job next called is last =
      (next, called, subst (λ (l : Line). ServesJob remaining contents takes l after0 job next called) is.0 (subst (λ (f : F). ServesJob remaining contents takes known f job next called) is.1 last), (refl, refl))
  ServesEach-more known0 after0 (first ∷ jobs) known after job next called each last = (each.0, each.1, each.2, ServesEach-more each.0 each.1 jobs known after job next called each.3 last)

-- ---- their number

pub counted_more : {A : Type 0} (jobs : List A) (job : A) (number next : ℕ) → number ≡ min (length jobs) (2 ^ 64 - 1) → next ≡ min (number + 1) (2 ^ 64 - 1) → next ≡ min (length (jobs ++ job ∷ [])) (2 ^ 64 - 1)
counted_more jobs job number next was is = omega (arith, was, is, length-append jobs (job ∷ []))

pub counted_most : (most number : ℕ) → number ≡ min most (2 ^ 64 - 1) → number ≤ most
counted_most most number is = omega (arith, is)
