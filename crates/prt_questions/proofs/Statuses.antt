-- What was done after lines were left out.
use Rattle.std.proofs.Common.{◌≡◌, ◌≢◌, ◌⊎◌, ◌∙◌, inl, inr, ℕ, sym}
use Rattle.prt_args.specs.declared.fault.TheConstants.{DONE}

-- if all was done, both was
pub both_done : (done left result : ℕ) → ((done ≡ DONE) × (result ≡ left)) ⊎ ((done ≢ DONE) × (result ≡ done)) → result ≡ DONE → (done ≡ DONE) × (left ≡ DONE)
both_done done left result (inl is) all = (is.0, sym is.1 ∙ all)
both_done done left result (inr is) all = absurd (is.0 (sym is.1 ∙ all))
