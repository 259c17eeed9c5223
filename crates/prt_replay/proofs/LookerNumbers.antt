-- The number of a looker, as its word is read.
use Rattle.std.proofs.Common.{◌≡◌, ◌<◌, ℕ, Bool, Option, Some, None, Result, Ok, Err, SomeIff, ok_or, if◌then◌else◌, sym, ap, ◌∙◌, arith, nat_le}
use Rattle.std.proofs.lemmas.Bool.Decides.{nat_tests}
use Rattle.prt_addr.specs.Decimal.{at_most}
use Rattle.prt_addr.specs.Number.{number}
use Rattle.prt_addr.specs.Word.{Word}
use Rattle.prt_refusals.specs.declared.refusal.Refusal.{Refusal}
use Rattle.prt_refusals.specs.declared.refusal.Refusal.TheVariants.{BadNumber}
use Rattle.prt_command.proofs.Results.{err_result, ok_inj}
use Rattle.prt_replay.specs.ReadEvents.{looker}

abbrev among : Bool → ℕ → Result ℕ Refusal
among b n = ok_or (if b then Some n else None) BadNumber

absent : (n : ℕ) (r : Option ℕ) → SomeIff r (n < 64) n → ok_or r BadNumber ≡ among (nat_le n 63) n
absent n (Some k) h = grind (arith, nat_tests)
absent n None h = grind (arith, nat_tests)

spelled : (o r : Option ℕ) (n : ℕ) → ok_or o BadNumber ≡ Ok n → SomeIff r (n < 64) n → ok_or r BadNumber ≡ ok_or (at_most 63 o) BadNumber
spelled (Some m) r n h k = absent n r k ∙ ap (λ n. among (nat_le n 63) n) (sym (ok_inj m n h))
spelled None r n h k = grind arith

-- a number that is one of a looker, or of none
pub looker_is : (w : Word) (r : Option ℕ) (n : ℕ) → ok_or (number w) BadNumber ≡ Ok n → SomeIff r (n < 64) n → ok_or r BadNumber ≡ looker w
looker_is w r n h k = spelled (number w) r n h k

unspelled : (o : Option ℕ) (e : Refusal) → Err e ≡ ok_or o BadNumber → err_result e ≡ ok_or (at_most 63 o) BadNumber
unspelled (Some m) e h = grind arith
unspelled None e h = h

-- no number
pub looker_is_not : (w : Word) (e : Refusal) → Err e ≡ ok_or (number w) BadNumber → err_result e ≡ looker w
looker_is_not w e h = unspelled (number w) e h
