use Rattle.std.proofs.Common.{◌≡◌, ℕ, ◌+◌, false, not, Option, Some, None, ap, sym, ◌∙◌, arith, nat_eq}
use Rattle.std.specs.Option.{SomeIff, option_eq}
use Rattle.std.proofs.lemmas.Bool.Decides.{nat_tests}
use Rattle.prt_ask.proofs.mirror.Mirror.follow.Goals as goal

-- the number is the one that comes next
next_is : (number next : ℕ) (P : Type 0) (one : Option ℕ) → SomeIff one P next → not (option_eq nat_eq (Some number) one) ≡ false → number ≡ next
next_is number next P None is same = absurd cc
next_is number next P (Some other) is same = grind (arith, nat_tests, is, same)

pub returns-clause-number : goal.returns-clause-number
returns-clause-number c = next_is c.args.change.now.number _ _ c.checked_add.result c.checked_add.ensures (sym c.ne.ensures ∙ c.if-ne.false) ∙ ap (λ (n : ℕ). n + 1) c.number.ensures.value
