-- The parts of a text.
use Rattle.std.proofs.Common.{◌≡◌, ◌+◌, ◌-◌, ◌==◌, ◌∙◌, ℕ, List, Some, None, ap, arith, drop, length, position, sym, take}
use Rattle.std.specs.Prelude.{option_map}
use Rattle.std.proofs.lemmas.List.{length-drop, take_all}
use Rattle.prt_questions.specs.StatusText.{parts_at}

rest : (text : List ℕ) (at : ℕ) → take (length text - (at + 1)) (drop (at + 1) text) ≡ drop (at + 1) text
rest text at = take_all (length text - (at + 1)) (drop (at + 1) text) (let e = length-drop (at + 1) text in omega (arith, e))

pub some_parts : (byte : ℕ) (text : List ℕ) (at : ℕ) → position (λ b. b == byte) text ≡ Some at → parts_at byte text ≡ Some (take at text, take (length text - (at + 1)) (drop (at + 1) text))
some_parts byte text at is = ap (option_map (λ i. (take i text, drop (i + 1) text))) is ∙ ap (λ xs. Some (take at text, xs)) (sym (rest text at))

pub no_parts : (byte : ℕ) (text : List ℕ) → position (λ b. b == byte) text ≡ None → parts_at byte text ≡ None
no_parts byte text is = ap (option_map (λ i. (take i text, drop (i + 1) text))) is
