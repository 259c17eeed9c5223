-- The mark of a rule, with its mask if `ip` needs it.
use Rattle.std.proofs.Common.{◌≡◌, ◌^◌, ◌-◌, ◌<◌, Bool, true, false, Ok, refl, ap, ◌∙◌, arith}
use Rattle.std.specs.Prelude.{codes, ◌==◌, if◌then◌else◌}
use Rattle.std.proofs.lemmas.Bool.Decides.{nat_tests}
use Rattle.prt_rule.specs.declared.rule.Mark.{Mark}
use Rattle.prt_command.specs.Mark.{mark}
use Rattle.prt_listing.specs.Parts.{mark_text}
use Rattle.prt_spelling.specs.Parts.{given_mark_text, is_zero_mark}
use Rattle.prt_spelling.proofs.Texts.{IsWord}
use Rattle.prt_spelling.proofs.Values.{mark_back, mark_by}
use Rattle.prt_spelling.proofs.Words.{both_true, mark_word}

back_by : (m : Mark) (b : Bool) → is_zero_mark m ≡ b → m.mark < 2 ^ 32 → m.mask < 2 ^ 32 → mark (if b then codes "0x0/0xffffffff" else mark_text m) ≡ Ok m
back_by m true is fits masks =
    let both = both_true (m.mark == 0) (m.mask == 2 ^ 32 - 1) is in
    let zero : 0 ≡ m.mark = grind (arith, nat_tests, both) in
    let whole : 0xffffffff ≡ m.mask = grind (arith, nat_tests, both) in
    ap (λ n. Ok (mark_by n 0xffffffff)) zero ∙ ap (λ mask. Ok (mark_by m.mark mask)) whole
back_by m false is fits masks = mark_back m fits masks

pub given_mark_back : (m : Mark) → m.mark < 2 ^ 32 → m.mask < 2 ^ 32 → mark (given_mark_text m) ≡ Ok m
given_mark_back m fits masks = back_by m (is_zero_mark m) refl fits masks

word_by : (m : Mark) (b : Bool) → m.mark < 2 ^ 32 → m.mask < 2 ^ 32 → IsWord 133 (if b then codes "0x0/0xffffffff" else mark_text m)
word_by m true fits masks = record { some = omega arith; plain = refl; short = omega arith }
word_by m false fits masks = mark_word m fits masks

pub given_mark_word : (m : Mark) → m.mark < 2 ^ 32 → m.mask < 2 ^ 32 → IsWord 133 (given_mark_text m)
given_mark_word m fits masks = word_by m (is_zero_mark m) fits masks
