-- Which addresses prefixes have.
use Rattle.std.proofs.Common.{◌≡◌, ℕ, ◌+◌, ◌-◌, ◌/◌, ◌^◌, ◌<◌, ◌≤◌, true, refl, sym, ap, ◌∙◌, arith, eq-eqb}
use Rattle.std.proofs.Math.Nat.{div-div-eq-div-mul, div-mul-le_self}
use Rattle.std.proofs.lemmas.Bool.{eqb-true}
use Rattle.std.proofs.lemmas.Nat.{le-div, pow-add, pow_pos}
use Rattle.prt_addr.specs.Block.{Block}
use Rattle.prt_addr.specs.Prefix.{contains}

-- a prefix has its own bits
pub has_its_bits : (block : Block) → contains block (record { 0 = block.bits }) ≡ true
has_its_bits block = eq-eqb _ _ refl

div_rises : (a b g : ℕ) → 0 < g → a ≤ b → a / g ≤ b / g
div_rises a b g some upto = le-div (a / g) b g some (omega (arith, div-mul-le_self a g))

-- a prefix that has two addresses has each between them
pub has_between : (block : Block) (a x b : ℕ) → a ≤ x → x ≤ b → contains block (record { 0 = a }) ≡ true → contains block (record { 0 = b }) ≡ true → contains block (record { 0 = x }) ≡ true
has_between block a x b from upto first last =
    let g : ℕ = 2 ^ (32 - block.len) in
    let some : 0 < g = pow_pos (32 - block.len) in
    let below : a / g ≤ x / g = div_rises a x g some from in
    let above : x / g ≤ b / g = div_rises x b g some upto in
    let start : a / g ≡ block.bits / g = eqb-true (a / g) (block.bits / g) first in
    let end : b / g ≡ block.bits / g = eqb-true (b / g) (block.bits / g) last in
    eq-eqb (x / g) (block.bits / g) (omega arith)

coarser : (n fine coarse more : ℕ) → fine + more ≡ coarse → n / 2 ^ fine / 2 ^ more ≡ n / 2 ^ coarse
coarser n fine coarse more sum = div-div-eq-div-mul n (2 ^ fine) (2 ^ more) ∙ ap (λ g. n / g) (sym (pow-add 2 fine more) ∙ ap (λ k. 2 ^ k) sum)

-- of two prefixes that have one address, the one that isn't longer has the other's bits
pub has_longer : (short long : Block) (x : ℕ) → short.len ≤ long.len → contains short (record { 0 = x }) ≡ true → contains long (record { 0 = x }) ≡ true → contains short (record { 0 = long.bits }) ≡ true
has_longer short long x upto here there =
    let fine : ℕ = 32 - long.len in
    let coarse : ℕ = 32 - short.len in
    let sum : fine + (coarse - fine) ≡ coarse = omega arith in
    let same : x / 2 ^ fine ≡ long.bits / 2 ^ fine = eqb-true (x / 2 ^ fine) (long.bits / 2 ^ fine) there in
    eq-eqb (long.bits / 2 ^ coarse) (short.bits / 2 ^ coarse)
    (sym (coarser long.bits fine coarse (coarse - fine) sum)
    ∙ ap (λ n. n / 2 ^ (coarse - fine)) (sym same)
    ∙ coarser x fine coarse (coarse - fine) sum
    ∙ eqb-true (x / 2 ^ coarse) (short.bits / 2 ^ coarse) here)
