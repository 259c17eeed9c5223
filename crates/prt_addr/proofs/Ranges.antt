-- The addresses of a prefix as a range of numbers.
use Rattle.std.proofs.Common.{◌≡◌, ℕ, ◌+◌, ◌*◌, ◌-◌, ◌/◌, ◌%◌, ◌^◌, ◌<◌, ◌≤◌, true, nat_le, arith, ap, subst, eq-eqb}
use Prim.Native.Nat.{◌∣◌}
use Rattle.std.proofs.Math.Nat.{dvd-sub, dvd-mul_right, div-eq_of_lt-le}
use Rattle.std.specs.Cmp.{both_ways}
use Rattle.std.proofs.lemmas.Bool.{eqb-true, leb-true, le-leb}
use Rattle.std.proofs.lemmas.Nat.{pow_pos, pow-add, div-add-mod', mod_below}
use Rattle.std.proofs.lemmas.Nat.Gcd.{le_of_dvd, dvd_of_mod-eq-zero}
use Rattle.prt_addr.specs.Block.{Block}
use Rattle.prt_addr.specs.Sound.{IsPrefix}
use Rattle.prt_addr.specs.Prefix.{contains}
use Rattle.prt_addr.specs.declared.addr.Addr.{Addr}

-- how many addresses begin with the same number of bits
abbrev size : ℕ → ℕ
size len = 2 ^ (32 - len)

-- two multiples of g are at least g apart
pub apart : (g m n : ℕ) → g ∣ m → g ∣ n → m < n → m + g ≤ n
apart g m n hm hn lt =
    let step : g ≤ n - m = le_of_dvd (omega arith) (dvd-sub g hn hm) in omega arith

pub sizes_divide : (m n : ℕ) → m ≤ n → size n ∣ size m
sizes_divide m n h =
    let e : (32 - n) + ((32 - m) - (32 - n)) ≡ 32 - m = omega arith in
    let P : ℕ → Type 0 = λ k. size n ∣ 2 ^ k in
    subst P e (rw (pow-add 2 (32 - n) ((32 - m) - (32 - n))) (dvd-mul_right (2 ^ (32 - n)) (2 ^ ((32 - m) - (32 - n)))))

-- the last address of a prefix is one
pub ends_within : (block : Block) → IsPrefix block → block.bits + size block.len ≤ 2 ^ 32
ends_within block p = apart (size block.len) block.bits (2 ^ 32) (dvd_of_mod-eq-zero (size block.len) p.clear) (sizes_divide 0 block.len (omega arith)) p.fits

pub contains_tells : (block : Block) (a : ℕ) → IsPrefix block → contains block (record { 0 = a }) ≡ true → (block.bits ≤ a) × (a < block.bits + size block.len)
contains_tells block a p h =
    let g : ℕ = size block.len in
    let pos : 0 < g = pow_pos (32 - block.len) in
    let e : (a / g) * g ≡ (block.bits / g) * g = ap (λ (q : ℕ). q * g) (eqb-true (a / g) (block.bits / g) h) in
    let ea : (a / g) * g + a % g ≡ a = div-add-mod' a g in
    let eb : (block.bits / g) * g + block.bits % g ≡ block.bits = div-add-mod' block.bits g in
    let clear : block.bits % g ≡ 0 = p.clear in
    let below : a % g < g = mod_below a g pos in
    (omega arith, omega arith)

pub contains_from : (block : Block) (a : ℕ) → IsPrefix block → block.bits ≤ a → a < block.bits + size block.len → contains block (record { 0 = a }) ≡ true
contains_from block a p from to =
    let g : ℕ = size block.len in
    let eb : (block.bits / g) * g + block.bits % g ≡ block.bits = div-add-mod' block.bits g in
    let clear : block.bits % g ≡ 0 = p.clear in
    eq-eqb (a / g) (block.bits / g) (div-eq_of_lt-le {k = block.bits / g} g {m = a} (omega arith) (omega arith))

-- an address is one of a prefix if it is no further from the first, counted round, than the last is
pub is_in_reach : (block : Block) (mask : ℕ) (addr : Addr) → IsPrefix block → mask + 1 ≡ size block.len → addr.0 < 2 ^ 32 → nat_le ((addr.0 + (4294967296 - block.bits)) % 4294967296) mask ≡ contains block addr
is_in_reach block mask addr p whole fits =
    let g : ℕ = size block.len in
    let end : block.bits + g ≤ 4294967296 = ends_within block p in
    let distance : ℕ = (addr.0 + (4294967296 - block.bits)) % 4294967296 in
    both_ways (nat_le distance mask) (contains block addr)
    (λ h.
    let near : distance ≤ mask = leb-true distance mask h in
    contains_from block addr.0 p (omega arith) (omega arith))
    (λ h.
    let here : (block.bits ≤ addr.0) × (addr.0 < block.bits + g) = contains_tells block addr.0 p h in
    le-leb distance mask (omega arith))
