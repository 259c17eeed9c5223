-- The best of some rows, from the best of fewer.
use Rattle.std.proofs.Common.{◌≡◌, ◌⊎◌, ℕ, ◌+◌, ◌*◌, ◌-◌, ◌<◌, ◌≤◌, Bool, true, false, List, length, get_or, arith, inl, inr, ⊎_elim, refl, sym, ap, ◌∙◌}
use Rattle.std.proofs.Math.Nat.{dvd-add}
use Rattle.std.proofs.lemmas.Bool.{cases_lt, false_from_ne_true}
use Rattle.std.proofs.lemmas.Bool.Decides.{nat_tests}
use Rattle.std.proofs.lemmas.Nat.Gcd.{dvd_of_mod-eq-zero, dvd_trans}
use Rattle.prt_addr.specs.Block.{Block}
use Rattle.prt_addr.specs.Sound.{IsPrefix}
use Rattle.prt_addr.specs.Prefix.{contains, is_same_prefix}
use Rattle.prt_addr.proofs.Ranges.{apart, contains_tells, contains_from, sizes_divide}
use Rattle.prt_route.specs.declared.route.Route.{Route}
use Rattle.prt_trie.specs.Block.{size}
use Rattle.prt_trie.specs.Heaviest.{IsBest, IsHeaviest}
use Rattle.prt_trie.specs.Table.{IsTable}
use Rattle.prt_trie.proofs.Order.{in_order, order_of}

-- further places change nothing if none of them passes
pub more_none : (test : ℕ → Bool) (w : ℕ → ℕ) (count end before place : ℕ) → count ≤ end → ((k : ℕ) → count ≤ k → k < end → test k ≡ false) → IsHeaviest test w 0 count before place → IsHeaviest test w 0 end before place
more_none test w count end before place le none best = record {
  stands = ⊎_elim (λ (e : place ≡ before). inl e) (λ ((f, t, h) : (0 ≤ place) × (place < count) × (test place ≡ true)). inr (omega arith, omega arith, h)) best.stands;
  unbeaten = λ k f t h. ⊎_elim
      (λ (lt : k < count). let u : (0 ≤ place) × (place < count) × (w k ≤ w place) × (k < place → w k < w place) = best.unbeaten k f lt h in (omega arith, omega arith, u.2, u.3))
      (λ (ge : count ≤ k). let no : test k ≡ false = none k ge t in absurd (let n : true ≡ false = sym h ∙ no in cc))
      (cases_lt k count);
}

-- nor does one that passes if the one before it does, and is no better
pub more_same : (test : ℕ → Bool) (w : ℕ → ℕ) (count before place : ℕ) → 0 < count → (test count ≡ true → test (count - 1) ≡ true) → w count ≤ w (count - 1) → IsHeaviest test w 0 count before place → IsHeaviest test w 0 (count + 1) before place
more_same test w count before place some same le best = record {
  stands = ⊎_elim (λ (e : place ≡ before). inl e) (λ ((f, t, h) : (0 ≤ place) × (place < count) × (test place ≡ true)). inr (omega arith, omega arith, h)) best.stands;
  unbeaten = λ k f t h. ⊎_elim
      (λ (lt : k < count). let u : (0 ≤ place) × (place < count) × (w k ≤ w place) × (k < place → w k < w place) = best.unbeaten k f lt h in (omega arith, omega arith, u.2, u.3))
      (λ (ge : count ≤ k).
      let e : k ≡ count = omega arith in
      let at : test count ≡ true = ap test (sym e) ∙ h in
      let we : w k ≡ w count = ap w e in
      let u : (0 ≤ place) × (place < count) × (w (count - 1) ≤ w place) × (count - 1 < place → w (count - 1) < w place) = best.unbeaten (count - 1) (omega arith) (omega arith) (same at) in
      (omega arith, omega arith, omega arith, λ l. absurd (omega arith)))
      (cases_lt k count);
}

-- a last one that passes and is heavier than all others that do
pub best_last : (test : ℕ → Bool) (w : ℕ → ℕ) (count before : ℕ) → test count ≡ true → ((k : ℕ) → k < count → test k ≡ true → w k < w count) → IsHeaviest test w 0 (count + 1) before count
best_last test w count before here less = record {
  stands = inr (omega arith, omega arith, here);
  unbeaten = λ k f t h. ⊎_elim
      (λ (lt : k < count). let u : w k < w count = less k lt h in (omega arith, omega arith, omega arith, λ l. u))
      (λ (ge : count ≤ k). let e : k ≡ count = omega arith in let we : w k ≡ w count = ap w e in (omega arith, omega arith, omega arith, λ l. absurd (omega arith)))
      (cases_lt k count);
}

-- a prefix that doesn't come before another in the order, and begins in it, ends in it
pub ends_in : (a b : Block) → IsPrefix a → IsPrefix b → order_of a ≤ order_of b → b.bits < a.bits + size a.len → b.bits + size b.len ≤ a.bits + size a.len
ends_in a b p q le begins =
    let g : ℕ = size a.len in
    let h : ℕ = size b.len in
    let pa : a.len ≤ 32 = p.short in
    let pb : b.len ≤ 32 = q.short in
    ⊎_elim
    (λ (shorter : b.len < a.len).
    let lt : a.bits < b.bits = omega arith in
    let far : a.bits + g ≤ b.bits = apart g a.bits b.bits (dvd_of_mod-eq-zero g p.clear) (dvd_trans g (sizes_divide b.len a.len (omega arith)) (dvd_of_mod-eq-zero h q.clear)) lt in
    absurd (omega arith))
    (λ (longer : a.len ≤ b.len).
    apart h b.bits (a.bits + g) (dvd_of_mod-eq-zero h q.clear)
    (dvd-add h (dvd_trans h (sizes_divide a.len b.len longer) (dvd_of_mod-eq-zero g p.clear)) (sizes_divide a.len b.len longer))
    begins)
    (cases_lt b.len a.len)

-- of two prefixes with a common address the one that comes first in the order is shorter
pub is_shorter : (a b : Block) (addr : ℕ) → IsPrefix a → IsPrefix b → order_of a < order_of b → addr < a.bits + size a.len → b.bits ≤ addr → a.len < b.len
is_shorter a b addr p q lt to from =
    let g : ℕ = size a.len in
    let h : ℕ = size b.len in
    let pa : a.len ≤ 32 = p.short in
    let pb : b.len ≤ 32 = q.short in
    ⊎_elim
    (λ (l : a.len < b.len). l)
    (λ (ge : b.len ≤ a.len).
    let before : a.bits < b.bits = omega arith in
    let far : a.bits + g ≤ b.bits = apart g a.bits b.bits (dvd_of_mod-eq-zero g p.clear) (dvd_trans g (sizes_divide b.len a.len ge) (dvd_of_mod-eq-zero h q.clear)) before in
    absurd (omega arith))
    (cases_lt a.len b.len)

weighs_less : (k l m n : ℕ) → k < l → k * 4294967296 + (4294967295 - m) < l * 4294967296 + (4294967295 - n)
weighs_less k l m n lt = omega arith

-- no address outside its block is a prefix's
pub is_outside : (block : Block) (addr : ℕ) → IsPrefix block → (addr < block.bits) ⊎ (block.bits + size block.len ≤ addr) → contains block (record { 0 = addr }) ≡ false
is_outside block addr p out =
    false_from_ne_true (contains block (record { 0 = addr })) (λ h.
    let c : (block.bits ≤ addr) × (addr < block.bits + size block.len) = contains_tells block addr p h in
    ⊎_elim (λ (lo : addr < block.bits). omega arith) (λ (hi : block.bits + size block.len ≤ addr). omega arith) out)

-- rows that begin behind the address or end before it are no better
pub best_more : (rows : List Route) (count end addr place : ℕ) → IsTable rows → count ≤ end → end ≤ length rows →
    ((k : ℕ) (d : Route) → count ≤ k → k < end → (addr < (get_or rows k d).prefix.bits) ⊎ ((get_or rows k d).prefix.bits + size (get_or rows k d).prefix.len ≤ addr)) →
    IsBest rows count addr place → IsBest rows end addr place
best_more rows count end addr place table le all out best d =
    more_none _ _ count end _ place le (λ k f t. is_outside (get_or rows k d).prefix addr (table.prefixes k d (omega arith)) (out k d f t)) (best d)

-- nor is a row of the prefix of the one before it
pub best_again : (rows : List Route) (count addr place : ℕ) → IsTable rows → 0 < count → count < length rows →
    ((d : Route) → is_same_prefix (get_or rows (count - 1) d).prefix (get_or rows count d).prefix ≡ true) →
    IsBest rows count addr place → IsBest rows (count + 1) addr place
best_again rows count addr place table some lt same best d =
    let a : Block = (get_or rows (count - 1) d).prefix in
    let b : Block = (get_or rows count d).prefix in
    let s : is_same_prefix a b ≡ true = same d in
    let bits : a.bits ≡ b.bits = grind (arith, nat_tests) in
    let len : a.len ≡ b.len = grind (arith, nat_tests) in
    let e : contains b (record { 0 = addr }) ≡ contains a (record { 0 = addr }) = rw (← bits, ← len) refl in
    let o : (order_of a ≤ order_of b) × (order_of a ≡ order_of b → (get_or rows (count - 1) d).metric ≤ (get_or rows count d).metric) = in_order rows (count - 1) count d table (omega arith) lt in
    let m : (get_or rows (count - 1) d).metric ≤ (get_or rows count d).metric = o.1 (omega arith) in
    more_same _ _ count _ place some (λ h. sym e ∙ h) (omega arith) (best d)

unlike : (a b : Block) → IsPrefix a → IsPrefix b → order_of a ≤ order_of b → is_same_prefix a b ≡ false → order_of a < order_of b
unlike a b p q le differ =
    let pa : a.len ≤ 32 = p.short in
    let pb : b.len ≤ 32 = q.short in
    ⊎_elim (λ (lt : order_of a < order_of b). lt)
    (λ (ge : order_of b ≤ order_of a).
    let bits : a.bits ≡ b.bits = omega arith in
    let len : a.len ≡ b.len = omega arith in
    absurd (grind (arith, nat_tests)))
    (cases_lt (order_of a) (order_of b))

-- a row whose prefix the one before it hasn't is the best of all so far for its own addresses
pub best_new : (rows : List Route) (count addr : ℕ) → IsTable rows → count < length rows →
    (0 < count → (d : Route) → is_same_prefix (get_or rows (count - 1) d).prefix (get_or rows count d).prefix ≡ false) →
    ((d : Route) → (get_or rows count d).prefix.bits ≤ addr) → ((d : Route) → addr < (get_or rows count d).prefix.bits + size (get_or rows count d).prefix.len) →
    IsBest rows (count + 1) addr count
best_new rows count addr table lt other from to d =
    let b : Block = (get_or rows count d).prefix in
    let q : IsPrefix b = table.prefixes count d lt in
    best_last _ _ count _ (contains_from b addr q (from d) (to d))
    (λ k l h.
    let a : Block = (get_or rows k d).prefix in
    let z : Block = (get_or rows (count - 1) d).prefix in
    let p : IsPrefix a = table.prefixes k d (omega arith) in
    let r : IsPrefix z = table.prefixes (count - 1) d (omega arith) in
    let c : (a.bits ≤ addr) × (addr < a.bits + size a.len) = contains_tells a addr p h in
    let first : order_of a ≤ order_of z = (in_order rows k (count - 1) d table (omega arith) (omega arith)).0 in
    let then : order_of z ≤ order_of b = (in_order rows (count - 1) count d table (omega arith) lt).0 in
    let differ : is_same_prefix z b ≡ false = other (omega arith) d in
    let apart_from : order_of z < order_of b = unlike z b r q then differ in
    let shorter : a.len < b.len = is_shorter a b addr p q (omega arith) c.1 (from d) in
    weighs_less a.len b.len (get_or rows k d).metric (get_or rows count d).metric shorter)
