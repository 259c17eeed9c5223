-- The prefix that has exactly the addresses of a range, looked for from the shortest one on.
use Rattle.std.proofs.Common.{◌≡◌, ℕ, ◌+◌, ◌-◌, ◌<◌, ◌≤◌, suc, true, false, cond, Option, Some, None, refl, sym, ap, ◌∙◌, subst, arith}
use Rattle.prt_addr.specs.Block.{Block}
use Rattle.prt_impact.specs.Text.{block_of, is_all_of, prefix_from}
use Rattle.prt_impact.specs.declared.group.AddrRange.{AddrRange}

prefix_none : (n : ℕ) (range : AddrRange) → n ≡ 0 → prefix_from n range ≡ None
unfolding prefix_from
prefix_none n range e = rw e refl

prefix_suc : (n : ℕ) (range : AddrRange) → prefix_from (suc n) range ≡ cond (is_all_of range (block_of range (32 - n))) (Some (block_of range (32 - n))) (prefix_from n range)
unfolding prefix_from
prefix_suc n range = refl

prefix_at : (len : ℕ) (range : AddrRange) → len < 33 → prefix_from (33 - len) range ≡ cond (is_all_of range (block_of range len)) (Some (block_of range len)) (prefix_from (33 - (len + 1)) range)
prefix_at len range lt =
    let rest : ℕ = 33 - (len + 1) in
    let more : suc rest ≡ 33 - len = omega arith in
    let same : 32 - rest ≡ len = omega arith in
    subst (λ n. prefix_from n range ≡ cond (is_all_of range (block_of range len)) (Some (block_of range len)) (prefix_from rest range)) more
    (prefix_suc rest range ∙ ap (λ l. cond (is_all_of range (block_of range l)) (Some (block_of range l)) (prefix_from rest range)) same)

pub shut : (len : ℕ) (range : AddrRange) (block : Block) (whole : Option Block) → len < 33 → block ≡ block_of range len → is_all_of range block ≡ false → prefix_from (33 - len) range ≡ whole → prefix_from (33 - (len + 1)) range ≡ whole
shut len range block whole lt is fails held =
    sym (prefix_at len range lt ∙ ap (λ b. cond b (Some (block_of range len)) (prefix_from (33 - (len + 1)) range)) (ap (is_all_of range) (sym is) ∙ fails)) ∙ held

pub opened : (len : ℕ) (range : AddrRange) (block : Block) (whole : Option Block) → len < 33 → block ≡ block_of range len → is_all_of range block ≡ true → prefix_from (33 - len) range ≡ whole → Some block ≡ whole
opened len range block whole lt is passes held =
    ap (λ b. Some b) is
    ∙ sym (prefix_at len range lt ∙ ap (λ b. cond b (Some (block_of range len)) (prefix_from (33 - (len + 1)) range)) (ap (is_all_of range) (sym is) ∙ passes))
    ∙ held

pub none_left : (len : ℕ) (range : AddrRange) (whole : Option Block) → 33 ≤ len → prefix_from (33 - len) range ≡ whole → None ≡ whole
none_left len range whole le held = let none : 33 - len ≡ 0 = omega arith in sym (prefix_none (33 - len) range none) ∙ held
