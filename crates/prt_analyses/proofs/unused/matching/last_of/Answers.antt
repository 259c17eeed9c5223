use Rattle.std.proofs.Common.{ℕ, ◌≡◌, ◌+◌, ◌-◌, ◌^◌, ◌≤◌, ◌<◌, ap, arith}
use Rattle.std.proofs.lemmas.Nat.{pow_pos}
use Rattle.prt_addr.proofs.Ranges.{ends_within}
use Rattle.prt_analyses.proofs.unused.matching.last_of.Goals as goal

pub overflow_add-result : goal.overflow_add-result
overflow_add-result c =
    let prefix = c.args.prefix.now in
    let end : prefix.bits + 2 ^ (32 - prefix.len) ≤ 2 ^ 32 = ends_within prefix c.bits.ensures.prefix in
    let some : 0 < 2 ^ (32 - prefix.len) = pow_pos (32 - prefix.len) in
    let same : 2 ^ (32 - c.len.result) ≡ 2 ^ (32 - prefix.len) = ap (λ (n : ℕ). 2 ^ (32 - n)) c.len.ensures.value in
    omega arith
