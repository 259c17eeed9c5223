use Rattle.std.proofs.Common.{◌≡◌, ℕ, List, sym, ◌∙◌, subst, arith}
use Rattle.std.specs.Arc.{arc_value}
use Rattle.std.specs.List.Sorted.{IsStrictlyIncreasing}
use Rattle.prt_addr.specs.Prefix.{masked}
use Rattle.prt_partition.specs.Cuts.{end}
use Rattle.prt_fib.specs.Following.{AreRenumbered, IsDivided}
use Rattle.prt_fib.specs.Pieces.{AreTold}
use Rattle.prt_fib.specs.Places.{IsCount}
use Rattle.prt_fib.proofs.Followed.{counts_rise, renumbered, unmasked}
use Rattle.prt_fib.proofs.following.piece_after.Goals as goal

pub count_below-from-requires : goal.count_below-from-requires
count_below-from-requires c = subst IsStrictlyIncreasing (sym c.deref.ensures.value) c.in_ok-made.ensures.from.rise

pub count_below-to-requires : goal.count_below-to-requires
count_below-to-requires c = subst IsStrictlyIncreasing (sym c.deref-2.ensures.value) c.in_ok-made.ensures.from.rise

pub renumber-requires-clause-order : goal.renumber-requires-clause-order
renumber-requires-clause-order c =
    let starts : List ℕ = c.in_ok-made.made.starts.items in
    let after = c.end-end.ensures.after in
    let bits = c.bits.ensures.value in
    let is = c.from-first.ensures in
    counts_rise starts c.from-first.result c.end-end.result c.count_below-from.result c.count_below-to.result (omega arith)
    (subst (λ s. IsCount s c.from-first.result c.count_below-from.result) c.deref.ensures.value c.count_below-from.ensures)
    (subst (λ s. IsCount s c.end-end.result c.count_below-to.result) c.deref-2.ensures.value c.count_below-to.ensures)

pub returns-clause-told : goal.returns-clause-told
returns-clause-told c = λ state changed told.
    let prefix = c.args.prefix.now in
    let base : ℕ = c.args.base in
    let starts : List ℕ = c.in_ok-made.made.starts.items in
    let numbers : List ℕ = c.in_ok-made.made.numbers.items in
    let new_numbers : List ℕ = c.renumber.new.numbers.items in
    let old = arc_value c.args.outcomes.now in
    let new = arc_value c.renumber.new.outcomes in
    let from : ℕ = c.count_below-from.result in
    let to : ℕ = c.count_below-to.result in
    let first_is : c.from-first.result ≡ (masked prefix).bits = c.from-first.ensures ∙ c.bits.ensures.value ∙ sym (unmasked prefix c.bits.ensures.prefix) in
    let end_is : c.end-end.result ≡ end prefix = c.end-end.ensures.value in
    let divided = c.in_ok-made.ensures in
    let is_from : IsCount starts (masked prefix).bits from = subst (λ n. IsCount starts n from) first_is (subst (λ s. IsCount s c.from-first.result from) c.deref.ensures.value c.count_below-from.ensures) in
    let is_to : IsCount starts (end prefix) to = subst (λ n. IsCount starts n to) end_is (subst (λ s. IsCount s c.end-end.result to) c.deref-2.ensures.value c.count_below-to.ensures) in
    let again : AreRenumbered c.args.next.now c.args.packet.now starts from to numbers new_numbers old new = subst (λ s. AreRenumbered c.args.next.now c.args.packet.now s from to numbers new_numbers old new) c.deref-3.ensures.value c.in_ok-renumber.ensures.value in
    let tells : AreTold c.args.next.now c.args.packet.now new base starts new_numbers =
    renumbered state c.args.next.now c.args.packet.now prefix changed old new again.keeps base starts numbers new_numbers from to (divided.tells state c.args.packet.now old told)
    (subst (IsDivided base starts) first_is divided.at_first) (subst (IsDivided base starts) end_is divided.at_end) is_from is_to again in
    subst (λ s. AreTold c.args.next.now c.args.packet.now new base s c.in_ok-after.after.numbers.items) (sym c.in_ok-after.ensures.starts)
    (subst (AreTold c.args.next.now c.args.packet.now new base starts) (sym c.in_ok-after.ensures.numbers) tells)
