-- One more start or class of a loop.
use Rattle.std.proofs.Common.{◌≡◌, ℕ, suc, ◌+◌, ◌<◌, Bool, cond, List, [], ◌∷◌, ◌++◌, Option, Some, length, get_or, take, drop, sym, ap, ◌∙◌, subst, add-one, drop-cons, find}
use Rattle.std.specs.List.{AllByRecursion as Each}
use Rattle.std.proofs.lemmas.List.{map-append, take_more}
use Rattle.std.proofs.lemmas.List.Concat.{flat_map-append}
use Rattle.std.specs.Option.{option_or}
use Rattle.prt_addr.proofs.Each.{each_append}
use Rattle.prt_rule.specs.declared.packet.Packet.{Packet}
use Rattle.prt_partition.specs.Cuts.{to}
use Rattle.prt_analyses.specs.Unused.Steps.{all_packets, mark_at, marked, packets_to}
use Rattle.prt_analyses.proofs.Finds.{find_append}
use Rattle.prt_analyses.proofs.Marks.{marked_both}

dropped : {X : Type 0} (xs : List X) (i : ℕ) (x : X) → i < length xs → x ≡ get_or xs i x → drop i xs ≡ x ∷ drop (i + 1) xs
dropped xs i x inside is = rw add-one (drop-cons xs i x inside ∙ ap (λ y. y ∷ drop (suc i) xs) (sym is))

dropped_number : (xs : List ℕ) (i : ℕ) → i < length xs → drop i xs ≡ get_or xs i 0 ∷ drop (i + 1) xs
dropped_number xs i inside = rw add-one (drop-cons xs i 0 inside)

-- ---- marks

pub marked_start : (place : Packet → Option ℕ) (flags new before : List Bool) (starts : List ℕ) (class : Packet) (i : ℕ) → i < length starts → new ≡ mark_at flags (place (to class (get_or starts i 0))) →
    marked place flags (packets_to (drop i starts) class) ≡ before → marked place new (packets_to (drop (i + 1) starts) class) ≡ before
marked_start place flags new before starts class i inside is held =
    ap (λ fs. marked place fs (packets_to (drop (i + 1) starts) class)) is
    ∙ ap (λ ns. marked place flags (packets_to ns class)) (sym (dropped_number starts i inside))
    ∙ held

pub marked_class : (place : Packet → Option ℕ) (flags new before : List Bool) (starts : List ℕ) (classes : List Packet) (class : Packet) (i : ℕ) → i < length classes → class ≡ get_or classes i class → new ≡ marked place flags (packets_to starts class) →
    marked place flags (all_packets starts (drop i classes)) ≡ before → marked place new (all_packets starts (drop (i + 1) classes)) ≡ before
marked_class place flags new before starts classes class i inside at is held =
    ap (λ fs. marked place fs (all_packets starts (drop (i + 1) classes))) is
    ∙ sym (marked_both place flags (packets_to starts class) (all_packets starts (drop (i + 1) classes)))
    ∙ ap (λ cs. marked place flags (all_packets starts cs)) (sym (dropped classes i class inside at))
    ∙ held

pub each_start : (P : Packet → Type 0) (starts : List ℕ) (class : Packet) (i : ℕ) → i < length starts → Each P (packets_to (take i starts) class) → P (to class (get_or starts i 0)) → Each P (packets_to (take (i + 1) starts) class)
each_start P starts class i inside before here =
    subst (Each P) (sym (ap (λ ns. packets_to ns class) (take_more starts i 0 inside) ∙ map-append (to class) (take i starts) (get_or starts i 0 ∷ [])))
    (each_append P (packets_to (take i starts) class) (to class (get_or starts i 0) ∷ []) before (here, tt))

pub each_class : (P : Packet → Type 0) (starts : List ℕ) (classes : List Packet) (class : Packet) (i : ℕ) → i < length classes → class ≡ get_or classes i class → Each P (all_packets starts (take i classes)) → Each P (packets_to starts class) → Each P (all_packets starts (take (i + 1) classes))
each_class P starts classes class i inside at before here =
    subst (Each P)
    (sym (ap (all_packets starts) (take_more classes i class inside ∙ ap (λ c. take i classes ++ c ∷ []) (sym at)) ∙ flat_map-append (packets_to starts) (take i classes) (class ∷ [])))
    (each_append P (all_packets starts (take i classes)) (all_packets starts (class ∷ [])) before (each_append P (packets_to starts class) [] here tt))

-- ---- searches

-- the packet to this start is found, or the search goes on
pub found_start : (p : Packet → Bool) (starts : List ℕ) (class : Packet) (i : ℕ) (b : Bool) → i < length starts → p (to class (get_or starts i 0)) ≡ b → find p (packets_to (drop i starts) class) ≡ cond b (Some (to class (get_or starts i 0))) (find p (packets_to (drop (i + 1) starts) class))
found_start p starts class i b inside is =
    ap (λ ns. find p (packets_to ns class)) (dropped_number starts i inside)
    ∙ ap (λ t. cond t (Some (to class (get_or starts i 0))) (find p (packets_to (drop (i + 1) starts) class))) is

pub found_class : (p : Packet → Bool) (starts : List ℕ) (classes : List Packet) (class : Packet) (i : ℕ) (o : Option Packet) → i < length classes → class ≡ get_or classes i class → o ≡ find p (packets_to starts class) → find p (all_packets starts (drop i classes)) ≡ option_or o (find p (all_packets starts (drop (i + 1) classes)))
found_class p starts classes class i o inside at is =
    ap (λ cs. find p (all_packets starts cs)) (dropped classes i class inside at)
    ∙ find_append p (packets_to starts class) (all_packets starts (drop (i + 1) classes))
    ∙ ap (λ q. option_or q (find p (all_packets starts (drop (i + 1) classes)))) (sym is)
