-- The classes of packets, and that versions which agree on them agree on all.
use Rattle.std.proofs.Common.{◌≡◌, ℕ, ◌<◌, List, ◌++◌, length, get_or, None, sym, ◌∙◌, subst}
use Rattle.std.specs.List.{AllByRecursion as Each}
use Rattle.std.proofs.lemmas.List.{get_or_default}
use Rattle.prt_rule.specs.Rule.{matches}
use Rattle.prt_rule.specs.declared.packet.Packet.{Packet}
use Rattle.prt_rule.specs.declared.rule.Rule.{Rule}
use Rattle.prt_version.specs.Select.{select}
use Rattle.prt_version.specs.State.{State}
use Rattle.prt_partition.specs.Classes.{AreClasses}
use Rattle.prt_partition.specs.Cuts.{to}
use Rattle.prt_partition.specs.Differing.{IsDiffering, near_cuts}
use Rattle.prt_partition.specs.Equivalence.{GoesSame, IsChange, IsChangeOf, IsFirstChange}
use Rattle.prt_partition.specs.Sameness.{AreSame}
use Rattle.prt_partition.specs.Touching.{transition_of}
use Rattle.prt_partition.specs.declared.differing.Differing.{Differing}
use Rattle.prt_partition.specs.declared.sameness.Sameness.{Sameness}
use Rattle.prt_version.specs.declared.answer.Verdict.{Verdict}
use Rattle.prt_partition.proofs.Contrasts.{same_there}
use Rattle.prt_partition.proofs.WhatDiffers.{same_transition}
use Rattle.prt_partition.proofs.Alike.{same_select}
use Rattle.prt_partition.proofs.Between.{each_left, each_refl, each_right}
use Rattle.prt_partition.proofs.Starts.{contains_in, each_moved, in_contains, nearest}
use Rattle.prt_partition.proofs.SpanList.{rises}

-- ---- two versions

go_as_class : (state : State) (packet class : Packet) (addr : ℕ) → Each (λ (rule : Rule). matches rule (to packet addr) ≡ matches rule (to class addr)) state.rules → select state (to packet addr) ≡ select state (to class addr)
go_as_class state packet class addr alike = same_select state (to packet addr) (to class addr) (record { rules = alike; routes = each_refl state.routes (to packet addr) })

-- if the classes all go the same way, all packets do
pub one_way : (sameness : Sameness) (before after : State) (classes : List Packet) → AreClasses (before.rules ++ after.rules) classes → ((k : ℕ) → k < length classes → (d : Packet) → IsChangeOf sameness before after (get_or classes k d) None) → IsChange sameness before after None
one_way sameness before after classes are same packet is =
    let found = are packet is in
    let class : Packet = found.0 in
    let addr : ℕ = packet.dst.0 in
    let place = found.1 in
    let alike : Each (λ (rule : Rule). matches rule (to packet addr) ≡ matches rule (to class addr)) (before.rules ++ after.rules) = found.2 addr in
    let agree : GoesSame sameness before after (to class addr) = subst (λ (c : Packet). GoesSame sameness before after (to c addr)) place.2 (same place.0 place.1 class addr is.dst) in
    let was : select before (to packet addr) ≡ select before (to class addr) = go_as_class before packet class addr (each_left (λ (rule : Rule). matches rule (to packet addr) ≡ matches rule (to class addr)) before.rules after.rules alike) in
    let now : select after (to packet addr) ≡ select after (to class addr) = go_as_class after packet class addr (each_right (λ (rule : Rule). matches rule (to packet addr) ≡ matches rule (to class addr)) before.rules after.rules alike) in
    subst (λ (v : Verdict). AreSame sameness v (select after (to packet addr))) (sym was) (subst (λ (w : Verdict). AreSame sameness (select before (to class addr)) w) (sym now) agree)

-- if no start has a change, no destination has one
pub no_change : (sameness : Sameness) (before after : State) (class : Packet) (differing : Differing) → IsDiffering before after differing → IsFirstChange sameness before after class differing.starts.items None → IsChangeOf sameness before after class None
no_change sameness before after class differing is none addr fits =
    let starts = differing.starts.items in
    let blocks = differing.blocks.items in
    let cuts = near_cuts blocks before.rules after.rules before.routes after.routes in
    let near = nearest cuts starts addr (rises starts is.starts.rise) (each_moved cuts starts is.starts.all) (contains_in 0 starts is.starts.zero) in
    let start : ℕ = near.0 in
    let place = in_contains start starts near.1 in
    let there : transition_of sameness before after (to class start) ≡ None =
    subst (λ n. transition_of sameness before after (to class n) ≡ None) (get_or_default starts place.0 0 start place.1 ∙ place.2) (none place.0 place.1) in
    same_there sameness before after class addr
    (sym (same_transition sameness before after class blocks differing.rules.items differing.routes.items is.quiet is.confine start addr near.2 fits near.3) ∙ there)

-- the class at a place
pub at_class : (sameness : Sameness) (before after : State) (classes : List Packet) (i : ℕ) (class : Packet) → i < length classes → class ≡ get_or classes i class → IsChangeOf sameness before after class None → (d : Packet) → IsChangeOf sameness before after (get_or classes i d) None
at_class sameness before after classes i class inside is same d = subst (λ c. IsChangeOf sameness before after c None) (is ∙ get_or_default classes i class d inside) same
