-- What no sample marks no packet uses.
use Rattle.std.proofs.Common.{◌≡◌, ◌⊎◌, inl, inr, ℕ, ◌<◌, Bool, true, false, List, Option, Some, length, get_or, sym, ◌∙◌, arith}
use Rattle.std.specs.Prelude.{map}
use Rattle.std.specs.List.{Contains, AllByRecursion as Each}
use Rattle.std.proofs.lemmas.Bool.{cases_Bool}
use Rattle.std.proofs.lemmas.List.{length-map}
use Rattle.prt_rule.specs.declared.packet.Packet.{Packet}
use Rattle.prt_version.specs.State.{State}
use Rattle.prt_partition.specs.Classes.{IsPacket}
use Rattle.prt_partition.specs.Cuts.{AreAlike}
use Rattle.prt_partition.proofs.Starts.{IsIn, contains_in, each_in}
use Rattle.prt_analyses.specs.Unused.Steps.{AreSamples, marked, unmarked}
use Rattle.prt_analyses.proofs.Marks.{at_left, each_marked, from_packet, left_at}

module _ {X : Type 0} (state : State) (xs : List X) (place : Packet → Option ℕ) (Uses : Packet → X → Type 0)
    (uses : (packet : Packet) (k : ℕ) (x : X) → place packet ≡ Some k → k < length xs → get_or xs k x ≡ x → Uses packet x)
    (placed : (packet : Packet) (k : ℕ) (x : X) → k < length xs → get_or xs k x ≡ x → Uses packet x → place packet ≡ Some k)
    (alike : (packet other : Packet) (x : X) → AreAlike state packet other → Uses packet x → Uses other x)
    (samples : List Packet) where
  abbrev flags : List Bool
  flags = marked place (map (λ x. false) xs) samples

  -- no packet uses what is left
  pub left_unused : AreSamples state samples → (x : X) → IsIn x (unmarked xs flags) → (packet : Packet) → IsPacket packet → Uses packet x → ⊥
  left_unused are x h packet is used =
      let at = left_at xs flags x h in
      let sample = are packet is in
      let here : place sample.0 ≡ Some at.0 = placed sample.0 at.0 x at.1 at.2 (alike packet sample.0 x sample.2 used) in
      let fits : at.0 < length (map (λ (x : X). false) xs) = omega (arith, at.1, length-map xs (λ (x : X). false)) in
      let set : get_or flags at.0 false ≡ true = each_marked place (map (λ x. false) xs) samples sample.0 at.0 (contains_in sample.0 samples sample.1) here fits in
      let e : false ≡ true = sym at.3 ∙ set in
      absurd cc

  -- what no packet uses is left
  pub unused_left : Each IsPacket samples → (x : X) → Contains xs x → ((packet : Packet) → IsPacket packet → Uses packet x → ⊥) → IsIn x (unmarked xs flags)
  unused_left packets x held none = by (cases_Bool (get_or flags held.0 false))
    where
      by : (get_or flags held.0 false ≡ true) ⊎ (get_or flags held.0 false ≡ false) → IsIn x (unmarked xs flags)
      by (inl set) =
          let from = from_packet place xs samples held.0 set in
          absurd (none from.0 (each_in IsPacket from.0 samples packets from.1) (uses from.0 held.0 x from.2 held.1 held.2))
      by (inr free) = at_left xs flags held.0 x held.1 held.2 free
