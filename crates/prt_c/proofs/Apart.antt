-- A box as one machine value, and what is had of a pointer and a handle that own what a box owns. Assumes `Logic`.
use mathlib.Core.Path.{◌≡◌, refl, ap, ◌∙◌}
use Rattle.std.specs.Prelude.{ℕ}
use mathlib.Core.List.{List, [], ◌∷◌, ◌++◌}
use seplogic.Ra.Ura.{Ura}
use mir.Raw.{raw as bare}
use mir.Val.{Val, vstruct, of_list}
use base.Logic.{fst∗, never}
use types.Logic.{Logic, sem}
use types.Kit.{Goal, Seq, Item, ‵, ◌$◌, move, drop, use1, rewrite, fsplit, fpick, feq_l}
use base.Logic.{id⊢}
use denote.RattleType.{RattleType}
use denote.RawPtr.{Ptr, RawPtr, block_ptr, null_ptr, ptr_val, in_a_block}
use denote.Steps.{only}
use denote.Struct.Tuple.{Tuple}
use Rattle.core.proofs.alloc.Calls.{Fits, token, handle_tells}
use Rattle.std_alloc.specs.Box.Ownership.{box_owns}
use Rattle.std_alloc.proofs.BoxSteps.Form.{Bx, D, τ, R, P, B, word}
use Rattle.std_alloc.proofs.BoxSteps.Steps.{box_out, box_in}
use Rattle.prt_c.specs.contracts.parts.Parts as parts

module _ (E : Bx) where
  -- the parts of such a box
  abbrev pub Apart : RattleType
  Apart = parts.the_row (R E) (P E) E.al.g

  -- a pointer and a handle
  abbrev pub Pair : RattleType
  Pair = Tuple (RawPtr ∷ P E ∷ [])

module _ (E : Bx) {M : Type 1} {𝓤 : Ura M} {𝓛 : Logic 𝓤} {K : Type 0} {Γ : List (Item 𝓤)} {G : Goal 𝓤 𝓛.H} where
  -- what a box owns is at one word
  pub box_word : K → (v : D E) (vs : List Val)
      → ((b o : ℕ) (hv : Val) → vs ≡ word E hv b o ∷ [] → Fits E.al hv → Seq K 𝓛 (‵ ((B E).own_val v (word E hv b o ∷ [])) ∷ Γ) G)
      → Seq K 𝓛 (‵ ((B E).own_val v vs) ∷ Γ) G
  box_word t v vs k = box_out E t v vs (λ b o hv at is fits. box_in E t v b o v.value at refl $ k b o hv is fits)

  -- a pair whose pointer owns a box's value is the parts of that box
  pub pair_word : K → (r : Ptr × E.al.row.Denot) (u : Val) (a : E.al.row.Denot) (x : E.row.Denot) → r.1 ≡ a
      → ((b o : ℕ) (hv : Val) → u ≡ word E hv b o → Fits E.al hv → Seq K 𝓛 (‵ ((Apart E).own_val (record { ptr = block_ptr b o; alloc = a; value = x }) (word E hv b o ∷ [])) ∷ Γ) G)
      → Seq K 𝓛 (‵ (box_owns (token E.al a) (R E) r.0 x) ∷ ‵ ((Pair E).own_val r (u ∷ [])) ∷ Γ) G
  pair_word t r u a x same k =
      in_a_block t r.0 (λ p. box_owns (token E.al a) (R E) p x) (fst∗ 𝓤 (never 𝓤) (sem 𝓛 (token E.al a (bare (τ E)) null_ptr))) (λ b o at.
      move t (1 ∷ []) $ fpick t (λ vss. fsplit t $ feq_l t (λ whole. fsplit t $ feq_l t (λ first. fsplit t $
      rewrite t 0 (λ (h : E.al.row.Denot). ‵ (E.al.row.own_val h vss.1.0)) same refl $ handle_tells E.al t a vss.1.0 (λ hv second fits.
      let d : D E = record { ptr = block_ptr b o; alloc = a; value = x } in
      -- [the handle; true; the value with the right to free it]
      move t (1 ∷ []) $ drop t $ move t (1 ∷ []) $ fsplit t $ box_in E t d b o x refl refl $
      use1 𝓛 (‵ ((Apart E).own_val (record { ptr = block_ptr b o; alloc = a; value = x }) (word E hv b o ∷ []))) (id⊢ 𝓤 _) $
      k b o hv (ap only (whole ∙ (λ j. vstruct (of_list ((first ∙ ap (λ (p : Ptr). ptr_val p ∷ []) at) j ++ (second j ++ []))) ∷ []))) fits)))))
