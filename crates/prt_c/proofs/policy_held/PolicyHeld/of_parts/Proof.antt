-- `of_parts` moves the pointer, under another type, and the handle: the holder owns what the parts owned.
use mathlib.Core.Path.{refl, sym, subst}
use mathlib.Core.List.{List, [], ◌∷◌, ◌++◌}
use Rattle.std.specs.Prelude.{Some}
use seplogic.Ra.Ura.{Ura}
use mir.Val.{Val}
use base.Logic.{SProp, ent, emp, id⊢}
use base.Fml.{ftrue, fsep}
use prog.Memory.{Memory}
use prog.Routine.{Routine}
use prog.Wp.{WpFn, Tables}
use types.Logic.{Logic}
use contract.Monad.{Fun}
use contract.Running.{tables, tables_of}
use types.Kit.{Item, ‵, raw, ◌⊛◌, ◌$◌, ◌∵◌, !, qed, by, move, drop, use1, join, split, fsplit, fjoin, suffices, done}
use types.Part.{whole, sub, agg}
use types.Run.{stop, fld, no_more, and_then, of_opd, returns, enter}
use types.ByLocal.{alloc_all, pass_all, free_all, look_at, get, get_in, sets}
use denote.Exit.{yes}
use denote.Steps.{nothing}
use denote.Triple.Clauses.{Clauses}
use denote.Triple.Walked.{says, Stays, stay_dropped, walk_of, ends_at, Goes-dropped}
use Rattle.std.proofs.raw_atomic.Walks.{proved_at}
use Rattle.std_alloc.proofs.BoxSteps.Form.{D, B, word, box_typed}
use Rattle.prt_c.proofs.Apart.{box_word}
use Rattle.prt_c.proofs.AsPolicyBox.{E, FromParts as From}
use Rattle.prt_c.specs.contracts.policy_held.PolicyHeld as Held
use Rattle.prt_c.specs.contracts.policy_held.PolicyHeld.of_parts as F
use Rattle.prt_c.specs.contracts.policy_held.PolicyHeld.of_parts.Key.{name as #self}
use Rattle.prt_c.proofs.policy_held.PolicyHeld.of_parts.Statement as stated
use Rattle.prt_c.proofs.policy_held.PolicyHeld.of_parts.Code as code

abbrev goes : Stays (F.ended).signature.params (F.ended).kept
goes = (stay_dropped From yes, tt)

module _ {M : Type 1} {𝓤 : Ura M} (𝓛 : Logic 𝓤) (at_mem : Memory → SProp 𝓤) (run : Routine → Fun 𝓤) (𝓣 : Tables 𝓤 𝓛.H) where
  open 𝓛 use {H}

  abbrev says_that : Clauses 𝓤 F.ended
  says_that = F.clauses 𝓛 at_mem run

  walk : (y : (walk_of 𝓛 F.ended goes says_that).Ghost)
      → ent 𝓤 ((walk_of 𝓛 F.ended goes says_that).pre y) (WpFn 𝓤 H 𝓣.C 𝓣.Λ code.function ((walk_of 𝓛 F.ended goes says_that).args y) ((walk_of 𝓛 F.ended goes says_that).post y))
  walk y =
      let Post = (walk_of 𝓛 F.ended goes says_that).post y in let parts = y.0.3.0 in
      let v : D E = record { ptr = parts.ptr; alloc = parts.alloc; value = parts.value } in
      let made : Held.the_row.Denot = record { ptr = v.ptr; alloc = v.alloc; home = Some v.value } in
      qed 𝓛 ((‵ ftrue ⊛ ‵ (fsep ((B E).own_val v y.0.4.0) ftrue)) ∷ raw (emp 𝓤) ∷ []) ∵ split ! $ drop ! $ fsplit ! $ box_word E ! v y.0.4.0 (λ b o hv is fits.
      let w = word E hv b o in let fine = box_typed E hv b o fits in
      use1 𝓛 (‵ (Held.the_row.own_val made (w ∷ []))) (id⊢ 𝓤 _) $ move ! (1 ∷ 2 ∷ []) $ drop ! $ drop ! $
      let Γ : List (Item 𝓤) = ‵ (Held.the_row.own_val made (w ∷ [])) ∷ [] in
      by ! (subst (λ (us : List Val). ent 𝓤 (types.Kit.⋆ 𝓛 Γ) (WpFn 𝓤 H 𝓣.C 𝓣.Λ code.function (us ++ []) Post)) (sym is)
      (qed 𝓛 Γ ∵ enter ! 𝓣.C 𝓣.Λ code.function (w ∷ []) _ $ alloc_all ! (λ ls. pass_all ! refl (fine, tt) $
      sets ! (of_opd ! (get_in ! (fld ! refl (stop !)) (sub ! 0 refl (whole !)))) refl (tt, tt) $ sets ! (of_opd ! (get_in ! (fld ! refl (stop !)) (sub ! 1 refl (whole !)))) refl fits $
      sets ! (of_opd ! (get ! refl)) refl (tt, tt) $ sets ! (agg ! (and_then ! (get ! refl) (and_then ! (get ! refl) (no_more !)))) refl fine $ returns ! (look_at ! 0 refl) $ free_all ! refl $
      suffices ! _ (ends_at 𝓛 F.ended goes says_that y w made (tt, tt) (tt, tt)) $ says ! refl $
      nothing ! $ nothing ! $ fjoin ! $ join ! $ nothing ! $ join ! $ done !))))

pub of_parts_spec : {M : Type 1} → stated.statement M
unfolding tables_of
of_parts_spec 𝓤 𝓛 𝓜 𝓡 wired =
    let 𝓣 : Tables 𝓤 𝓛.H = tables_of 𝓤 𝓛.H 𝓜 (tables 𝓤 𝓛.H 𝓜 𝓡 𝓡.env) in
    proved_at 𝓛 F.ended goes (says_that 𝓛 𝓜.mem 𝓡.returns 𝓣) 𝓜 𝓡 (Goes-dropped 𝓛 0 From yes (λ κs x f. refl), tt)
    #self code.function (code.unfolded 𝓤 𝓛.H 𝓜 𝓡 wired) (λ y _. walk 𝓛 𝓜.mem 𝓡.returns 𝓣 y)
