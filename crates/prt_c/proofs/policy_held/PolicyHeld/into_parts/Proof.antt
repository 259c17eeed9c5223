-- `into_parts` compares the pointer with null. Where it is another, what is owned goes with it.
use mathlib.Core.Path.{◌≡◌, refl, sym, subst}
use Rattle.std.specs.Prelude.{Option, None, Some}
use mathlib.Core.List.{List, [], ◌∷◌, ◌++◌}
use lib.Dec.{T, lit<}
use seplogic.Ra.Ura.{Ura}
use mir.Raw.{raw as bare}
use mir.Syntax.{Ty}
use mir.Val.{Val, vnull, vstruct, vcons, vnil, of_list, has_ty, WT}
use base.Logic.{SProp, ent, emp, id⊢, guard, guard_i}
use base.Fml.{ftrue, fsep}
use prog.Memory.{Memory}
use prog.Routine.{Routine}
use prog.Wp.{WpFn, Tables}
use types.Logic.{Logic, sem}
use contract.Monad.{Fun, fact_use}
use contract.Running.{tables, tables_of}
use sound.WpLaws.{WpFn-mono}
use types.Kit.{Item, ‵, raw, at_ret, given, learn, ◌⊛◌, ◌$◌, ◌∵◌, !, qed, by, move, drop, use0, use1, join, split, rewrite, fsplit, fjoin, fpick, feq_l, suffices, done}
use types.Part.{whole, sub, agg}
use types.Match.{live}
use types.Run.{stop, fld, lit, bin, no_more, and_then, of_opd, returns, returns_within, enter, first, branches, skips, exec}
use types.ByLocal.{alloc_all, pass_all, free_all, look_at, get, get_in, sets, env}
use denote.Exit.{yes}
use denote.RawPtr.{Ptr, null_ptr, block_ptr, ptr_val, Testable, tests_null}
use denote.Steps.{nothing}
use denote.Triple.Spec.{triple_of}
use denote.Triple.Table.{entered}
use denote.Triple.Walked.{says, Stays, stay_dropped, walk_of, ends_at, Goes-dropped, walk_Meets}
use Rattle.core.proofs.alloc.Calls.{α, Fits, token, handle_tells}
use Rattle.core.proofs.alloc.Shapes.{after}
use Rattle.core.proofs.option.Made.{Some-of, none_of}
use Rattle.core.specs.contracts.option.Option as option
use Rattle.std_alloc.proofs.BoxSteps.Form.{D, B, τ, box_ty, word, box_typed}
use Rattle.std_alloc.proofs.BoxSteps.Steps.{box_out, box_in}
use Rattle.std_alloc.proofs.ResultValues.{and_tt}
use Rattle.std_heap.proofs.GlobalToken.{dealloc_token-Testable}
use Rattle.std_heap.specs.contracts.Global as Heap
use Rattle.prt_c.proofs.AsPolicyBox.{E, FromHeld as From, Taken}
use Rattle.prt_c.specs.contracts.policy_owner.PolicyOwner as Owner
use Rattle.prt_c.specs.contracts.policy_held.PolicyHeld as Held
use Rattle.prt_c.specs.contracts.policy_held.PolicyHeld.into_parts as F
use Rattle.prt_c.specs.contracts.policy_held.PolicyHeld.into_parts.Key.{name as #self}
use Rattle.prt_c.proofs.policy_held.PolicyHeld.into_parts.Statement as stated
use Rattle.prt_c.proofs.policy_held.PolicyHeld.into_parts.Code as code

abbrev stayed : Stays (F.ended).signature.params (F.ended).kept
stayed = (stay_dropped From yes, tt)

-- the machine value of a null pointer beside a handle
abbrev of_null : Val → Val
of_null hv = vstruct (vcons vnull (vcons hv vnil))

typed_null : (hv : Val) → Fits E.al hv → T (has_ty (box_ty E) (of_null hv)) × WT (of_null hv)
typed_null hv fa = (and_tt (has_ty (α E.al) hv) fa.0, (record { fits = lit< tt }, (fa.1, tt)))

module _ {M : Type 1} {𝓤 : Ura M} (𝓛 : Logic 𝓤) (at_mem : Memory → SProp 𝓤) (run : Routine → Fun 𝓤) (𝓣 : Tables 𝓤 𝓛.H) where
  open 𝓛 use {H}

  abbrev Ghost : Type 0
  Ghost = (walk_of 𝓛 F.ended stayed (F.clauses 𝓛 at_mem run)).Ghost

  abbrev At : Held.the_row.Denot → List Val → Ghost
  At d vs = ((tt, tt, tt, (d, tt), (vs, tt)), tt)

  abbrev Post : Held.the_row.Denot → List Val → Val → SProp 𝓤
  Post d vs = (walk_of 𝓛 F.ended stayed (F.clauses 𝓛 at_mem run)).post (At d vs)

  tested : (a : Heap.the_row.Denot) (σ : Ty) (p : Ptr) → ent 𝓤 (sem 𝓛 (token E.al a σ p)) (guard 𝓤 (Testable p) (sem 𝓛 (token E.al a σ p)))
  tested a σ p = fact_use 𝓤 (Testable p) (dealloc_token-Testable 𝓛 a σ p) (guard_i 𝓤 (Testable p) (sem 𝓛 (token E.al a σ p)))

  goes : (p : Ptr) (a : Heap.the_row.Denot) (home : Option Owner.the_row.Denot) (vs : List Val)
      → let d : Held.the_row.Denot = record { ptr = p; alloc = a; home = home } in ent 𝓤 ((walk_of 𝓛 F.ended stayed (F.clauses 𝓛 at_mem run)).pre (At d vs)) (WpFn 𝓤 H 𝓣.C 𝓣.Λ code.function (vs ++ []) (Post d vs))
  goes p a None vs =
      let d : Held.the_row.Denot = record { ptr = p; alloc = a; home = None } in
      qed 𝓛 ((‵ ftrue ⊛ ‵ (fsep (Held.the_row.own_val d vs) ftrue)) ∷ raw (emp 𝓤) ∷ []) ∵ split ! $ drop ! $ fsplit ! $
      fsplit ! $ fpick ! (λ vss. fsplit ! $ feq_l ! (λ ev. fsplit ! $ feq_l ! (λ ep. fsplit ! $ handle_tells E.al ! a vss.1.0 (λ hv ea fa.
      drop ! $ drop ! $ feq_l ! (λ en. drop ! $ drop ! $
      let ws : vs ≡ of_null hv ∷ [] =
      subst (λ (q : Ptr). vs ≡ vstruct (of_list (ptr_val q ∷ hv ∷ [])) ∷ []) en
      (subst (λ (us : List Val). vs ≡ vstruct (of_list (ptr_val p ∷ (us ++ []))) ∷ []) ea (subst (λ (ps : List Val). vs ≡ vstruct (of_list (ps ++ (vss.1.0 ++ []))) ∷ []) ep ev)) in
      by ! (subst (λ (us : List Val). ent 𝓤 (types.Kit.⋆ 𝓛 []) (WpFn 𝓤 H 𝓣.C 𝓣.Λ code.function (us ++ []) (Post d vs))) (sym ws)
      (qed 𝓛 [] ∵ enter ! 𝓣.C 𝓣.Λ code.function (of_null hv ∷ []) _ $ alloc_all ! (λ ls. pass_all ! refl (typed_null hv fa, tt) $
      sets ! (of_opd ! (get_in ! (fld ! refl (stop !)) (sub ! 0 refl (whole !)))) refl (tt, record { fits = lit< tt }) $ sets ! (of_opd ! (get_in ! (fld ! refl (stop !)) (sub ! 1 refl (whole !)))) refl fa $
      sets ! (bin ! (get ! refl) (lit ! tt) (tests_null null_ptr (lit< tt))) refl (tt, tt) $
      first ! $ branches ! (get ! refl)
      (λ t. sets ! (agg ! (and_then ! (lit ! tt) (no_more !))) refl (tt, (record { fits = lit< tt }, tt)) $
      returns_within ! (Post d vs) refl (look_at ! 0 refl) $ free_all ! refl $
      use0 𝓛 (‵ ((option.the_row Taken).own_val None (live 0 (of_list []) ∷ []))) (none_of 𝓛 Taken) $
      suffices ! _ (ends_at 𝓛 F.ended stayed (F.clauses 𝓛 at_mem run) (At d vs) (live 0 (of_list [])) None (tt, tt) (tt, tt)) $ says ! refl $
      nothing ! $ nothing ! $ fjoin ! $ join ! $ nothing ! $ join ! $ done !)
      (λ t. absurd t)))))))))
  goes p a (Some x) vs =
      let d : Held.the_row.Denot = record { ptr = p; alloc = a; home = Some x } in
      let v : D E = record { ptr = p; alloc = a; value = x } in
      qed 𝓛 ((‵ ftrue ⊛ ‵ (fsep ((B E).own_val v vs) ftrue)) ∷ raw (emp 𝓤) ∷ []) ∵ split ! $ drop ! $ fsplit ! $
      box_out E ! v vs (λ b o hv e ws fa. move ! (1 ∷ []) $
      use1 𝓛 (given (Testable (block_ptr b o)) (‵ (token E.al a (bare (τ E)) (block_ptr b o)))) (tested a (bare (τ E)) (block_ptr b o)) $ learn ! (λ may. move ! (1 ∷ 0 ∷ []) $
      let made : Taken.Denot = record { ptr = block_ptr b o; alloc = a; value = x } in
      let box : D E = record { ptr = block_ptr b o; alloc = a; value = x } in
      let w : Val = word E hv b o in
      let back : Val = live 1 (of_list (w ∷ [])) in
      let fine = box_typed E hv b o fa in
      box_in E ! box b o x refl refl $ use1 𝓛 (‵ (Taken.own_val made (w ∷ []))) (id⊢ 𝓤 _) $
      use1 𝓛 (‵ ((option.the_row Taken).own_val (Some made) (back ∷ []))) (Some-of 𝓛 Taken made w) $ move ! (1 ∷ 2 ∷ []) $ drop ! $ drop ! $
      let Γ : List (Item 𝓤) = ‵ ((option.the_row Taken).own_val (Some made) (back ∷ [])) ∷ [] in
      by ! (subst (λ (us : List Val). ent 𝓤 (types.Kit.⋆ 𝓛 Γ) (WpFn 𝓤 H 𝓣.C 𝓣.Λ code.function (us ++ []) (Post d vs))) (sym ws)
      (qed 𝓛 Γ ∵ enter ! 𝓣.C 𝓣.Λ code.function (w ∷ []) _ $ alloc_all ! (λ ls. pass_all ! refl (fine, tt) $
      sets ! (of_opd ! (get_in ! (fld ! refl (stop !)) (sub ! 0 refl (whole !)))) refl (tt, tt) $ sets ! (of_opd ! (get_in ! (fld ! refl (stop !)) (sub ! 1 refl (whole !)))) refl fa $
      sets ! (bin ! (get ! refl) (lit ! tt) (tests_null (block_ptr b o) may)) refl (tt, tt) $
      first ! $ branches ! (get ! refl) (λ t. absurd t)
      (λ t. skips ! $ exec ! 𝓣.C 𝓣.Λ (env code.function.locals ls) (after 4 code.function.body) (at_ret (env code.function.locals ls) (Post d vs)) $
      sets ! (of_opd ! (get ! refl)) refl (tt, tt) $
      sets ! (agg ! (and_then ! (get ! refl) (and_then ! (get ! refl) (no_more !)))) refl fine $
      sets ! (agg ! (and_then ! (lit ! tt) (and_then ! (get ! refl) (no_more !)))) refl (and_tt _ fine.0, (record { fits = lit< tt }, (fine.1, tt))) $
      returns ! (look_at ! 0 refl) $ free_all ! refl $
      suffices ! _ (ends_at 𝓛 F.ended stayed (F.clauses 𝓛 at_mem run) (At d vs) back (Some made) (tt, tt) (tt, tt)) $ says ! refl $
      nothing ! $ nothing ! $ fjoin ! $ join ! $ nothing ! $ join ! $ done !))))))

  walk : (z : Ghost) → ent 𝓤 ((walk_of 𝓛 F.ended stayed (F.clauses 𝓛 at_mem run)).pre z) (WpFn 𝓤 H 𝓣.C 𝓣.Λ code.function (z.0.4.0 ++ []) ((walk_of 𝓛 F.ended stayed (F.clauses 𝓛 at_mem run)).post z))
  walk z = goes z.0.3.0.ptr z.0.3.0.alloc z.0.3.0.home z.0.4.0

pub into_parts_spec : {M : Type 1} → stated.statement M
unfolding tables_of
into_parts_spec 𝓤 𝓛 𝓜 𝓡 wired =
    let 𝓣 : Tables 𝓤 𝓛.H = tables_of 𝓤 𝓛.H 𝓜 (tables 𝓤 𝓛.H 𝓜 𝓡 𝓡.env) in
    entered 𝓤 𝓛.H (triple_of 𝓛 F.signature (F.spec 𝓛 𝓜.mem 𝓡.returns)) 𝓣.C 𝓣.Λ #self code.function (code.unfolded 𝓤 𝓛.H 𝓜 𝓡 wired)
    (walk_Meets 𝓛 F.ended stayed (Goes-dropped 𝓛 0 From yes (λ κs x f. refl), tt) (F.clauses 𝓛 𝓜.mem 𝓡.returns) (WpFn 𝓤 𝓛.H 𝓣.C 𝓣.Λ code.function) (WpFn-mono 𝓤 𝓛.H 𝓛.laws 𝓣 code.function)
    (walk 𝓛 𝓜.mem 𝓡.returns 𝓣))
