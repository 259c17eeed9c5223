-- `into_box` calls `from_raw`, which takes what the parts own, and returns the box.
use mathlib.Core.Path.{◌≡◌, refl, sym, subst, ap}
use mathlib.Core.List.{List, [], ◌∷◌, ◌++◌}
use lib.Dec.{T}
use seplogic.Ra.Ura.{Ura}
use mir.Syntax.{Fn, Body, place, copy, assign, rv_opd, seq, return}
use mir.MapTy.{inst_fn}
use mir.Val.{Val, vptr, has_ty, WT}
use base.Logic.{SProp, ent, id⊢}
use base.Fml.{ftrue, fsep, flft}
use contract.BorrowLft.{◌⊑◌}
use prog.Memory.{Memory}
use prog.Routine.{Routine}
use prog.Wp.{WpFn, Tables}
use types.Logic.{Logic}
use contract.Monad.{Fun, fact}
use contract.Running.{tables, tables_of}
use sound.WpLaws.{fm_of}
use types.Kit.{Item, at_ret, ‵, raw, ◌⊛◌, some, later, ◌$◌, ◌∵◌, !, qed, by, move, drop, use1, join, split, split3, pick, rewrite, fsplit, fjoin, feq_i, suffices, await, done}
use types.Part.{whole, sub}
use types.Run.{stop, fld, no_more, and_then, of_opd, returns, enter, first, blocks, exec}
use types.ByLocal.{alloc_all, pass_all, free_all, look_at, get, get_in, sets, lands_last, env}
use denote.Exit.{no}
use denote.RawPtr.{block_ptr}
use denote.Signature.{plain}
use denote.Steps.{heard, nothing, only}
use denote.Triple.Call.{calls_at_last}
use denote.Triple.Clauses.{Ended, Clauses}
use denote.Triple.Spec.{triple_of}
use denote.Triple.Statement.{Triple, Contract}
use denote.Triple.Walked.{says, Stays, stay_dropped, walk_of, ends_at}
use Rattle.core.proofs.alloc.Calls.{token, Goes-blank}
use Rattle.std_alloc.specs.Box.Ownership.{box_owns}
use Rattle.std_alloc.proofs.BoxSteps.Form.{Bx, D, R, P, B, args, box_ty, word, box_typed}
use Rattle.std_alloc.proofs.BoxSteps.Steps.{box_out}
use Rattle.prt_c.proofs.Apart.{Apart, box_word}
use Rattle.std.proofs.raw_atomic.Walks.{proved_at}
use Rattle.std_alloc.specs.contracts.boxed.Box.from_raw as Fr
use Rattle.std_alloc.proofs.boxed.Box.from_raw.Symbol as raw_sym
use Rattle.std_alloc.proofs.boxed.Box.from_raw.Met as raw_met
use Rattle.prt_c.specs.contracts.parts.Parts.into_box as F
use Rattle.prt_c.specs.contracts.parts.Parts.into_box.Key.{name as #self}
use Rattle.prt_c.proofs.parts.Parts.into_box.Statement as stated
use Rattle.prt_c.proofs.parts.Parts.into_box.Code as code

-- what comes after the call
abbrev ending : Body
ending = seq (assign (place 0 []) (rv_opd (copy (place 4 [])))) return

module _ (E : Bx) where
  abbrev body : Fn
  body = inst_fn (args E) code.function

  abbrev En : Ended
  En = F.ended E.row E.al.row E.al.g E.al.d E.al.drops

  abbrev goes : Stays En.signature.params En.kept
  goes = (stay_dropped (plain (λ _. Apart E)) no, tt)

  module _ {M : Type 1} {𝓤 : Ura M} (𝓛 : Logic 𝓤) (at_mem : Memory → SProp 𝓤) (run : Routine → Fun 𝓤) (𝓣 : Tables 𝓤 𝓛.H) where
    open 𝓛 use {H}

    abbrev says_that : Clauses 𝓤 En
    says_that = F.clauses E.row E.al.row E.al.g E.al.d E.al.drops 𝓛 at_mem run

    abbrev Closing : Contract 𝓤
    Closing = triple_of 𝓛 (Fr.signature E.row E.al.row E.al.g E.al.d E.al.drops) (Fr.spec E.row E.al.row E.al.g E.al.d E.al.drops 𝓛 at_mem run)

    walk : Triple 𝓤 (𝓣.C (raw_sym.name (args E))) Closing → (y : (walk_of 𝓛 En goes says_that).Ghost)
        → ent 𝓤 ((walk_of 𝓛 En goes says_that).pre y) (WpFn 𝓤 H 𝓣.C 𝓣.Λ body ((walk_of 𝓛 En goes says_that).args y) ((walk_of 𝓛 En goes says_that).post y))
    walk closes y =
        let κs = y.0.0 in let qs = y.0.1 in let apart = y.0.3.0 in let Post = (walk_of 𝓛 En goes says_that).post y in
        let v : D E = record { ptr = apart.ptr; alloc = apart.alloc; value = apart.value } in
        let lives : Item 𝓤 = ‵ (flft κs.0 qs.0) ⊛ ‵ (flft κs.1.0 qs.1.0) ⊛ ‵ ftrue in
        let within : Item 𝓤 = raw (fact 𝓤 (κs.0 ⊑ E.row.lives)) ⊛ raw (fact 𝓤 (κs.1.0 ⊑ E.al.row.lives)) ⊛ ‵ ftrue in
        qed 𝓛 ((lives ⊛ ‵ (fsep ((B E).own_val v y.0.4.0) ftrue)) ∷ within ∷ []) ∵ split ! $ move ! (1 ∷ []) $ fsplit ! $ box_out E ! v y.0.4.0 (λ b o hv _ is fits. fjoin ! $
        let w = word E hv b o in
        let asked : Closing.Ghost = ((κs, qs, tt, (apart.alloc, (block_ptr b o, tt)), (hv ∷ [], (vptr b o ∷ [], tt))), apart.value) in
        let Γ : List (Item 𝓤) = ‵ (box_owns (token E.al apart.alloc) (R E) (block_ptr b o) apart.value) ∷ ‵ ((P E).own_val apart.alloc (hv ∷ [])) ∷ ‵ ftrue ∷ lives ∷ within ∷ [] in
        by ! (subst (λ (us : List Val). ent 𝓤 (types.Kit.⋆ 𝓛 Γ) (WpFn 𝓤 H 𝓣.C 𝓣.Λ body (us ++ []) Post)) (sym is)
        (qed 𝓛 Γ ∵ enter ! 𝓣.C 𝓣.Λ body (w ∷ []) _ $ alloc_all ! (λ ls. pass_all ! refl (box_typed E hv b o fits, tt) $
        sets ! (of_opd ! (get_in ! (fld ! refl (stop !)) (sub ! 0 refl (whole !)))) refl (tt, tt) $ sets ! (of_opd ! (get_in ! (fld ! refl (stop !)) (sub ! 1 refl (whole !)))) refl fits $
        first ! $ blocks ! $ sets ! (of_opd ! (get ! refl)) refl fits $
        move ! (4 ∷ []) $ split3 ! $ move ! (2 ∷ []) $ drop ! $ move ! (1 ∷ 2 ∷ []) $ join ! $ move ! (1 ∷ 0 ∷ []) $ join ! $
        -- [what the call requires; the handle; true; the tokens], and then the arguments before what it requires
        move ! (2 ∷ []) $ feq_i ! (List Val) (vptr b o ∷ []) (vptr b o ∷ []) refl $ fjoin ! $ move ! (2 ∷ 0 ∷ []) $ fjoin ! $ move ! (2 ∷ 0 ∷ []) $ join ! $ join ! $
        use1 𝓛 (raw (Closing.pre asked)) (id⊢ 𝓤 _) $
        calls_at_last ! (fm_of 𝓤 H 𝓛.laws 𝓣) Closing closes asked (and_then ! (get ! refl) (and_then ! (get ! refl) (no_more !))) (λ u.
        use1 𝓛 (later (some (λ (r : D E). (lives ⊛ ‵ ((B E).own_val r (u ∷ []))) ⊛ some (λ (_ : Unit {0} × (Unit {0} × Unit {0})). ‵ (fsep ftrue (fsep ftrue ftrue)) ⊛ (raw (fact 𝓤 (r.value ≡ apart.value)) ⊛ raw (fact 𝓤 (r.alloc ≡ apart.alloc))))))) (id⊢ 𝓤 _) $
        await ! tt $ pick ! (λ r. split ! $ move ! (1 ∷ []) $ pick ! (λ _. split3 ! $ drop ! $ heard ! (r.value ≡ apart.value) (λ same. drop ! $ split ! $ move ! (1 ∷ []) $
        box_word E ! r (u ∷ []) (λ b' o' hw told fits'. rewrite ! 0 (λ (us : List Val). ‵ ((B E).own_val r us)) (sym told) refl $
        let good : T (has_ty (box_ty E) u) × WT u = subst (λ (v' : Val). T (has_ty (box_ty E) v') × WT v') (sym (ap only told)) (box_typed E hw b' o' fits') in
        lands_last ! refl good $ exec ! 𝓣.C 𝓣.Λ (env body.locals ls) ending (at_ret (env body.locals ls) Post) $
        sets ! (of_opd ! (get ! refl)) refl good $ returns ! (look_at ! 0 refl) $ free_all ! refl $
        suffices ! _ (ends_at 𝓛 En goes says_that y u r ((tt, (tt, tt)), tt) (tt, tt)) $ says ! same $
        nothing ! $ nothing ! $ fjoin ! $ join ! $ move ! (1 ∷ 0 ∷ []) $ join ! $ done !)))))))))

pub into_box_spec : {M : Type 1} → stated.statement M
unfolding tables_of
into_box_spec 𝓤 𝓛 𝓜 𝓡 wired X Z LX LZ g d dd allocator freed =
    let E : Bx = record { row = X; laws = LX; al = record { row = Z; laws = LZ; g = g; d = d; drops = dd } } in
    let 𝓣 : Tables 𝓤 𝓛.H = tables_of 𝓤 𝓛.H 𝓜 (tables 𝓤 𝓛.H 𝓜 𝓡 𝓡.env) in
    let closes = raw_met.met 𝓤 𝓛 𝓜 𝓡 (code.calls-std_alloc::boxed::Box::from_raw 𝓡.env wired) X Z LX LZ g d dd allocator freed in
    proved_at 𝓛 (En E) (goes E) (says_that E 𝓛 𝓜.mem 𝓡.returns 𝓣) 𝓜 𝓡 (Goes-blank 𝓛 2 (plain (λ _. Apart E)) no (λ κs x f. tt), tt)
    (#self (args E)) (body E) (code.unfolded 𝓤 𝓛.H 𝓜 𝓡 wired (X, (Z, tt)) d dd) (λ y _. walk E 𝓛 𝓜.mem 𝓡.returns 𝓣 closes y)
