-- `of` calls `into_raw_with_allocator`: the pointer and the handle that it returns are the parts, and own what the box owned.
use mathlib.Core.Path.{◌≡◌, refl, sym, subst}
use mathlib.Core.List.{List, [], ◌∷◌, ◌++◌}
use seplogic.Ra.Ura.{Ura}
use mir.Syntax.{Fn, Args, Dict, a_type, dcons, dnil}
use mir.MapTy.{inst_fn}
use mir.Val.{Val}
use base.Logic.{SProp, ent, id⊢}
use base.Fml.{ftrue, fsep, flft}
use contract.BorrowLft.{◌⊑◌}
use prog.Memory.{Memory}
use prog.Routine.{Routine}
use prog.Wp.{WpFn, Tables}
use types.Logic.{Logic}
use contract.Monad.{Fun, fact}
use contract.Running.{tables, tables_of}
use sound.WpLaws.{fm_of}
use types.Kit.{Item, ‵, raw, ◌⊛◌, some, later, ◌$◌, ◌∵◌, !, qed, by, move, drop, use1, join, split, split3, pick, rewrite, fsplit, fjoin, fpick, feq_l, suffices, await, done}
use types.Part.{whole as whole_of, sub, agg}
use types.Run.{stop, fld, no_more, and_then, of_opd, returns, enter}
use types.ByLocal.{alloc_all, pass_all, free_all, look_at, get, get_in, sets, lands_as}
use denote.Exit.{no}
use denote.Param.{bounded}
use denote.RawPtr.{Ptr, block_ptr}
use denote.Signature.{plain}
use denote.Steps.{heard, nothing}
use denote.Triple.Call.{calls_at}
use denote.Triple.Clauses.{Ended, Clauses}
use denote.Triple.Spec.{triple_of}
use denote.Triple.Statement.{Triple, Contract}
use denote.Triple.Walked.{says, Stays, stay_dropped, walk_of, ends_at}
use Rattle.core.proofs.alloc.Calls.{token, Goes-blank}
use Rattle.std_alloc.specs.Box.Ownership.{box_owns}
use Rattle.std_alloc.proofs.BoxSteps.Form.{Bx, R, B, word, box_typed}
use Rattle.prt_c.proofs.Apart.{Apart, Pair, box_word, pair_word}
use Rattle.std.proofs.raw_atomic.Walks.{proved_at}
use Rattle.std_alloc.specs.contracts.boxed.Box.into_raw_with_allocator as Ra
use Rattle.std_alloc.proofs.boxed.Box.into_raw_with_allocator.Symbol as raw_sym
use Rattle.std_alloc.proofs.boxed.Box.into_raw_with_allocator.Met as raw_met
use Rattle.prt_c.specs.contracts.parts.Parts.of as F
use Rattle.prt_c.specs.contracts.parts.Parts.of.Key.{name as #self}
use Rattle.prt_c.proofs.parts.Parts.of.Statement as stated
use Rattle.prt_c.proofs.parts.Parts.of.Code as code

module _ (E : Bx) (glue : Dict) where
  abbrev at_types : Args
  at_types = bounded (a_type ∷ a_type ∷ []) (E.row, (E.al.row, tt)) (dcons E.al.d (dcons E.al.drops (dcons glue dnil)))

  abbrev body : Fn
  body = inst_fn at_types code.function

  abbrev En : Ended
  En = F.ended E.row E.al.row E.al.g E.al.d E.al.drops glue

  abbrev goes : Stays En.signature.params En.kept
  goes = (stay_dropped (plain (λ _. B E)) no, tt)

  module _ {M : Type 1} {𝓤 : Ura M} (𝓛 : Logic 𝓤) (at_mem : Memory → SProp 𝓤) (run : Routine → Fun 𝓤) (𝓣 : Tables 𝓤 𝓛.H) where
    open 𝓛 use {H}

    abbrev says_that : Clauses 𝓤 En
    says_that = F.clauses E.row E.al.row E.al.g E.al.d E.al.drops glue 𝓛 at_mem run

    abbrev Opening : Contract 𝓤
    Opening = triple_of 𝓛 (Ra.signature E.row E.al.row E.al.g E.al.d E.al.drops glue) (Ra.spec E.row E.al.row E.al.g E.al.d E.al.drops glue 𝓛 at_mem run)

    walk : Triple 𝓤 (𝓣.C (raw_sym.name at_types)) Opening → (y : (walk_of 𝓛 En goes says_that).Ghost)
        → ent 𝓤 ((walk_of 𝓛 En goes says_that).pre y) (WpFn 𝓤 H 𝓣.C 𝓣.Λ body ((walk_of 𝓛 En goes says_that).args y) ((walk_of 𝓛 En goes says_that).post y))
    walk opens y =
        let κs = y.0.0 in let qs = y.0.1 in let whole = y.0.3.0 in let Post = (walk_of 𝓛 En goes says_that).post y in
        let lives : Item 𝓤 = ‵ (flft κs.0 qs.0) ⊛ ‵ (flft κs.1.0 qs.1.0) ⊛ ‵ ftrue in
        let within : Item 𝓤 = raw (fact 𝓤 (κs.0 ⊑ E.row.lives)) ⊛ raw (fact 𝓤 (κs.1.0 ⊑ E.al.row.lives)) ⊛ ‵ ftrue in
        qed 𝓛 ((lives ⊛ ‵ (fsep ((B E).own_val whole y.0.4.0) ftrue)) ∷ within ∷ []) ∵ split ! $ move ! (1 ∷ []) $ fsplit ! $ box_word E ! whole y.0.4.0 (λ b o hv is fits.
        let w = word E hv b o in let fine = box_typed E hv b o fits in
        let asked : Opening.Ghost = ((κs, qs, tt, (whole, tt), (w ∷ [], tt)), tt) in
        let Γ : List (Item 𝓤) = ‵ ((B E).own_val whole (w ∷ [])) ∷ ‵ ftrue ∷ lives ∷ within ∷ [] in
        by ! (subst (λ (us : List Val). ent 𝓤 (types.Kit.⋆ 𝓛 Γ) (WpFn 𝓤 H 𝓣.C 𝓣.Λ body (us ++ []) Post)) (sym is)
        (qed 𝓛 Γ ∵ enter ! 𝓣.C 𝓣.Λ body (w ∷ []) _ $ alloc_all ! (λ ls. pass_all ! refl (fine, tt) $ sets ! (of_opd ! (get ! refl)) refl fine $
        fjoin ! $ move ! (1 ∷ 0 ∷ []) $ join ! $ join ! $ use1 𝓛 (raw (Opening.pre asked)) (id⊢ 𝓤 _) $
        calls_at ! (fm_of 𝓤 H 𝓛.laws 𝓣) Opening opens asked (and_then ! (get ! refl) (no_more !)) (λ u.
        use1 𝓛 (later (some (λ (r : Ptr × E.al.row.Denot). (lives ⊛ ‵ ((Pair E).own_val r (u ∷ []))) ⊛ some (λ (_ : (Unit {0} × (Unit {0} × Unit {0})) × Unit {0}). ‵ (fsep (fsep ftrue (fsep ftrue ftrue)) ftrue) ⊛ (raw (fact 𝓤 (r.1 ≡ whole.alloc)) ⊛ ‵ (box_owns (token E.al whole.alloc) (R E) r.0 whole.value)))))) (id⊢ 𝓤 _) $
        await ! tt $ pick ! (λ r. split ! $ move ! (1 ∷ []) $ pick ! (λ _. split3 ! $ drop ! $ heard ! (r.1 ≡ whole.alloc) (λ same. move ! (1 ∷ []) $ split ! $
        -- [the tokens; the pair; the value with the right to free it]
        move ! (2 ∷ 1 ∷ 0 ∷ []) $ pair_word E ! r u whole.alloc whole.value same (λ b' o' hw told fits'.
        let made : (Apart E).Denot = record { ptr = block_ptr b' o'; alloc = whole.alloc; value = whole.value } in
        let v = word E hw b' o' in let good = box_typed E hw b' o' fits' in
        lands_as ! told refl good $
        sets ! (of_opd ! (get_in ! (fld ! refl (stop !)) (sub ! 0 refl (whole_of !)))) refl (tt, tt) $ sets ! (of_opd ! (get_in ! (fld ! refl (stop !)) (sub ! 1 refl (whole_of !)))) refl fits' $ sets ! (of_opd ! (get ! refl)) refl fits' $
        sets ! (agg ! (and_then ! (get ! refl) (and_then ! (get ! refl) (no_more !)))) refl good $ returns ! (look_at ! 0 refl) $ free_all ! refl $
        suffices ! _ (ends_at 𝓛 En goes says_that y v made ((tt, (tt, tt)), tt) (tt, tt)) $ says ! refl $
        nothing ! $ nothing ! $ fjoin ! $ join ! $ move ! (1 ∷ 0 ∷ []) $ join ! $ done !)))))))))

pub of_spec : {M : Type 1} → stated.statement M
unfolding tables_of
of_spec 𝓤 𝓛 𝓜 𝓡 wired X Z LX LZ g d dd glue allocator freed dropped =
    let E : Bx = record { row = X; laws = LX; al = record { row = Z; laws = LZ; g = g; d = d; drops = dd } } in
    let 𝓣 : Tables 𝓤 𝓛.H = tables_of 𝓤 𝓛.H 𝓜 (tables 𝓤 𝓛.H 𝓜 𝓡 𝓡.env) in
    let opens = raw_met.met 𝓤 𝓛 𝓜 𝓡 (code.calls-std_alloc::boxed::Box::into_raw_with_allocator 𝓡.env wired) X Z LX LZ g d dd glue allocator freed dropped in
    proved_at 𝓛 (En E glue) (goes E glue) (says_that E glue 𝓛 𝓜.mem 𝓡.returns 𝓣) 𝓜 𝓡 (Goes-blank 𝓛 2 (plain (λ _. B E)) no (λ κs x f. tt), tt)
    (#self (at_types E glue)) (body E glue) (code.unfolded 𝓤 𝓛.H 𝓜 𝓡 wired (X, (Z, tt)) d dd glue) (λ y _. walk E glue 𝓛 𝓜.mem 𝓡.returns 𝓣 opens y)
