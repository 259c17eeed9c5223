-- The differences of two versions have the destinations at which verdicts are not the same.
use Rattle.std.proofs.Common.{◌≡◌, ◌≢◌, ℕ, ◌^◌, ◌<◌, ◌≤◌, Bool, true, false, cond, ◌&&◌, ◌||◌, List, [], ◌∷◌, Option, Some, None, refl, sym, ap, ◌∙◌, arith, ⊎_elim, leb, ltb, lit<}
use Rattle.std.specs.Prelude.{map, option_map}
use Rattle.std.specs.List.{dedup, list_any, AllByRecursion as Each}
use Rattle.std.specs.Option.{option_eq, option_or}
use Rattle.std.proofs.lemmas.Bool.{cases_lt, le-leb, leb-true, lt-ltb, ltb-true}
use Rattle.std.proofs.lemmas.List.Elements.{recursion_from_All}
use Rattle.prt_addr.specs.Rising.{IsRising}
use Rattle.prt_addr.proofs.Each.{each_implies}
use Rattle.prt_rule.specs.declared.packet.Packet.{Packet}
use Rattle.prt_version.specs.Select.{select}
use Rattle.prt_version.specs.State.{State}
use Rattle.prt_version.specs.declared.answer.Verdict.{Verdict}
use Rattle.prt_partition.specs.Cuts.{to}
use Rattle.prt_partition.specs.Differing.{IsDiffering, near_cuts}
use Rattle.prt_partition.specs.Sameness.{AreSame, are_same, is_same_verdict}
use Rattle.prt_partition.specs.Spans.{AreDifferences, IsDifference, has, last_from}
use Rattle.prt_partition.specs.Steps.{contrast_from, difference_to, differences_of, have_same, is_same_transition, last_before, with_difference}
use Rattle.prt_partition.specs.Touching.{transition_of}
use Rattle.prt_partition.specs.declared.differences.Contrast.{Contrast}
use Rattle.prt_partition.specs.declared.differences.Difference.{Difference}
use Rattle.prt_partition.specs.declared.differing.Differing.{Differing}
use Rattle.prt_partition.specs.declared.sameness.Sameness.{Sameness}
use Rattle.prt_partition.specs.declared.comparison.Transition.{Transition}
use Rattle.prt_partition.proofs.Starts.{IsIn, IsSteady, Rises, begins_at_zero, contains_in, each_joined, each_moved, first_from, none_from, rise_joined, rise_made, steady, tells, tells_joined}
use Rattle.prt_partition.proofs.Verdicts.{all_same, verdicts_same}
use Rattle.prt_partition.proofs.SpanList.{rises}
use Rattle.prt_partition.proofs.WhatDiffers.{same_transition}

abbrev first : Contrast → ℕ
first contrast = contrast.first.0

abbrev value : Contrast → Option Transition
value contrast = contrast.transition

abbrev Later : ℕ → List Contrast → Type 0
Later n cs = Each (λ (c : Contrast). n < first c) cs

abbrev Fit : List Contrast → Type 0
Fit cs = Each (λ (c : Contrast). first c < 2 ^ 32) cs

abbrev Rise : List Contrast → Type 0
Rise cs = IsRising (λ (c d : Contrast). ltb (first c) (first d)) cs

both_true : (a b : Bool) → (a && b) ≡ true → (a ≡ true) × (b ≡ true)
both_true true b h = (refl, h)
both_true false b h = absurd cc

any_right : (b c : Bool) → c ≡ true → (b || c) ≡ true
any_right true c h = refl
any_right false c h = h

-- ---- transitions

abbrev transition_by : Verdict → Verdict → Transition
transition_by is was = record { was = was; is = is }

alike_transitions : (a b : Transition) → is_same_transition a b ≡ true → a ≡ b
alike_transitions a b h =
    let parts : (is_same_verdict a.was b.was ≡ true) × (is_same_verdict a.is b.is ≡ true) = both_true (is_same_verdict a.was b.was) (is_same_verdict a.is b.is) h in
    let was : a.was ≡ b.was = (verdicts_same a.was b.was).0 parts.0 in
    let is : a.is ≡ b.is = (verdicts_same a.is b.is).0 parts.1 in
    ap (transition_by a.is) was ∙ ap (λ v. transition_by v b.was) is

alike_by : (o p : Option Transition) → option_eq is_same_transition o p ≡ true → o ≡ p
alike_by None None h = refl
alike_by None (Some b) h = absurd cc
alike_by (Some a) None h = absurd cc
alike_by (Some a) (Some b) h = ap (λ t. Some t) (alike_transitions a b h)

alike : (c before : Contrast) → have_same c before ≡ true → value c ≡ value before
alike c before h = alike_by (value c) (value before) h

-- ---- one contrast and the next

-- a number that is past one start and not past the last one before the next
later_by : (c : Contrast) (cs : List Contrast) (n : ℕ) → Rise (c ∷ cs) → Fit (c ∷ cs) → n ≤ last_before cs → (n < 2 ^ 32) × Later n cs
later_by c [] n rise fit le = (omega arith, tt)
later_by c (d ∷ ds) n rise fit le =
    let lt : first c < first d = ltb-true (first c) (first d) rise.0.0 in
    let fits : first d < 2 ^ 32 = fit.1.0 in
    (omega arith, (omega arith, each_implies (λ (e : Contrast). ltb (first d) (first e) ≡ true) (λ (e : Contrast). n < first e) (λ e h. let k : first d < first e = ltb-true (first d) (first e) h in omega arith) ds rise.1.0))

before_by : (c : Contrast) (cs : List Contrast) (n : ℕ) → n < 2 ^ 32 → Later n cs → n ≤ last_before cs
before_by c [] n fits later = omega arith
before_by c (d ∷ ds) n fits later = let lt : n < first d = later.0 in omega arith

found_later : (o p : Option Contrast) (d : Contrast) (b : Bool) → b ≡ true → option_or (option_or o (cond b (Some d) None)) p ≡ option_or o (cond b (Some d) None)
found_later (Some e) p d b h = refl
found_later None p d true h = refl
found_later None p d false h = absurd cc

module _ (f : ℕ → Option Transition) where
  -- from the first of them on, the last one before a number tells what the function gives
  abbrev Tell : Contrast → List Contrast → Type 0
  Tell c cs = (n : ℕ) → first c ≤ n → n < 2 ^ 32 → option_map value (last_from first (c ∷ cs) n) ≡ Some (f n)

  tell_later : (c d : Contrast) (ds : List Contrast) → Rise (c ∷ d ∷ ds) → Tell c (d ∷ ds) → Tell d ds
  tell_later c d ds rise tell n le fits =
      let lt : first c < first d = ltb-true (first c) (first d) rise.0.0 in
      ap (λ o. option_map value o) (sym (found_later (last_from first ds n) (cond (leb (first c) n) (Some c) None) d (leb (first d) n) (le-leb (first d) n le)))
      ∙ tell n (omega arith) fits

  tell_here : (c : Contrast) (cs : List Contrast) → Tell c cs → (n : ℕ) → first c ≤ n → n < 2 ^ 32 → Later n cs → value c ≡ f n
  tell_here c cs tell n le fits later =
      let e : Some (value c) ≡ Some (f n) = ap (λ o. option_map value o) (sym (first_from first value c cs n le later)) ∙ tell n le fits in
      cc

  -- what a difference says is so
  record IsSound (d : Difference) : Type 0 where
    some : d.first.0 ≤ d.last.0
    is : (n : ℕ) → has n d ≡ true → f n ≡ Some (record { was = d.was; is = d.is })

  sound_by : (c : Contrast) (cs : List Contrast) (o : Option Transition) → value c ≡ o → Rise (c ∷ cs) → Fit (c ∷ cs) → Tell c cs → Each IsSound (differences_of cs) → Each IsSound (with_difference (first c) o (last_before cs) (differences_of cs))
  sound_by c cs None e rise fit tell rest = rest
  sound_by c cs (Some t) e rise fit tell rest =
      let later : Later (first c) cs = each_implies (λ (d : Contrast). ltb (first c) (first d) ≡ true) (λ (d : Contrast). first c < first d) (λ d h. ltb-true (first c) (first d) h) cs rise.0 in (
        record {
          some = before_by c cs (first c) fit.0 later;
          is = λ n h.
              let parts : (leb (first c) n ≡ true) × (leb n (last_before cs) ≡ true) = both_true (leb (first c) n) (leb n (last_before cs)) h in
              let within : (n < 2 ^ 32) × Later n cs = later_by c cs n rise fit (leb-true n (last_before cs) parts.1) in
              sym (tell_here c cs tell n (leb-true (first c) n parts.0) within.0 within.1) ∙ e;
        },
        rest,
      )

  sound : (c : Contrast) (cs : List Contrast) → Rise (c ∷ cs) → Fit (c ∷ cs) → Tell c cs → Each IsSound (differences_of (c ∷ cs))
  sound c [] rise fit tell = sound_by c [] (value c) refl rise fit tell tt
  sound c (d ∷ ds) rise fit tell = sound_by c (d ∷ ds) (value c) refl rise fit tell (sound d ds rise.1 fit.1 (tell_later c d ds rise tell))

  complete_by : (c : Contrast) (cs : List Contrast) (n : ℕ) (o : Option Transition) → o ≢ None → first c ≤ n → n < 2 ^ 32 → Later n cs → list_any (has n) (with_difference (first c) o (last_before cs) (differences_of cs)) ≡ true
  complete_by c cs n None some le fits later = absurd (some refl)
  complete_by c cs n (Some t) some le fits later =
      let low : leb (first c) n ≡ true = le-leb (first c) n le in
      let high : leb n (last_before cs) ≡ true = le-leb n (last_before cs) (before_by c cs n fits later) in
      rw (low, high) refl

  complete_here : (c : Contrast) (cs : List Contrast) → Tell c cs → (n : ℕ) → first c ≤ n → n < 2 ^ 32 → f n ≢ None → Later n cs → list_any (has n) (differences_of (c ∷ cs)) ≡ true
  complete_here c cs tell n le fits some later =
      complete_by c cs n (value c) (λ none. some (sym (tell_here c cs tell n le fits later) ∙ none)) le fits later

  complete_later : (c : Contrast) (cs : List Contrast) (n : ℕ) (o : Option Transition) → list_any (has n) (differences_of cs) ≡ true → list_any (has n) (with_difference (first c) o (last_before cs) (differences_of cs)) ≡ true
  complete_later c cs n None h = h
  complete_later c cs n (Some t) h = any_right (has n (difference_to (first c) (last_before cs) t)) (list_any (has n) (differences_of cs)) h

  complete : (c : Contrast) (cs : List Contrast) → Rise (c ∷ cs) → Tell c cs → (n : ℕ) → first c ≤ n → n < 2 ^ 32 → f n ≢ None → list_any (has n) (differences_of (c ∷ cs)) ≡ true
  complete c [] rise tell n le fits some = complete_here c [] tell n le fits some tt
  complete c (d ∷ ds) rise tell n le fits some =
      ⊎_elim
      (λ (lt : n < first d). complete_here c (d ∷ ds) tell n le fits some (lt, each_implies (λ (e : Contrast). ltb (first d) (first e) ≡ true) (λ (e : Contrast). n < first e) (λ e h. let k : first d < first e = ltb-true (first d) (first e) h in omega arith) ds rise.1.0))
      (λ (ge : first d ≤ n). complete_later c (d ∷ ds) n (value c) (complete d ds rise.1 (tell_later c d ds rise tell) n ge fits some))
      (cases_lt n (first d))

-- ---- each ends before the next one begins

firsts_by : (m : ℕ) (c : Contrast) (cs : List Contrast) (o : Option Transition) → m < first c → Each (λ (d : Difference). ltb m d.first.0 ≡ true) (differences_of cs) → Each (λ (d : Difference). ltb m d.first.0 ≡ true) (with_difference (first c) o (last_before cs) (differences_of cs))
firsts_by m c cs None lt rest = rest
firsts_by m c cs (Some t) lt rest = (lt-ltb m (first c) lt, rest)

firsts : (m : ℕ) (cs : List Contrast) → Later m cs → Each (λ (d : Difference). ltb m d.first.0 ≡ true) (differences_of cs)
firsts m [] later = tt
firsts m (c ∷ cs) later = firsts_by m c cs (value c) later.0 (firsts m cs later.1)

last_is_before : (c : Contrast) (cs : List Contrast) → Rise (c ∷ cs) → Later (last_before cs) cs
last_is_before c [] rise = tt
last_is_before c (d ∷ ds) rise =
    let lt : first c < first d = ltb-true (first c) (first d) rise.0.0 in
    (omega arith, each_implies (λ (e : Contrast). ltb (first d) (first e) ≡ true) (λ (e : Contrast). last_before (d ∷ ds) < first e) (λ e h. let k : first d < first e = ltb-true (first d) (first e) h in omega arith) ds rise.1.0)

abbrev Apart : List Difference → Type 0
Apart ds = IsRising (λ (d e : Difference). ltb d.last.0 e.first.0) ds

apart_by : (c : Contrast) (cs : List Contrast) (o : Option Transition) → Each (λ (d : Difference). ltb (last_before cs) d.first.0 ≡ true) (differences_of cs) → Apart (differences_of cs) → Apart (with_difference (first c) o (last_before cs) (differences_of cs))
apart_by c cs None above rest = rest
apart_by c cs (Some t) above rest = (above, rest)

apart : (cs : List Contrast) → Rise cs → Apart (differences_of cs)
apart [] rise = tt
apart (c ∷ cs) rise = apart_by c cs (value c) (firsts (last_before cs) cs (last_is_before c cs rise)) (apart cs rise.1)

-- ---- of two versions

module _ (sameness : Sameness) (before after : State) (packet : Packet) where
  abbrev at : ℕ → Option Transition
  at n = transition_of sameness before after (to packet n)

  abbrev make : ℕ → Contrast
  make n = contrast_from sameness before after packet n

  pub record IsOf (v w : Verdict) (t : Transition) : Type 0 where
    pub was : v ≡ t.was
    pub is : w ≡ t.is
    pub differs : ¬ AreSame sameness t.was t.is

  abbrev by : Bool → Verdict → Verdict → Option Transition
  by b v w = cond b None (Some (record { was = v; is = w }))

  of_by : (v w : Verdict) (b : Bool) (t : Transition) → are_same sameness v w ≡ b → by b v w ≡ Some t → IsOf v w t
  of_by v w true t e is = absurd cc
  of_by v w false t e is =
      let made : Transition = record { was = v; is = w } in
      let same : made ≡ t = cc in
      let was : v ≡ t.was = ap (λ (t : Transition). t.was) same in
      let now : w ≡ t.is = ap (λ (t : Transition). t.is) same in
      record {
        was = was;
        is = now;
        differs = λ alike. let yes : are_same sameness t.was t.is ≡ true = (all_same sameness t.was t.is).1 alike in let no : are_same sameness t.was t.is ≡ false = ap (λ x. are_same sameness x t.is) (sym was) ∙ ap (are_same sameness v) (sym now) ∙ e in let f : true ≡ false = sym yes ∙ no in cc;
      }

  pub is_of : (n : ℕ) (t : Transition) → at n ≡ Some t → IsOf (select before (to packet n)) (select after (to packet n)) t
  is_of n t e = of_by (select before (to packet n)) (select after (to packet n)) (are_same sameness (select before (to packet n)) (select after (to packet n))) t refl e

  none_by : (v w : Verdict) (b : Bool) → are_same sameness v w ≡ b → by b v w ≡ None → AreSame sameness v w
  none_by v w true e is = (all_same sameness v w).0 e
  none_by v w false e is = absurd cc

  -- no transition
  pub same_there : (n : ℕ) → at n ≡ None → AreSame sameness (select before (to packet n)) (select after (to packet n))
  same_there n e = none_by (select before (to packet n)) (select after (to packet n)) (are_same sameness (select before (to packet n)) (select after (to packet n))) refl e

  fit_made : (ns : List ℕ) → Each (λ n. n < 2 ^ 32) ns → Fit (map make ns)
  fit_made [] h = tt
  fit_made (n ∷ ns) h = (h.0, fit_made ns h.1)

  abbrev joined : List ℕ → List Contrast
  joined starts = dedup have_same (map make starts)

  Tells : List Contrast → Type 0
  Tells cs = (n : ℕ) → n < 2 ^ 32 → option_map value (last_from first cs n) ≡ Some (at n)

  begins : (d : Contrast) (ds : List Contrast) → Rise (d ∷ ds) → Tells (d ∷ ds) → first d ≤ 0
  unfolding Tells
  begins d ds rise tell =
      ⊎_elim
      (λ (lt : 0 < first d).
      let later : Later 0 ds = each_implies (λ (e : Contrast). ltb (first d) (first e) ≡ true) (λ (e : Contrast). 0 < first e) (λ e h. let k : first d < first e = ltb-true (first d) (first e) h in omega arith) ds rise.0 in
      let none : last_from first (d ∷ ds) 0 ≡ None = none_from first value (d ∷ ds) 0 (lt, later) in
      let e : None ≡ Some (at 0) = ap (λ o. option_map value o) (sym none) ∙ tell 0 (lit< tt) in
      absurd cc)
      (λ (ge : first d ≤ 0). ge)
      (cases_lt 0 (first d))

  is_difference : (d : Difference) → IsSound at d → IsDifference sameness before after packet d
  is_difference d sound =
      let within : has d.first.0 d ≡ true = let high : leb d.first.0 d.last.0 ≡ true = le-leb d.first.0 d.last.0 sound.some in let low : leb d.first.0 d.first.0 ≡ true = le-leb d.first.0 d.first.0 (omega arith) in rw (low, high) refl in
      record {
        some = sound.some;
        differs = (is_of d.first.0 (record { was = d.was; is = d.is }) (sound.is d.first.0 within)).differs;
        was = λ addr inside. (is_of addr (record { was = d.was; is = d.is }) (sound.is addr inside)).was;
        is = λ addr inside. (is_of addr (record { was = d.was; is = d.is }) (sound.is addr inside)).is;
      }

  from_contrasts : (cs : List Contrast) → Rise cs → Fit cs → Tells cs → AreDifferences sameness before after packet (differences_of cs)
  unfolding Tells
  from_contrasts [] rise fit tell = absurd (let e : None ≡ Some (at 0) = tell 0 (lit< tt) in cc)
  from_contrasts (d ∷ ds) rise fit tell = record {
    sound = each_implies (IsSound at) (IsDifference sameness before after packet) is_difference (differences_of (d ∷ ds)) (sound at d ds rise fit (λ n le fits. tell n fits));
    complete = λ addr fits differ. let start : first d ≤ 0 = begins d ds rise tell in complete at d ds rise (λ n le fits. tell n fits) addr (omega arith) fits (λ none. differ (same_there addr none));
    rise = apart (d ∷ ds) rise;
  }

  from_starts : (starts : List ℕ) → Rises starts → Each (λ n. n < 2 ^ 32) starts → IsIn 0 starts → IsSteady at starts → AreDifferences sameness before after packet (differences_of (joined starts))
  unfolding Tells
  from_starts [] rises fit zero steady = absurd zero
  from_starts (c ∷ cs) rises fit zero steady =
      let start : c ≡ 0 = begins_at_zero c cs rises zero in
      let rise : Rise (make c ∷ map make cs) = rise_made first value at make (λ n. refl) (λ n. refl) (c ∷ cs) rises in
      from_contrasts (joined (c ∷ cs)) (rise_joined first value have_same alike (make c) (map make cs) rise)
      (each_joined first value have_same alike (λ (d : Contrast). first d < 2 ^ 32) (make c) (map make cs) fit.0 (fit_made cs fit.1))
      (λ n fits. tells_joined first value have_same alike (make c) (map make cs) rise n ∙ tells first value at make (λ n. refl) (λ n. refl) c cs rises steady n (omega arith) fits)

  -- from each start up to the next one there is one transition
  pub steady_near : (differing : Differing) → IsDiffering before after differing → IsSteady at differing.starts.items
  steady_near differing is =
      let blocks = differing.blocks.items in
      let cuts = near_cuts blocks before.rules after.rules before.routes after.routes in
      let starts = differing.starts.items in
      steady at cuts starts (same_transition sameness before after packet blocks differing.rules.items differing.routes.items is.quiet is.confine) (rises starts is.starts.rise) (each_moved cuts starts is.starts.all)

  pub differences : (differing : Differing) → IsDiffering before after differing → AreDifferences sameness before after packet (differences_of (joined differing.starts.items))
  differences differing is =
      let starts = differing.starts.items in
      from_starts starts (rises starts is.starts.rise) (recursion_from_All (λ n. n < 2 ^ 32) starts is.starts.fit) (contains_in 0 starts is.starts.zero) (steady_near differing is)
