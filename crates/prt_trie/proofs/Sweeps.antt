-- The steps of a sweep over sorted rows.
use Rattle.std.proofs.Common.{Option, Some, None, ◌≡◌, ◌⊎◌, ℕ, ◌+◌, ◌-◌, ◌^◌, ◌<◌, ◌≤◌, true, false, List, [], ◌∷◌, ◌++◌, length, get_or, arith, inl, inr, ⊎_elim, refl, sym, ap, subst, ◌∙◌}
use Rattle.std.proofs.lemmas.Bool.{cases_lt}
use Rattle.std.proofs.lemmas.List.{get_or_append_left, get_or_default, get_or_push, length_push}
use Rattle.std.proofs.lemmas.Nat.{pow_pos}
use Rattle.std.specs.Option.{option_to_list}
use Rattle.prt_addr.proofs.Ranges.{ends_within}
use Rattle.prt_addr.specs.Sound.{IsPrefix}
use Rattle.prt_addr.specs.Prefix.{is_same_prefix}
use Rattle.prt_route.specs.declared.route.Route.{Route}
use Rattle.prt_trie.specs.Block.{size}
use Rattle.prt_trie.specs.Heaviest.{IsBest}
use Rattle.prt_trie.specs.Spans.{IsSpanOf}
use Rattle.prt_trie.specs.Sweep.{AreDone, AreFrom, AreRests, AreTo, IsRestOf, IsSweep}
use Rattle.prt_trie.specs.Table.{IsTable}
use Rattle.prt_trie.specs.declared.span.Span.{Span}
use Rattle.prt_trie.specs.declared.sweep.Rest.{Rest}
use Rattle.prt_trie.specs.declared.sweep.Sweep.{Sweep}
use Rattle.prt_trie.proofs.Heaviest.{best_again, best_more, best_new, ends_in}
use Rattle.prt_trie.proofs.Order.{in_order, order_of}

-- what holds of each of a list and of one put behind it holds of each place
pub at_place : {X : Type 0} (P : ℕ → X → Type 0) (xs : List X) (x : X) → ((k : ℕ) (d : X) → k < length xs → P k (get_or xs k d)) → P (length xs) x → (k : ℕ) (d : X) → k < length (xs ++ x ∷ []) → P k (get_or (xs ++ x ∷ []) k d)
at_place P xs x old new k d lt =
    ⊎_elim
    (λ (before : k < length xs). subst (P k) (sym (get_or_append_left xs (x ∷ []) d k before)) (old k d before))
    (λ (ge : length xs ≤ k).
    let all : length (xs ++ x ∷ []) ≡ length xs + 1 = length_push xs x in
    let e : length xs ≡ k = omega arith in
    subst (P k) (sym (get_or_push xs x d k e)) (subst (λ n. P n x) e new))
    (cases_lt k (length xs))

span_before : (spans : List Span) (span : Span) (addr place : ℕ) → place < length spans → IsSpanOf (spans ++ span ∷ []) addr place → IsSpanOf spans addr place
span_before spans span addr place lt is =
    let all : length (spans ++ span ∷ []) ≡ length spans + 1 = length_push spans span in
    record {
      within = lt;
      from = λ d. rw (get_or_append_left spans (span ∷ []) d place lt) at (is.from d);
      last = λ k d after within. rw (get_or_append_left spans (span ∷ []) d k within) at (is.last k d after (omega arith));
    }

-- one span more
pub done_more : (rows : List Route) (spans : List Span) (next end row : ℕ) → next < end → AreDone rows spans next → ((a : ℕ) → next ≤ a → a < end → IsBest rows (length rows) a row) → AreDone rows (spans ++ record { first = next; row = row } ∷ []) end
done_more rows spans next end row lt done best =
    let span : Span = record { first = next; row = row } in
    let all : length (spans ++ span ∷ []) ≡ length spans + 1 = length_push spans span in
    record {
      begin = λ d some. (
        omega arith,
        ⊎_elim
            (λ (old : 0 < next). let b : (0 < length spans) × ((get_or spans 0 d).first ≡ 0) = done.begin d old in rw (get_or_append_left spans (span ∷ []) d 0 b.0) b.1)
            (λ (ge : next ≤ 0).
            ⊎_elim
            (λ (old : 0 < length spans). absurd (let b : (get_or spans 0 d).first < next = done.below 0 d old in omega arith))
            (λ (none : length spans ≤ 0). let e : length spans ≡ 0 = omega arith in rw (get_or_push spans span d 0 e) (omega arith))
            (cases_lt 0 (length spans)))
            (cases_lt 0 next),
      );
      rise = λ j k d below within.
          let lj : j < length spans = omega arith in
          rw (get_or_append_left spans (span ∷ []) d j lj)
          (at_place (λ n s. j < n → (get_or spans j d).first < s.first) spans span
          (λ n e l after. subst (λ (s : Span). s.first < (get_or spans n e).first) (get_or_default spans j e d lj) (done.rise j n e after l))
          (λ after. done.below j d lj)
          k d within below);
      below = at_place (λ n s. s.first < end) spans span (λ n e l. let b : (get_or spans n e).first < next = done.below n e l in omega arith) lt;
      best = λ a place d below is.
          at_place (λ n s. IsSpanOf (spans ++ span ∷ []) a n → IsBest rows (length rows) a s.row) spans span
          (λ n e l s.
          let under : a < next = rw (get_or_push spans span e (length spans) refl) at (s.last (length spans) e l (omega arith)) in
          done.best a n e under (span_before spans span a n l s))
          (λ s. best a (rw (get_or_push spans span span (length spans) refl) at (s.from span)) below)
          place d is.within is;
    }

-- the uppermost block is left out
rest_under : (rests : List Rest) (top : Rest) (addr place : ℕ) → top.last < addr → IsRestOf rests addr place → IsRestOf (rests ++ top ∷ []) addr place
rest_under rests top addr place past is =
    let lt : place < length rests = is.within in
    let all : length (rests ++ top ∷ []) ≡ length rests + 1 = length_push rests top in
    record {
      within = omega arith;
      to = λ d. rw (get_or_append_left rests (top ∷ []) d place lt) (is.to d);
      upper = λ k d after within. at_place (λ n r. place < n → r.last < addr) rests top (λ n e l a. is.upper n e a l) (λ a. past) k d within after;
    }

-- and if it is put back
rest_over : (rests : List Rest) (top : Rest) (addr place : ℕ) → place < length rests → IsRestOf (rests ++ top ∷ []) addr place → IsRestOf rests addr place
rest_over rests top addr place lt is =
    let all : length (rests ++ top ∷ []) ≡ length rests + 1 = length_push rests top in
    record {
      within = lt;
      to = λ d. rw (get_or_append_left rests (top ∷ []) d place lt) at (is.to d);
      upper = λ k d after within. rw (get_or_append_left rests (top ∷ []) d k within) at (is.upper k d after (omega arith));
    }

-- the addresses of the uppermost block have its row as the best
pub best_of_top : (rows : List Route) (count : ℕ) (rests : List Rest) (next addr : ℕ) (d : Rest) → AreRests rows count rests next → 0 < length rests → next ≤ addr → ((e : Rest) → addr ≤ (get_or rests (length rests - 1) e).last) → IsBest rows count addr (get_or rests (length rests - 1) d).row
best_of_top rows count rests next addr d are some from to =
    are.best addr (length rests - 1) d from (record { within = omega arith; to = to; upper = λ k e after within. absurd (omega arith) })

-- no block ends behind the last address
pub rest_ends : (rows : List Route) (count : ℕ) (rests : List Rest) (next k : ℕ) (d : Rest) → AreRests rows count rests next → k < length rests → (get_or rests k d).last + 1 ≤ 2 ^ 32
rest_ends rows count rests next k d are within =
    let bottom : (get_or rests 0 d).last + 1 ≡ 2 ^ 32 = are.bottom d (omega arith) in
    ⊎_elim
    (λ (over : 0 < k). let f : (get_or rests k d).last < (get_or rests 0 d).last = are.fall 0 k d over within in omega arith)
    (λ (at : k ≤ 0). let e : k ≡ 0 = omega arith in let same : (get_or rests k d).last ≡ (get_or rests 0 d).last = ap (λ (n : ℕ). (get_or rests n d).last) e in omega arith)
    (cases_lt 0 k)

-- if the uppermost block ends at an address or behind it, all do
pub to_from_top : (rows : List Route) (count : ℕ) (rests : List Rest) (next to : ℕ) → AreRests rows count rests next → ((d : Rest) → to ≤ (get_or rests (length rests - 1) d).last) → AreTo rests to
to_from_top rows count rests next to are top k d within =
    let t : to ≤ (get_or rests (length rests - 1) d).last = top d in
    ⊎_elim
    (λ (under : k < length rests - 1). let f : (get_or rests (length rests - 1) d).last < (get_or rests k d).last = are.fall k (length rests - 1) d under (omega arith) in omega arith)
    (λ (at : length rests - 1 ≤ k). let e : k ≡ length rests - 1 = omega arith in let same : (get_or rests k d).last ≡ (get_or rests (length rests - 1) d).last = ap (λ (n : ℕ). (get_or rests n d).last) e in omega arith)
    (cases_lt k (length rests - 1))

-- the uppermost block ends
pub rests_closed : (rows : List Route) (count : ℕ) (rests : List Rest) (top : Rest) (next : ℕ) → AreRests rows count (rests ++ top ∷ []) next → AreRests rows count rests (top.last + 1)
rests_closed rows count rests top next are =
    let all : length (rests ++ top ∷ []) ≡ length rests + 1 = length_push rests top in
    record {
      none = λ e. rw (get_or_push rests top top 0 e) at (are.bottom top (omega arith));
      bottom = λ d some. rw (get_or_append_left rests (top ∷ []) d 0 some) at (are.bottom d (omega arith));
      fall = λ j k d below within.
          let lj : j < length rests = omega arith in
          rw (get_or_append_left rests (top ∷ []) d j lj, get_or_append_left rests (top ∷ []) d k within) at (are.fall j k d below (omega arith));
      above = λ k d within.
          let lt : top.last < (get_or rests k d).last = rw (get_or_append_left rests (top ∷ []) d k within, get_or_push rests top d (length rests) refl) at (are.fall k (length rests) d within (omega arith)) in
          omega arith;
      best = λ a place d from is.
          let above : next ≤ top.last = rw (get_or_push rests top d (length rests) refl) at (are.above (length rests) d (omega arith)) in
          let within : place < length rests = is.within in
          let B : Rest → Type 0 = λ r. IsBest rows count a r.row in
          subst B (get_or_append_left rests (top ∷ []) d place within) (are.best a place d (omega arith) (rest_under rests top a place (omega arith) is));
      room = λ k j d e within from lt. rw (get_or_append_left rests (top ∷ []) d k within) at (are.room k j d e (omega arith) from lt);
    }

-- nothing ends before a further address
pub rests_reached : (rows : List Route) (count : ℕ) (rests : List Rest) (next to : ℕ) → next ≤ to → 0 < length rests → AreTo rests to → AreRests rows count rests next → AreRests rows count rests to
rests_reached rows count rests next to le some above are = record {
  none = λ e. absurd (omega arith);
  bottom = are.bottom;
  fall = are.fall;
  above = above;
  best = λ a place d from is. are.best a place d (omega arith) is;
  room = are.room;
}

-- a row of the prefix of the one before it changes nothing
pub rests_again : (rows : List Route) (count : ℕ) (rests : List Rest) (next : ℕ) → IsTable rows → 0 < count → count < length rows →
    ((d : Route) → is_same_prefix (get_or rows (count - 1) d).prefix (get_or rows count d).prefix ≡ true) →
    AreRests rows count rests next → AreRests rows (count + 1) rests next
rests_again rows count rests next table some lt same are = record {
  none = are.none;
  bottom = are.bottom;
  fall = are.fall;
  above = are.above;
  best = λ a place d from is. best_again rows count a (get_or rests place d).row table some lt same (are.best a place d from is);
  room = λ k j d e within from l. are.room k j d e within (omega arith) l;
}

-- a row's block begins
pub rests_begun : (rows : List Route) (count : ℕ) (rests : List Rest) (last first len : ℕ) → IsTable rows → count < length rows →
    (0 < count → (d : Route) → is_same_prefix (get_or rows (count - 1) d).prefix (get_or rows count d).prefix ≡ false) →
    ((d : Route) → (get_or rows count d).prefix.bits ≡ first) → ((d : Route) → (get_or rows count d).prefix.len ≡ len) → last + 1 ≡ first + size len →
    AreRests rows count rests (last + 1) → AreRests rows (count + 1) (rests ++ record { last = last; row = count } ∷ []) first
rests_begun rows count rests last first len table lt other is_first is_len is_last are =
    let new : Rest = record { last = last; row = count } in
    let all : length (rests ++ new ∷ []) ≡ length rests + 1 = length_push rests new in
    let pos : 0 < size len = pow_pos (32 - len) in
    let sizes : (d : Route) → size (get_or rows count d).prefix.len ≡ size len = λ d. ap size (is_len d) in
    record {
      none = λ e. absurd (omega arith);
      bottom = λ d some. ⊎_elim
          (λ (old : 0 < length rests). rw (get_or_append_left rests (new ∷ []) d 0 old) (are.bottom d old))
          (λ (ge : length rests ≤ 0). let e : length rests ≡ 0 = omega arith in rw (get_or_push rests new d 0 e) (are.none e))
          (cases_lt 0 (length rests));
      fall = λ j k d below within.
          let lj : j < length rests = omega arith in
          rw (get_or_append_left rests (new ∷ []) d j lj)
          (at_place (λ n r. j < n → r.last < (get_or rests j d).last) rests new
          (λ n e l after. subst (λ (r : Rest). (get_or rests n e).last < r.last) (get_or_default rests j e d lj) (are.fall j n e after l))
          (λ after. let a : last + 1 ≤ (get_or rests j d).last = are.above j d lj in omega arith)
          k d within below);
      above = at_place (λ n r. first ≤ r.last) rests new (λ n e l. let a : last + 1 ≤ (get_or rests n e).last = are.above n e l in omega arith) (omega arith);
      best = λ a place d from is.
          at_place (λ n r. IsRestOf (rests ++ new ∷ []) a n → IsBest rows (count + 1) a r.row) rests new
          (λ n e l s.
          let past : last < a = rw (get_or_push rests new e (length rests) refl) at (s.upper (length rests) e l (omega arith)) in
          best_more rows count (count + 1) a (get_or rests n e).row table (omega arith) (omega arith)
          (λ k f le lt'.
          let ek : count ≡ k = omega arith in
          subst (λ (m : ℕ). (a < (get_or rows m f).prefix.bits) ⊎ ((get_or rows m f).prefix.bits + size (get_or rows m f).prefix.len ≤ a)) ek (inr (omega (arith, is_first f, sizes f))))
          (are.best a n e (omega arith) (rest_over rests new a n l s)))
          (λ s.
          let under : a ≤ last = rw (get_or_push rests new new (length rests) refl) at (s.to new) in
          best_new rows count a table lt other (λ f. omega (arith, is_first f)) (λ f. omega (arith, is_first f, sizes f)))
          place d is.within is;
      room = λ k j d e within from l.
          at_place (λ n r. (get_or rows j e).prefix.bits ≤ r.last → (get_or rows j e).prefix.bits + size (get_or rows j e).prefix.len ≤ r.last + 1) rests new
          (λ n f l'. are.room n j f e l' (omega arith) l)
          (λ begins.
          let i : ((get_or rows j e).prefix.bits + size (get_or rows j e).prefix.len) ≤ (get_or rows count e).prefix.bits + size (get_or rows count e).prefix.len =
          ends_in (get_or rows count e).prefix (get_or rows j e).prefix (table.prefixes count e lt) (table.prefixes j e l) (in_order rows count j e table (omega arith) l).0 (omega (arith, is_first e, sizes e)) in
          omega (arith, is_first e, sizes e))
          k d within;
    }

-- the rows from one on begin no earlier than it
pub from_row : (rows : List Route) (count first : ℕ) → IsTable rows → count < length rows → ((d : Route) → (get_or rows count d).prefix.bits ≡ first) → AreFrom rows count first
from_row rows count first table lt is j e from l =
    let p : IsPrefix (get_or rows count e).prefix = table.prefixes count e lt in
    let q : IsPrefix (get_or rows j e).prefix = table.prefixes j e l in
    let o : order_of (get_or rows count e).prefix ≤ order_of (get_or rows j e).prefix = (in_order rows count j e table from l).0 in
    let ps : (get_or rows count e).prefix.len ≤ 32 = p.short in
    let qs : (get_or rows j e).prefix.len ≤ 32 = q.short in
    omega (arith, is e)

abbrev whole : List Rest
whole = record { last = 4294967295; row = 4294967295 } ∷ []

-- no row is the best of none
best_of_none : (rows : List Route) (addr : ℕ) → IsBest rows 0 addr 4294967295
best_of_none rows addr d = record { stands = inl refl; unbeaten = λ k f t h. absurd (omega arith) }

rests_whole : (rows : List Route) → IsTable rows → AreRests rows 0 whole 0
rests_whole rows table = record {
  none = λ e. absurd (omega arith);
  bottom = λ d some. refl;
  fall = λ j k d below within. absurd (omega arith);
  above = λ k d within. omega arith;
  best = λ a place d from is.
      let e : 0 ≡ place = omega (arith, is.within) in
      let P : ℕ → Type 0 = λ n. IsBest rows 0 a (get_or whole n d).row in
      subst P e (best_of_none rows a);
  room = λ k j d e within from l begins.
      let z : 0 ≡ k = omega arith in
      let P : ℕ → Type 0 = λ n. (get_or rows j e).prefix.bits + size (get_or rows j e).prefix.len ≤ (get_or whole n d).last + 1 in
      subst P z (ends_within (get_or rows j e).prefix (table.prefixes j e l));
}

pub some_rest : (rows : List Route) (count : ℕ) (rests : List Rest) (next : ℕ) → AreRests rows count rests next → next < 2 ^ 32 → 0 < length rests
some_rest rows count [] next are lt = let e : next ≡ 2 ^ 32 = are.none refl in absurd (omega arith)
some_rest rows count (rest ∷ rests) next are lt = omega arith

-- what is popped is the last
pub popped : {X : Type 0} (xs ys : List X) (r : Option X) (t : X) (n : ℕ) → n ≡ length xs → xs ≡ ys ++ option_to_list r → ((d : X) → 0 < n → r ≡ Some (get_or xs (n - 1) d)) → ((d : X) → t ≡ get_or xs (length xs - 1) d) → 0 < length xs → xs ≡ ys ++ t ∷ []
popped xs ys None t n en e v is some = let no : None ≡ Some (get_or xs (n - 1) t) = v t (omega arith) in absurd cc
popped xs ys (Some r) t n en e v is some =
    let vt : Some r ≡ Some (get_or xs (n - 1) t) = v t (omega arith) in
    let last : n - 1 ≡ length xs - 1 = omega arith in
    let it : t ≡ get_or xs (length xs - 1) t = is t in
    let same : r ≡ t = cc in
    e ∙ ap (λ z. ys ++ z ∷ []) same

-- a sweep that has taken no row
pub swept_none : (rows : List Route) (sweep : Sweep) → IsTable rows → sweep.spans.items ≡ [] → sweep.rests.items ≡ record { last = 4294967295; row = 4294967295 } ∷ [] → sweep.next ≡ 0 → IsSweep rows 0 sweep
swept_none rows sweep table spans rests next =
    record {
      done = rw (spans, next) (record {
        begin = λ d some. absurd (omega arith);
        rise = λ j k d below within. absurd (omega arith);
        below = λ k d within. absurd (omega arith);
        best = λ a place d below is. absurd (omega arith);
      });
      are_rests = rw (rests, next) (rests_whole rows table);
      follow = λ j e from l. omega (arith, next);
      reached = omega (arith, next);
    }

-- the uppermost block ends before all further rows
pub swept_closed : (rows : List Route) (count : ℕ) (old new : Sweep) (rests : List Rest) (top : Rest) → IsTable rows → count ≤ length rows → IsSweep rows count old → old.rests.items ≡ rests ++ top ∷ [] → AreFrom rows count (top.last + 1) →
    new.spans.items ≡ old.spans.items ++ record { first = old.next; row = top.row } ∷ [] → new.rests.items ≡ rests → new.next ≡ top.last + 1 → IsSweep rows count new
swept_closed rows count old new rests top table within sweep was past spans is next =
    let are : AreRests rows count (rests ++ top ∷ []) old.next = subst (λ (rs : List Rest). AreRests rows count rs old.next) was sweep.are_rests in
    let all : length (rests ++ top ∷ []) ≡ length rests + 1 = length_push rests top in
    let last : length (rests ++ top ∷ []) - 1 ≡ length rests = omega arith in
    let at_top : (d : Rest) → get_or (rests ++ top ∷ []) (length (rests ++ top ∷ []) - 1) d ≡ top = λ d. get_or_push rests top d (length (rests ++ top ∷ []) - 1) (sym last) in
    let above : old.next ≤ top.last = rw (get_or_push rests top top (length rests) refl) at (are.above (length rests) top (omega arith)) in
    let ends : top.last + 1 ≤ 2 ^ 32 = rw (get_or_push rests top top (length rests) refl) at (rest_ends rows count (rests ++ top ∷ []) old.next (length rests) top are (omega arith)) in
    record {
      done = rw (spans, next) (done_more rows old.spans.items old.next (top.last + 1) top.row (omega arith) sweep.done
          (λ a from to. best_more rows count (length rows) a top.row table within (omega arith)
          (λ k d f t. inl (let b : top.last + 1 ≤ (get_or rows k d).prefix.bits = past k d f t in omega arith))
          (subst (λ (r : Rest). IsBest rows count a r.row) (at_top top)
          (best_of_top rows count (rests ++ top ∷ []) old.next a top are (omega arith) from (λ e. subst (λ (r : Rest). a ≤ r.last) (sym (at_top e)) (omega arith))))));
      are_rests = rw (is, next) (rests_closed rows count rests top old.next are);
      follow = λ j e from l. let b : top.last + 1 ≤ (get_or rows j e).prefix.bits = past j e from l in omega (arith, next);
      reached = omega (arith, next);
    }

-- the sweep goes on to the row
pub swept_reached : (rows : List Route) (count bits : ℕ) (old new : Sweep) (top : Rest) → IsTable rows → count < length rows → IsSweep rows count old →
    ((d : Route) → (get_or rows count d).prefix.bits ≡ bits) → AreTo old.rests.items bits → old.next < bits → bits < 2 ^ 32 → ((d : Rest) → top ≡ get_or old.rests.items (length old.rests.items - 1) d) →
    new.spans.items ≡ old.spans.items ++ record { first = old.next; row = top.row } ∷ [] → new.rests.items ≡ old.rests.items → new.next ≡ bits → IsSweep rows count new
swept_reached rows count bits old new top table within sweep at to lt fits is_top spans is next =
    let some : 0 < length old.rests.items = some_rest rows count old.rests.items old.next sweep.are_rests (omega arith) in
    let from_here : AreFrom rows count bits = from_row rows count bits table within at in
    record {
      done = rw (spans, next) (done_more rows old.spans.items old.next bits top.row lt sweep.done
          (λ a from under. best_more rows count (length rows) a top.row table (omega arith) (omega arith)
          (λ k d f t. inl (let b : bits ≤ (get_or rows k d).prefix.bits = from_here k d f t in omega arith))
          (subst (λ (r : Rest). IsBest rows count a r.row) (sym (is_top top))
          (best_of_top rows count old.rests.items old.next a top sweep.are_rests some from (λ e. let b : bits ≤ (get_or old.rests.items (length old.rests.items - 1) e).last = to (length old.rests.items - 1) e (omega arith) in omega arith)))));
      are_rests = rw (is, next) (rests_reached rows count old.rests.items old.next bits (omega arith) some to sweep.are_rests);
      follow = rw next from_here;
      reached = omega (arith, next);
    }

-- a row of the prefix of the one before it
pub swept_again : (rows : List Route) (count : ℕ) (sweep : Sweep) → IsTable rows → 0 < count → count < length rows →
    ((d : Route) → is_same_prefix (get_or rows (count - 1) d).prefix (get_or rows count d).prefix ≡ true) → IsSweep rows count sweep → IsSweep rows (count + 1) sweep
swept_again rows count sweep table some lt same is = record {
  done = is.done;
  are_rests = rests_again rows count sweep.rests.items sweep.next table some lt same is.are_rests;
  follow = λ j e from l. is.follow j e (omega arith) l;
  reached = is.reached;
}

-- the row's block begins
pub swept_begun : (rows : List Route) (count last first len : ℕ) (old new : Sweep) (rests : List Rest) → IsTable rows → count < length rows → IsSweep rows count old →
    (0 < count → (d : Route) → is_same_prefix (get_or rows (count - 1) d).prefix (get_or rows count d).prefix ≡ false) →
    ((d : Route) → (get_or rows count d).prefix.bits ≡ first) → ((d : Route) → (get_or rows count d).prefix.len ≡ len) → last + 1 ≡ first + size len → old.next ≡ first →
    AreRests rows count rests (last + 1) →
    new.spans.items ≡ old.spans.items → new.rests.items ≡ rests ++ record { last = last; row = count } ∷ [] → new.next ≡ old.next → IsSweep rows (count + 1) new
swept_begun rows count last first len old new rests table lt sweep other is_first is_len is_last at are spans is next =
    let first_next : new.next ≡ first = next ∙ at in
    record {
      done = rw (spans, next) sweep.done;
      are_rests = rw (is, first_next) (rests_begun rows count rests last first len table lt other is_first is_len is_last are);
      follow = rw next (λ j e from l. sweep.follow j e (omega arith) l);
      reached = rw next sweep.reached;
    }

-- what is read of a row
pub bits_read : (rows : List Route) (at : ℕ) (row : Route) (bits : ℕ) → at < length rows → bits ≡ (get_or rows at row).prefix.bits → (d : Route) → (get_or rows at d).prefix.bits ≡ bits
bits_read rows at row bits lt value d = ap (λ (r : Route). r.prefix.bits) (get_or_default rows at d row lt) ∙ sym value

pub len_read : (rows : List Route) (at : ℕ) (row : Route) (len : ℕ) → at < length rows → len ≡ (get_or rows at row).prefix.len → (d : Route) → (get_or rows at d).prefix.len ≡ len
len_read rows at row len lt value d = ap (λ (r : Route). r.prefix.len) (get_or_default rows at d row lt) ∙ sym value
