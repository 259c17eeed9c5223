-- What the readers of spans and of protocols have read, word by word, and that a span ends no sooner than it begins.
use Rattle.std.proofs.Common.{◌≡◌, ◌∙◌, ℕ, ◌+◌, ◌<◌, ◌≤◌, Bool, true, false, cond, refl, sym, ap, subst, List, [], ◌∷◌, ◌++◌, Option, Some, None, length, get_or, drop, map, append_assoc, append-nil, drop-cons, add-one, nat_le, option_map, suc, Bor, unwrap_or}
use Rattle.std.proofs.lemmas.Bool.{leb-true}
use Rattle.std.proofs.lemmas.List.{drop_all}
use Rattle.std.proofs.lemmas.List.Elements.{All-cons, All-nil}
use Rattle.std.specs.Prelude.{All, option_and_then}
use Rattle.std.specs.List.{before_first}
use Rattle.prt_addr.specs.Word.{Word, all_of, before, keep}
use Rattle.prt_args.specs.Reaching.{IsSpan, end_of, is_hyphen, last_end, span_of}
use Rattle.prt_args.specs.declared.reach.Ends.{Ends}
use Rattle.prt_args.specs.declared.reach.NumberSpan.{NumberSpan}

-- the values so far, before the others if these are there
abbrev pub onto : {X : Type 0} → List X → Option (List X) → Option (List X)
onto so_far None = None
onto so_far (Some others) = Some (so_far ++ others)

pub onto_nothing : {X : Type 0} (rest : Option (List X)) → rest ≡ onto [] rest
onto_nothing None = refl
onto_nothing (Some others) = refl

onto_more : {X : Type 0} (so_far : List X) (x : X) (rest : Option (List X)) → onto so_far (before x rest) ≡ onto (so_far ++ x ∷ []) rest
onto_more so_far x None = refl
onto_more so_far x (Some others) = ap Some (sym (append_assoc so_far (x ∷ []) others))

-- the first i of these words are read
abbrev pub AreRead : {W X : Type 0} → (W → Option X) → List W → ℕ → List X → Type 0
AreRead f words i so_far = all_of (map f words) ≡ onto so_far (all_of (map f (drop i words)))

pub none_read : {W X : Type 0} (f : W → Option X) (words : List W) → AreRead f words 0 []
none_read f words = onto_nothing (all_of (map f words))

-- the values so far, and that of the next word before the others
next_read : {W X : Type 0} (f : W → Option X) (words : List W) (i : ℕ) (d : W) (so_far : List X) → i < length words → AreRead f words i so_far
    → all_of (map f words) ≡ onto so_far (all_of (f (get_or words i d) ∷ map f (drop (suc i) words)))
next_read f words i d so_far within read = read ∙ ap (λ left. onto so_far (all_of (map f left))) (drop-cons words i d within)

pub one_more : {W X : Type 0} (f : W → Option X) (words : List W) (i : ℕ) (d : W) (so_far : List X) (x : X) → i < length words → f (get_or words i d) ≡ Some x → AreRead f words i so_far
    → AreRead f words (i + 1) (so_far ++ x ∷ [])
one_more f words i d so_far x within is read =
    next_read f words i d so_far within read ∙ ap (λ value. onto so_far (all_of (value ∷ map f (drop (suc i) words)))) is
    ∙ onto_more so_far x (all_of (map f (drop (suc i) words))) ∙ ap (λ n. onto (so_far ++ x ∷ []) (all_of (map f (drop n words)))) (sym (add-one i))

pub one_wrong : {W X : Type 0} (f : W → Option X) (words : List W) (i : ℕ) (d : W) (so_far : List X) → i < length words → f (get_or words i d) ≡ None → AreRead f words i so_far → all_of (map f words) ≡ None
one_wrong f words i d so_far within is read =
    next_read f words i d so_far within read ∙ ap (λ value. onto so_far (all_of (value ∷ map f (drop (suc i) words)))) is

pub all_read : {W X : Type 0} (f : W → Option X) (words : List W) (i : ℕ) (so_far : List X) → length words ≤ i → AreRead f words i so_far → all_of (map f words) ≡ Some so_far
all_read f words i so_far past read = read ∙ ap (λ left. onto so_far (all_of (map f left))) (drop_all i words past) ∙ ap Some (append-nil so_far)

-- ---- spans

some_inj : {X : Type 0} (x y : X) → Some x ≡ Some y → x ≡ y
some_inj x y is = cc

abbrev span_from : ℕ → ℕ → NumberSpan
span_from first last = record { first = first; last = last }

-- a span from here to there, if there is no sooner
abbrev between : Option ℕ → Option ℕ → Option NumberSpan
between first last = option_and_then (λ first. option_map (span_from first) (keep (λ last. nat_le first last) last)) first

between_is : (first last : Option ℕ) (span : NumberSpan) → between first last ≡ Some span → IsSpan span
between_is None last span is = absurd cc
between_is (Some first) None span is = absurd cc
between_is (Some first) (Some last) span is = go (nat_le first last) refl is
  where
    go : (in_order : Bool) → nat_le first last ≡ in_order → option_map (span_from first) (cond in_order (Some last) None) ≡ Some span → IsSpan span
    go true e is = subst IsSpan (some_inj (span_from first last) span is) (leb-true first last e)
    go false e is = absurd cc

-- what holds of the value of each word holds of all values
each_is : {W X : Type 0} (f : W → Option X) (P : X → Type 0) → ((word : W) (x : X) → f word ≡ Some x → P x) → (words : List W) (xs : List X) → all_of (map f words) ≡ Some xs → All P xs
each_is f P holds [] xs is = subst (All P) (some_inj [] xs is) (All-nil P)
each_is {W = W} {X = X} f P holds (word ∷ words) xs is = go (f word) (all_of (map f words)) refl refl (each_is f P holds words)
  where
    go : (value : Option X) (others : Option (List X)) → f word ≡ value → all_of (map f words) ≡ others → ((ys : List X) → all_of (map f words) ≡ Some ys → All P ys) → All P xs
    go None others v o each = let none : None ≡ Some xs = sym (ap (λ value. all_of (value ∷ map f words)) v) ∙ is in absurd cc
    go (Some x) None v o each = let none : None ≡ Some xs = sym (ap (λ value. all_of (value ∷ map f words)) v ∙ ap (before x) o) ∙ is in absurd cc
    go (Some x) (Some ys) v o each =
        let all : Some (x ∷ ys) ≡ Some xs = sym (ap (λ value. all_of (value ∷ map f words)) v ∙ ap (before x) o) ∙ is in
        subst (All P) (some_inj (x ∷ ys) xs all) (All-cons P x ys (holds word x v) (each ys o))

pub spans_are : (ends : Ends) (words : List Word) (spans : List NumberSpan) → all_of (map (span_of ends) words) ≡ Some spans → All IsSpan spans
spans_are ends words spans is =
    each_is (span_of ends) IsSpan (λ word span is. between_is (end_of ends (before_first is_hyphen word)) (end_of ends (last_end word)) span is) words spans is

-- ---- the values of an option

map_now : {X : Type 0} (f : Word → Option X) (words : List (Bor Word)) → map (λ word. f word.now) words ≡ map f (map (λ word. word.now) words)
map_now f [] = refl
map_now f (word ∷ words) = ap (λ values. f word.now ∷ values) (map_now f words)

-- the values that the words have, or none
pub values_read : {X : Type 0} (f : Word → Option X) (given : Option (Bor (List (Bor Word)))) (none : Bor (List (Bor Word))) (found : Option (List Word)) → none.now ≡ []
    → option_map (λ words. map (λ word. word.now) words.now) given ≡ found → map (λ word. f word.now) (unwrap_or given none).now ≡ map f (unwrap_or found [])
values_read f None none found empty is = ap (map (λ word. f word.now)) empty ∙ ap (λ found. map f (unwrap_or found [])) is
values_read f (Some words) none found empty is = map_now f words.now ∙ ap (λ found. map f (unwrap_or found [])) is

-- what is read of all of them
pub read_of_values : {X : Type 0} (f : Word → Option X) (given : Option (Bor (List (Bor Word)))) (none words : Bor (List (Bor Word))) (found : Option (List Word)) (read : Option (List X))
    → read ≡ all_of (map (λ word. f word.now) words.now) → words ≡ unwrap_or given none → none.now ≡ [] → option_map (λ words. map (λ word. word.now) words.now) given ≡ found
    → read ≡ all_of (map f (unwrap_or found []))
read_of_values f given none words found read is own empty has =
    is ∙ ap (λ (words : Bor (List (Bor Word))). all_of (map (λ word. f word.now) words.now)) own ∙ ap all_of (values_read f given none found empty has)
