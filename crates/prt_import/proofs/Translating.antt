-- The words of a line, as they are translated one by one.
use Rattle.std.proofs.Common.{◌≡◌, ℕ, Bool, true, false, List, [], ◌∷◌, ◌++◌, Result, Ok, Err, refl, sym, ap, ◌∙◌, append_assoc}
use Rattle.std.proofs.lemmas.List.{append-nil}
use Rattle.std.specs.Prelude.{◌||◌}
use Rattle.prt_addr.specs.Word.{Word}
use Rattle.prt_import.specs.NewLines.{scope_text}
use Rattle.prt_import.specs.Steps.{step_of}
use Rattle.prt_import.specs.TableNames.{KnownNames}
use Rattle.prt_import.specs.Then.{◌>>=◌, map_ok}
use Rattle.prt_import.specs.Translation.{IsTranslated, Translated, translated, with_front, written_text}
use Rattle.prt_import.specs.declared.known.Object.{Object}
use Rattle.prt_import.specs.declared.reason.Reason.{Reason}
use Rattle.prt_import.specs.declared.step.Place.{Place}
use Rattle.prt_import.specs.declared.step.Step.{Step}

-- Of all that is to be written a front was pushed; this is left.
pub record SoFar (all rest : Result Translated Reason) (old new : List ℕ) (is_settled : Bool) : Type 0 where
  pub front : List ℕ
  pub pushed : new ≡ old ++ front
  pub same : all ≡ map_ok (with_front front is_settled) rest

no_front : (all : Result Translated Reason) → all ≡ map_ok (with_front [] false) all
no_front (Ok t) = refl
no_front (Err e) = refl

pub begins : (all : Result Translated Reason) (old : List ℕ) → SoFar all all old old false
begins all old = record { front = []; pushed = sym (append-nil old); same = no_front all }

or_assoc : (a b c : Bool) → (a || (b || c)) ≡ ((a || b) || c)
or_assoc true b c = refl
or_assoc false b c = refl

or_false : (a : Bool) → (a || false) ≡ a
or_false true = refl
or_false false = refl

two_fronts : (front more : List ℕ) (a b : Bool) (rest : Result Translated Reason) → map_ok (with_front front a) (map_ok (with_front more b) rest) ≡ map_ok (with_front (front ++ more) (a || b)) rest
two_fronts front more a b (Err e) = refl
two_fronts front more a b (Ok t) =
    ap (λ text. Ok (record { text = text; is_scope_settled = a || (b || t.is_scope_settled) })) (sym (append_assoc front more t.text))
    ∙ ap (λ s. Ok (record { text = (front ++ more) ++ t.text; is_scope_settled = s })) (or_assoc a b t.is_scope_settled)

module _ (names : KnownNames) (object : Object) (place : Place) (w : Word) (ws : List Word) where
  pub one_word : (step : Step) → step_of names object place w ≡ Ok step → translated names object place (w ∷ ws) ≡ map_ok (with_front (written_text step.written w) step.settles_scope) (translated names object step.next ws)
  one_word step is = ap (λ r. r >>= (λ (step : Step). map_ok (with_front (written_text step.written w) step.settles_scope) (translated names object step.next ws))) is

  pub no_word : (reason : Reason) → step_of names object place w ≡ Err reason → translated names object place (w ∷ ws) ≡ Err reason
  no_word reason is = ap (λ r. r >>= (λ (step : Step). map_ok (with_front (written_text step.written w) step.settles_scope) (translated names object step.next ws))) is

-- a word more
pub goes_on : (names : KnownNames) (object : Object) (place : Place) (here ws : List Word) (w : Word) (step : Step) (all : Result Translated Reason) (old mid new : List ℕ) (is_settled : Bool) → SoFar all (translated names object place here) old mid is_settled → here ≡ w ∷ ws → Ok step ≡ step_of names object place w → new ≡ mid ++ written_text step.written w → SoFar all (translated names object step.next ws) old new (is_settled || step.settles_scope)
goes_on names object place here ws w step all old mid new is_settled so_far is stepped more =
    let text : List ℕ = written_text step.written w in record {
      front = so_far.front ++ text;
      pushed = more ∙ ap (λ xs. xs ++ text) so_far.pushed ∙ append_assoc old so_far.front text;
      same =
          so_far.same
          ∙ ap (λ ws. map_ok (with_front so_far.front is_settled) (translated names object place ws)) is
          ∙ ap (map_ok (with_front so_far.front is_settled)) (one_word names object place w ws step (sym stepped))
          ∙ two_fronts so_far.front text is_settled step.settles_scope (translated names object step.next ws);
    }

-- no word is left
pub ends : (names : KnownNames) (object : Object) (place : Place) (here : List Word) (all : Result Translated Reason) (old new : List ℕ) (is_settled : Bool) → SoFar all (translated names object place here) old new is_settled → here ≡ [] → IsTranslated old new is_settled all
ends names object place here all old new is_settled so_far none = (
  so_far.front,
  so_far.pushed,
  so_far.same
      ∙ ap (λ ws. map_ok (with_front so_far.front is_settled) (translated names object place ws)) none
      ∙ ap (λ text. Ok (record { text = text; is_scope_settled = is_settled || false })) (append-nil so_far.front)
      ∙ ap (λ s. Ok (record { text = so_far.front; is_scope_settled = s })) (or_false is_settled),
)

-- a word for which the line is left out
pub fails : (names : KnownNames) (object : Object) (place : Place) (here ws : List Word) (w : Word) (reason : Reason) (all : Result Translated Reason) (old new : List ℕ) (is_settled : Bool) → SoFar all (translated names object place here) old new is_settled → here ≡ w ∷ ws → Err reason ≡ step_of names object place w → all ≡ Err reason
fails names object place here ws w reason all old new is_settled so_far is stepped =
    so_far.same
    ∙ ap (λ ws. map_ok (with_front so_far.front is_settled) (translated names object place ws)) is
    ∙ ap (map_ok (with_front so_far.front is_settled)) (no_word names object place w ws reason (sym stepped))

-- ---- whole lines

-- a route's line is pushed in three pieces
pub route_pushed : (made : Result Translated Reason) (none one two three verb : List ℕ) (is_settled : Bool) → none ≡ [] → one ≡ none ++ verb → IsTranslated one two is_settled made → three ≡ two ++ scope_text is_settled → map_ok (λ t. verb ++ t.text ++ scope_text t.is_scope_settled) made ≡ Ok three
route_pushed made none one two three verb is_settled is_none first second third =
    ap (map_ok (λ (t : Translated). verb ++ t.text ++ scope_text t.is_scope_settled)) second.2
    ∙ ap Ok (sym (third ∙ ap (λ xs. xs ++ scope_text is_settled) (second.1 ∙ ap (λ xs. xs ++ second.0) (first ∙ ap (λ xs. xs ++ verb) is_none))))

-- a rule's line likewise
pub rule_pushed : (made : Result Translated Reason) (none one two three verb priority : List ℕ) (is_settled : Bool) → none ≡ [] → one ≡ none ++ verb → two ≡ one ++ priority → IsTranslated two three is_settled made → map_ok (λ t. verb ++ priority ++ t.text) made ≡ Ok three
rule_pushed made none one two three verb priority is_settled is_none first second third =
    ap (map_ok (λ (t : Translated). verb ++ priority ++ t.text)) third.2
    ∙ ap Ok (sym (third.1 ∙ ap (λ xs. xs ++ third.0) (second ∙ ap (λ xs. xs ++ priority) (first ∙ ap (λ xs. xs ++ verb) is_none))))
