-- One command more after others.
use Rattle.std.proofs.Common.{◌≡◌, ◌⊎◌, inl, inr, ◌<◌, ℕ, suc, List, [], ◌∷◌, ◌++◌, length, take, drop, get_or, Option, Some, None, Result, Ok, Err, refl, sym, ap, ◌∙◌, subst}
use Rattle.std.proofs.Math.Seq.{drop-cons}
use Rattle.std.proofs.lemmas.List.{take-append-drop}
use Rattle.std.proofs.lemmas.List.Elements.{All-append, All-cons, All-nil}
use Rattle.std.specs.Prelude.{All}
use Rattle.std.specs.Result.{result_err}
use Rattle.prt_refusals.specs.declared.refusal.Refusal.{Refusal}
use Rattle.prt_refusals.specs.declared.refusal.Refusal.TheVariants.{NoMemory}
use Rattle.prt_command.specs.Storable.{IsStorable}
use Rattle.prt_command.specs.declared.request.Command.{Command}
use Rattle.prt_version.proofs.Folds.{accepted_grown, fold_push}
use Rattle.prt_version.specs.Accepted.{IsAccepted, IsRefusedFor, changes_of, or_later, refusal_all, with_made}
use Rattle.prt_version.specs.Change.{apply, check, fold, put, put_if, refusal}
use Rattle.prt_version.specs.State.{State}
use Rattle.prt_version.specs.declared.change.Change.{Change}

-- ---- the changes, and the state

made_append : (r : Result Change Refusal) (before after : List Change) → with_made r (before ++ after) ≡ with_made r before ++ after
made_append (Ok made) before after = refl
made_append (Err reason) before after = refl

changes_push : (state : State) (commands : List Command) (command : Command) → changes_of state (commands ++ command ∷ []) ≡ changes_of state commands ++ with_made (check (fold state commands) command) []
changes_push state [] command = refl
changes_push state (first ∷ commands) command =
    ap (with_made (check state first)) (changes_push (apply state first) commands command)
    ∙ made_append (check state first) (changes_of (apply state first) commands) (with_made (check (fold (apply state first) commands) command) [])

-- one command more in a set
pub added : (base : State) (commands grown : List Command) (command : Command) (made : Change) (changes more : List Change) (last next : State)
    → IsAccepted base commands → changes ≡ changes_of base commands → last ≡ fold base commands → All IsStorable commands → IsStorable command → check (fold base commands) command ≡ Ok made
    → grown ≡ commands ++ command ∷ [] → more ≡ changes ++ made ∷ [] → next ≡ put last made
    → IsAccepted base grown × (more ≡ changes_of base grown) × (next ≡ fold base grown) × All IsStorable grown
added base commands grown command made changes more last next accepted are at storable one makes is more_is next_is = (
  subst (IsAccepted base) (sym is) (accepted_grown base commands command accepted (ap result_err makes)),
  more_is ∙ ap (λ (list : List Change). list ++ made ∷ []) are
      ∙ ap (λ (r : Result Change Refusal). changes_of base commands ++ with_made r []) (sym makes)
      ∙ sym (changes_push base commands command) ∙ ap (changes_of base) (sym is),
  next_is ∙ ap (λ (state : State). put state made) at ∙ ap (put_if (fold base commands)) (sym makes) ∙ sym (fold_push base commands command) ∙ ap (fold base) (sym is),
  subst (All IsStorable) (sym is) (All-append IsStorable commands (command ∷ []) storable (All-cons IsStorable command [] one (All-nil IsStorable))),
)

-- ---- refusals

none_first : (first later : Option Refusal) → first ≡ None → or_later first later ≡ later
none_first None later is = refl
none_first (Some reason) later is = absurd (cc is)

some_first : (first later : Option Refusal) (why : Refusal) → first ≡ Some why → or_later first later ≡ Some why
some_first (Some reason) later why is = is
some_first None later why is = absurd (cc is)

-- the first that is refused after accepted ones is why all are
pub refused_then : (state : State) (commands : List Command) (command : Command) (later : List Command) (why : Refusal) → IsAccepted state commands → refusal (fold state commands) command ≡ Some why → refusal_all state (commands ++ command ∷ later) ≡ Some why
refused_then state [] command later why accepted is = some_first (refusal state command) (refusal_all (apply state command) later) why is
refused_then state (first ∷ commands) command later why accepted is =
    none_first (refusal state first) (refusal_all (apply state first) (commands ++ command ∷ later)) accepted.0 ∙ refused_then (apply state first) commands command later why accepted.1 is

around : (commands : List Command) (i : ℕ) (command : Command) → i < length commands → command ≡ get_or commands i command → take i commands ++ command ∷ drop (suc i) commands ≡ commands
around commands i command lt is =
    ap (λ (x : Command). take i commands ++ x ∷ drop (suc i) commands) is
    ∙ ap (λ (rest : List Command). take i commands ++ rest) (sym (drop-cons commands i command lt)) ∙ take-append-drop i commands

-- if one of them is refused after those before it were accepted, that is why all are
pub refused_at : (state : State) (commands : List Command) (i : ℕ) (command : Command) (why : Refusal) → i < length commands → command ≡ get_or commands i command → IsAccepted state (take i commands)
    → (refusal (fold state (take i commands)) command ≡ Some why) ⊎ (why ≡ NoMemory) → IsRefusedFor state commands why
refused_at state commands i command why lt is accepted (inl refused) =
    inl (subst (λ (all : List Command). refusal_all state all ≡ Some why) (around commands i command lt is) (refused_then state (take i commands) command (drop (suc i) commands) why accepted refused))
refused_at state commands i command why lt is accepted (inr memory) = inr memory
