-- The words of a line, put into those of the command language.
use Rattle.std.specs.Prelude.{◌≡◌, ℕ, Bool, false, ◌||◌, List, [], ◌∷◌, ◌++◌, Result, Ok, codes, decimal}
use Rattle.prt_addr.specs.Word.{Word}
use Rattle.prt_import.specs.Steps.{step_of}
use Rattle.prt_import.specs.TableNames.{KnownNames}
use Rattle.prt_import.specs.Then.{◌>>=◌, map_ok}
use Rattle.prt_import.specs.declared.known.Object.{Object}
use Rattle.prt_import.specs.declared.reason.Reason.{Reason}
use Rattle.prt_import.specs.declared.step.Place.{Place}
use Rattle.prt_import.specs.declared.step.Written.{Written}
use Rattle.prt_import.specs.declared.step.Written.TheVariants.{Nothing, Same, WithMask, Number}

-- What is written for words, and whether the scope of a route is implied after them.
pub record Translated : Type 0 where
  pub text : List ℕ
  pub is_scope_settled : Bool

abbrev pub nothing : Translated
nothing = record { text = []; is_scope_settled = false }

-- what is written for a word, after a space
abbrev pub written_text : Written → Word → List ℕ
written_text Nothing w = []
written_text Same w = codes " " ++ w
written_text WithMask w = codes " " ++ w ++ codes "/0xffffffff"
written_text (Number n) w = codes " " ++ decimal n

-- more that is written after this
abbrev pub with_front : List ℕ → Bool → Translated → Translated
with_front text is_settled more = record { text = text ++ more.text; is_scope_settled = is_settled || more.is_scope_settled }

-- what is written for the words from this place of a line on, or why the line is left out
abbrev pub translated : KnownNames → Object → Place → List Word → Result Translated Reason
translated names object place [] = Ok nothing
translated names object place (w ∷ ws) =
    step_of names object place w >>= λ step.
    map_ok (with_front (written_text step.written w) step.settles_scope) (translated names object step.next ws)

-- this was appended for them
abbrev pub IsTranslated : List ℕ → List ℕ → Bool → Result Translated Reason → Type 0
IsTranslated old new is_settled made = (text : List ℕ) × (new ≡ old ++ text) × (made ≡ Ok (record { text = text; is_scope_settled = is_settled }))
