-- What is reported of lines.
use Rattle.std.specs.Prelude.{ℕ, Bool, true, false, ◌||◌, ◌&&◌, List, [], ◌∷◌, ◌++◌, take, Option, Some, None, Result, Ok, Err, bytes_eq, codes}
use Rattle.prt_addr.specs.Word.{Word}
use Rattle.prt_command.specs.Lines.{longest_line}
use Rattle.prt_import.specs.Known.{meaning_of}
use Rattle.prt_import.specs.Steps.{step_of}
use Rattle.prt_import.specs.TableNames.{KnownNames}
use Rattle.prt_import.specs.declared.known.Meaning.{Meaning}
use Rattle.prt_import.specs.declared.known.Meaning.TheVariants.{Before, Told}
use Rattle.prt_import.specs.declared.known.Object.{Object}
use Rattle.prt_import.specs.declared.known.Role.TheVariants as roles
use Rattle.prt_import.specs.declared.omitted_line.OmittedLine.{OmittedLine}
use Rattle.prt_import.specs.declared.omitted_line.Source.{Source}
use Rattle.prt_import.specs.declared.reason.Reason.{Reason}
use Rattle.prt_import.specs.declared.reason.Reason.TheVariants as reasons
use Rattle.prt_import.specs.declared.step.Place.{Place}
use Rattle.prt_import.specs.declared.step.Place.TheVariants.{Item}
use Rattle.prt_import.specs.declared.step.Step.{Step}

-- The number of a line, a word of it, and what is said of that; and the line.
pub record Remark : Type 0 where
  pub line : ℕ
  pub word : Word
  pub reason : Reason
  pub text : List ℕ

-- A line of the input, and its number.
pub record Numbered : Type 0 where
  pub number : ℕ
  pub content : List ℕ

abbrev pub numbered : Source → Numbered
numbered source = record { number = source.number; content = source.line.now }

-- as much of a text as is shown
abbrev pub first_bytes : List ℕ → List ℕ
first_bytes text = take longest_line text

abbrev pub remark : Numbered → Word → Reason → Remark
remark line w reason = record { line = line.number; word = first_bytes w; reason = reason; text = first_bytes line.content }

abbrev pub remark_of : OmittedLine → Remark
remark_of left = record { line = left.line; word = left.word.items; reason = left.reason; text = left.text.items }

-- the route is one that the kernel makes itself
abbrev pub is_kernel_made : Reason → Bool
is_kernel_made reasons.Kernel = true
is_kernel_made reason = false

-- ---- the word for which a line is left out

abbrev pub or_this : Word → Result Step Reason → (Step → Word) → Word
or_this w (Err reason) next = w
or_this w (Ok step) next = next step

-- the first one that has no place in a line, if there is one
abbrev pub fault_word : KnownNames → Object → Place → List Word → Word
fault_word names object place [] = []
fault_word names object place (w ∷ ws) = or_this w (step_of names object place w) (λ step. fault_word names object step.next ws)

-- ---- what is left out of a line that is kept

abbrev pub note_by : Place → Option Meaning → Option Reason
note_by Item (Some (Before roles.RuleProtocol)) = Some reasons.RuleProtocol
note_by Item (Some (Told reason)) = Some reason
note_by Item (Some (Before roles.Metric)) = Some reasons.Metric
note_by place meaning = None

-- why a word is left off, if that is reported
abbrev pub note_of : Object → Place → Word → Option Reason
note_of object place w = note_by place (meaning_of object w)

abbrev pub noted : Numbered → Word → Option Reason → List Remark
noted line w None = []
noted line w (Some reason) = remark line w reason ∷ []

abbrev pub then_notes : List Remark → Result Step Reason → (Step → List Remark) → List Remark
then_notes first (Err reason) next = []
then_notes first (Ok step) next = first ++ next step

-- what is reported of the words from this place of a line on
abbrev pub notes_of : KnownNames → Object → Numbered → Place → List Word → List Remark
notes_of names object line place [] = []
notes_of names object line place (w ∷ ws) =
    then_notes (noted line w (note_of object place w)) (step_of names object place w) (λ step. notes_of names object line step.next ws)

-- ---- routes that the kernel makes: with its protocol

-- a word and its value
abbrev pub is_kernels_value : Word → Word → Bool
is_kernels_value w v = bytes_eq (codes "proto") w && bytes_eq (codes "kernel") v

-- in these words after this one
abbrev pub is_kernels_after : Word → List Word → Bool
is_kernels_after v [] = false
is_kernels_after v (w ∷ ws) = is_kernels_value v w || is_kernels_after w ws

abbrev pub is_kernels : List Word → Bool
is_kernels ws = is_kernels_after [] ws
