-- What is reported on standard error while a script is run.
use Rattle.std.specs.Prelude.{ℕ, nat_lt, ◌==◌, ◌&&◌, ◌||◌, if◌then◌else◌, List, [], ◌++◌, map, codes, decimal, Option, Some, None}
use Rattle.prt_refusals.specs.Refusal.{refusal_text}
use Rattle.prt_addr.specs.Word.{Word}
use Rattle.prt_refusals.specs.declared.refusal.Refusal.{Refusal}
use Rattle.prt_refusals.specs.declared.refusal.Refusal.TheVariants.{LineTooLong, ReadFault, StoreFailed}
use Rattle.prt_command.specs.FaultWord.{fault_word}
use Rattle.prt_replay.specs.TraceText.{call_name}

-- printable ASCII and tabs (9) as they are, any other byte as `?` (63)
abbrev pub shown : ℕ → ℕ
shown byte = if byte == 9 || (nat_lt 31 byte && nat_lt byte 127) then byte else 63

-- where a line is: `FILE:LINE`
abbrev pub location : List ℕ → ℕ → List ℕ
location file line = file ++ codes ":" ++ decimal line

-- which call of the store failed, if one did: ` in write`
abbrev pub failed_call : Refusal → List ℕ
failed_call (StoreFailed call) = codes " in " ++ call_name call
failed_call other = []

-- the word that the refusal of a line is about, as far as there is one; of a line that was not read whole none is reported
abbrev pub told_word : Refusal → List ℕ → Option Word
told_word LineTooLong text = None
told_word ReadFault text = None
told_word reason text = fault_word text

-- in quotes: ` 'mtu'`
abbrev pub quoted : Option Word → List ℕ
quoted None = []
quoted (Some w) = codes " '" ++ (map shown w ++ codes "'")

-- why a line is refused: `error C NAME 'WORD'`, or `error 27 StoreFailed in CALL`
abbrev pub blame : Refusal → Option Word → List ℕ
blame reason word = refusal_text reason ++ failed_call reason ++ quoted word

-- with the text of the line
abbrev pub complaint : Refusal → Option Word → List ℕ → List ℕ
complaint reason word text = blame reason word ++ codes ": " ++ map shown text

-- of a refused line
abbrev pub refused_message : List ℕ → ℕ → Refusal → Option Word → List ℕ → List ℕ
refused_message file line reason word text = location file line ++ codes ": " ++ complaint reason word text ++ codes "\n"

-- of a refused line that is in no script
abbrev pub question_message : Refusal → List ℕ → List ℕ
question_message reason text = codes "prt: " ++ complaint reason (told_word reason text) text ++ codes "\n"

-- a number of lines
abbrev pub lines_text : ℕ → List ℕ
lines_text count = decimal count ++ (if count == 1 then codes " line" else codes " lines")

-- at the end, with how many of the lines were refused: `499 lines, 1 refused`
abbrev pub total_message : ℕ → ℕ → List ℕ
total_message lines refused = lines_text lines ++ codes ", " ++ decimal refused ++ codes " refused\n"

-- on the way, with how many are done in a second: `12000 lines, 4000 a second`
abbrev pub progress_message : ℕ → ℕ → List ℕ
progress_message lines rate = lines_text lines ++ codes ", " ++ decimal rate ++ codes " a second"
