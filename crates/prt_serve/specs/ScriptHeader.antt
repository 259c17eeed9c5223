-- What a connection of an atomic script begins with.
use Rattle.std.specs.Prelude.{◌≡◌, ◌≢◌, ◌<◌, ◌^◌, ◌==◌, ◌⊎◌, ℕ, Bool, true, List, [], ◌∷◌, ◌++◌, Option, Some, None, IfSome, codes, decimal}
use Rattle.std.specs.Prelude.{if◌then◌else◌, length}
use Rattle.std.specs.Io.KnownBytes.{Consumes, IsAtEnd, Keeps}
use Rattle.prt_serve.specs.declared.script_header.ScriptHeader.{ScriptHeader}
use Rattle.prt_serve.specs.declared.script_header.HeadEnd.{HeadEnd}
use Rattle.prt_serve.specs.declared.script_header.HeadEnd.TheVariants as ends
use Rattle.prt_serve.specs.declared.script_header.Saying.{Saying}
use Rattle.prt_serve.specs.declared.script_header.Saying.TheVariants.{At, Commands}
use Rattle.prt_session.specs.Steps.{HasNoNewline}

-- the line by which a server says what the number is
abbrev pub at_line : ℕ → List ℕ
at_line number = codes "at " ++ decimal number

-- what a line begins with by which a client says at which number its commands are to be made, or how many there are
abbrev pub word_of : Saying → List ℕ
word_of At = codes "at "
word_of Commands = codes "commands "

abbrev pub said_line : Saying → ℕ → List ℕ
said_line saying number = word_of saying ++ decimal number

-- the first line of an input, without its newline
abbrev pub first_line : List ℕ → List ℕ
first_line [] = []
first_line (b ∷ bs) = if b == 10 then [] else b ∷ first_line bs

-- the first line says no number
abbrev pub SaysNoNumber : Saying → List ℕ → Type 0
SaysNoNumber saying bytes = (number : ℕ) → number < 2 ^ 64 → first_line bytes ≢ said_line saying number

-- the line that says a number was read, with its newline or up to the end, or there is none, and what is given is all that there was
abbrev pub Opens : Saying → Option ℕ → (reader0 given : Option (List ℕ)) → Type 0
Opens saying (Some number) reader0 given =
    Consumes reader0 given (said_line saying number ++ codes "\n") ⊎ (Consumes reader0 given (said_line saying number) × IsAtEnd given)
Opens saying None reader0 given = Keeps reader0 given × IfSome reader0 (SaysNoNumber saying)

-- what a client says before its script: at which number its commands are to be made, and then how many there are
abbrev pub HasHeader : ScriptHeader → (reader0 given : Option (List ℕ)) → Type 0
HasHeader header reader0 given = (between : Option (List ℕ)) × Opens At header.number reader0 between × Opens Commands header.count between given

-- whether the header says this number of commands, or none
abbrev pub is_as_many : Option ℕ → ℕ → Bool
is_as_many None commands = true
is_as_many (Some count) commands = commands == count

-- some of the bytes that were left were read and discarded
abbrev pub HasDrained : (reader0 reader : Option (List ℕ)) → Type 0
HasDrained reader0 reader = (bytes : List ℕ) × Consumes reader0 reader bytes

-- ---- steps

-- the newline that was read after the first bytes
abbrev pub newline_after : HeadEnd → List ℕ
newline_after ends.Newline = 10 ∷ []
newline_after ends.End = []
newline_after ends.Full = []
newline_after ends.Fault = []

-- whether reading may stop there after this many bytes
abbrev pub StopsAfter : HeadEnd → ℕ → Option (List ℕ) → Type 0
StopsAfter ends.Newline count reader = count < 32
StopsAfter ends.End count reader = IsAtEnd reader
StopsAfter ends.Full count reader = count ≡ 32
StopsAfter ends.Fault count reader = Unit {0}

-- The first bytes were read, to where reading stopped.
pub record HeadIs (reader0 reader : Option (List ℕ)) (head : List ℕ) (end : HeadEnd) : Type 0 where
  pub bare : HasNoNewline head
  pub read : Consumes reader0 reader (head ++ newline_after end)
  pub stopped : StopsAfter end (length head) reader
