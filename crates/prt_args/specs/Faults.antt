-- The exit status if nothing is run.
use Rattle.std.specs.Prelude.{◌≡◌, ◌≢◌, ◌⊎◌, ℕ, List, ◌∷◌, codes, true, false}
use Rattle.clap.specs.Words.{IsAmong, fault_of, kind_of}
use Rattle.clap.specs.declared.error.Error.{Error}
use Rattle.clap.specs.declared.error.kind.ErrorKind.{ErrorKind}
use Rattle.clap.specs.declared.error.kind.ErrorKind.TheVariants.{DisplayHelp, DisplayVersion, OutOfMemory}
use Rattle.prt_addr.specs.Word.{Word}
use Rattle.prt_refusals.specs.declared.refusal.Refusal.TheVariants.{NoMemory}
use Rattle.prt_args.specs.CommandLine.{command_line}
use Rattle.prt_args.specs.Invocation.{Invocation, ask, batch, check, has_help, replay, serve, submit, help, help_on, version, usage_error}
use Rattle.prt_args.specs.Places.{names_place}
use Rattle.prt_args.specs.Read.{AsksNothing, ServesNothing}
use Rattle.prt_args.specs.declared.fault.Fault.{Fault}
use Rattle.prt_args.specs.declared.fault.Fault.TheVariants.{Words, Opening, Listener}

-- 0 for help and for the version, 2 for bad words
abbrev pub words_status : ErrorKind → ℕ
words_status DisplayHelp = 0
words_status DisplayVersion = 0
words_status _ = 2

-- the fault of a parse: that memory was refused, or its error
abbrev pub FaultOf : Error → Fault → Type 0
FaultOf error fault = ((kind_of error ≡ OutOfMemory) × (fault ≡ Opening NoMemory)) ⊎ ((kind_of error ≢ OutOfMemory) × (fault ≡ Words error))

-- 3 for a fault of opening, or of a listener
abbrev pub fault_status : Fault → ℕ
fault_status (Words error) = words_status (kind_of error)
fault_status (Opening reason) = 3
fault_status Listener = 3

-- a parse of the words ends with this status: it finds that help or the version is asked for, or a mistake
abbrev pub ParseEnds : List Word → ℕ → Type 0
ParseEnds words status = (kind : ErrorKind) × IsAmong kind (fault_of command_line (codes "prt" ∷ words)) × (words_status kind ≡ status)

-- a parse finds a mistake in the words, or nothing can be served or asked by what it finds
abbrev pub AreBadWords : List Word → Type 0
AreBadWords words = ParseEnds words 2 ⊎ (ServesNothing words ⊎ AsksNothing words)

-- 0 only if some word asks for help and a parse finds it, and 2 only if the words are bad
abbrev pub IsHelpOrBad : List Word → ℕ → Type 0
IsHelpOrBad words status = ((has_help words ≡ true) × ParseEnds words 0 × (status ≡ 0)) ⊎ (AreBadWords words × (status ≡ 2))

-- the status of words that ask for no run
abbrev pub IsStatusOf : Invocation → ℕ → Type 0
IsStatusOf (batch script) status = ⊥
IsStatusOf (submit script) status = (status ≡ 2) × (names_place script.server ≡ false)
IsStatusOf (check file) status = ⊥
IsStatusOf (replay file) status = ⊥
IsStatusOf (serve words) status = IsHelpOrBad words status
IsStatusOf (ask words) status = IsHelpOrBad words status
IsStatusOf help status = status ≡ 0
IsStatusOf version status = status ≡ 0
IsStatusOf help_on status = (status ≡ 0) ⊎ (status ≡ 2)
IsStatusOf usage_error status = status ≡ 2

-- what reading the words may answer in place of a task: what they ask for, or that memory was refused
abbrev pub IsWordsFault : Invocation → Fault → Type 0
IsWordsFault asked (Words error) = IsStatusOf asked (words_status (kind_of error))
IsWordsFault asked (Opening reason) = reason ≡ NoMemory
IsWordsFault asked Listener = ⊥
