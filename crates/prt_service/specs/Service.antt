-- What a service says of a command.
use Rattle.std.specs.Prelude.{◌≡◌, ◌≢◌, ◌+◌, ℕ, List, [], ◌∷◌, ◌++◌, IfErr, IfOk, Option, Some, Result, length}
use Rattle.logbook.specs.Pages.{Book}
use Rattle.prt_refusals.specs.declared.refusal.Refusal.{Refusal}
use Rattle.prt_refusals.specs.declared.refusal.Refusal.TheVariants.{Busy, Closed, CountFull, Exists, Full, NoMemory, NoSuch, NotFetched}
use Rattle.prt_refusals.specs.declared.refusal.Refusal.TheVariants.{NotPublished, StoreFailed}
use Rattle.prt_command.specs.declared.request.Command.{Command}
use Rattle.prt_published.specs.Line.{Line}
use Rattle.prt_service.specs.declared.submit_error.SubmitError.{SubmitError}
use Rattle.prt_service.specs.declared.submit_error.SubmitError.TheVariants.{Moved, Refused}
use Rattle.prt_version.specs.State.{State}

-- the commands are the last of the list
abbrev pub EndsWithAll : List Command → List Command → Type 0
EndsWithAll list commands = (before : List Command) × (list ≡ before ++ commands)

-- the command is the last of the list
abbrev pub EndsWith : List Command → Command → Type 0
EndsWith list command = EndsWithAll list (command ∷ [])

-- without these commands, which are its last, the list has this number
abbrev pub IsAfter : ℕ → List Command → Line → Type 0
IsAfter number commands line = (before : List Command) × (line.list ≡ before ++ commands) × (line.base.count + length before ≡ number)

-- what a command can be refused for
abbrev pub IsServiceRefusal : Refusal → Type 0
IsServiceRefusal Closed = Unit {0}
IsServiceRefusal Exists = Unit {0}
IsServiceRefusal NoSuch = Unit {0}
IsServiceRefusal Full = Unit {0}
IsServiceRefusal CountFull = Unit {0}
IsServiceRefusal Busy = Unit {0}
IsServiceRefusal NoMemory = Unit {0}
IsServiceRefusal (StoreFailed call) = Unit {0}
IsServiceRefusal NotPublished = Unit {0}
IsServiceRefusal _ = ⊥

-- why commands that were to be made at this number, if at one, are not made: they are refused, or the published list has another number
abbrev pub IsWhyNotMade : Option ℕ → SubmitError → Type 0
IsWhyNotMade expected (Refused reason) = IsServiceRefusal reason
IsWhyNotMade expected (Moved number) = (other : ℕ) × (expected ≡ Some other) × (other ≢ number)

-- what a follower can be refused for
abbrev pub IsFollowRefusal : Refusal → Type 0
IsFollowRefusal NotFetched = Unit {0}
IsFollowRefusal NoMemory = Unit {0}
IsFollowRefusal Closed = Unit {0}
IsFollowRefusal _ = ⊥

-- What became of commands of the named front together: a receipt of its published list, which ends with them, or why there is none.
abbrev pub AreAnswered : Book → State → List Command → Result Line Refusal → Type 0
AreAnswered book base commands result =
    IfOk result (λ receipt. (receipt.book ≡ book) × (receipt.base ≡ base) × EndsWithAll receipt.list commands) × IfErr result IsServiceRefusal

-- what became of a command
abbrev pub IsAnswer : Book → State → Command → Result Line Refusal → Type 0
IsAnswer book base command result = AreAnswered book base (command ∷ []) result
