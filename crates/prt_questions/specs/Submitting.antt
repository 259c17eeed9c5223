-- What comes of a script whose commands a server is to make together.
use Rattle.std.specs.Prelude.{◌≡◌, ◌≢◌, ◌⊎◌, ◌+◌, ℕ, Bool, false, List, [], ◌∷◌, ◌++◌, codes, decimal, find, flat_map, length, Option, None, Some}
use Rattle.std.specs.Io.KnownBytes.{Appends}
use Rattle.prt_addr.specs.Word.{Word}
use Rattle.prt_command.specs.declared.request.Command.{Command}
use Rattle.prt_diff.specs.Text.{commands_text}
use Rattle.prt_program.specs.Program.{status_by}
use Rattle.prt_refusals.specs.declared.refusal.Refusal.{Refusal}
use Rattle.prt_replies.specs.Input.{Input, end_of_input}
use Rattle.prt_replies.specs.Reply.{is_refused, replies_text}
use Rattle.prt_replies.specs.ScriptEnd.{fault_after, refused_after}
use Rattle.prt_replies.specs.declared.reply.Reply.{Reply}
use Rattle.prt_replies.specs.declared.reply.Reply.TheVariants.{Refused}
use Rattle.prt_replies.specs.declared.script_end.ScriptEnd.{ScriptEnd}
use Rattle.prt_session.specs.Atomic.{CollectMay, WroteReplies, accepted_after, alone, collect_turn, collected}
use Rattle.prt_session.specs.Desk.{Mishap}
use Rattle.prt_session.specs.Run.{refused_in}
use Rattle.prt_session.specs.Session.{Path, replies}
use Rattle.prt_session.specs.declared.atomic.CommandsRead.{CommandsRead}
use Rattle.prt_args.specs.declared.fault.TheConstants.{FAULT}
use Rattle.prt_args.specs.declared.server_place.ServerPlace.{ServerPlace}
use Rattle.prt_questions.specs.Sources.{Gives, Sources}

-- ---- what a server is sent, and what it replies

-- how many commands come, and a line for each
abbrev pub submission_text : List Command → List ℕ
submission_text commands = codes "commands " ++ decimal (length commands) ++ codes "\n" ++ commands_text commands

-- the same, for the tables of a number alone
abbrev pub change_text : ℕ → List Command → List ℕ
change_text number commands = codes "at " ++ decimal number ++ codes "\n" ++ submission_text commands

-- a server made commands together over its tables of a number: it replied `ok` with each number after that
abbrev pub AreMade : (replies : List ℕ → List ℕ → Type 0) → ℕ → List Command → Type 0
AreMade replies number commands = replies (change_text number commands) (replies_text (accepted_after number (length commands)))

-- and the next ones over what those had left
abbrev pub AreAllMade : (replies : List ℕ → List ℕ → Type 0) → ℕ → List (List Command) → Type 0
AreAllMade replies number [] = Unit {0}
AreAllMade replies number (part ∷ parts) = AreMade replies number part × AreAllMade replies (number + length part) parts

-- commands were made in parts, one after the other
abbrev pub AreMadeInParts : (replies : List ℕ → List ℕ → Type 0) → ℕ → List Command → Type 0
AreMadeInParts replies number commands = (parts : List (List Command)) × (flat_map (λ part. part) parts ≡ commands) × AreAllMade replies number parts

-- `ok N` for each of as many commands, with numbers that rise by one; or a refusal alone
abbrev pub IsVerdictOf : ℕ → Option Refusal → List Reply → Type 0
IsVerdictOf count None told = (number : ℕ) × (told ≡ accepted_after number count)
IsVerdictOf count (Some reason) told = told ≡ Refused reason ∷ []

-- how a run ends by it
abbrev pub refused_by : Option Refusal → Bool
refused_by None = false
refused_by (Some reason) = refused_after false (Refused reason)

abbrev pub fault_by : Option Refusal → Option Refusal
fault_by None = None
fault_by (Some reason) = fault_after None (Refused reason)

-- these replies were written, or after a fault of the writer a part of their text, and the run ended by them
abbrev pub EndsWith : List Reply → (writer0 writer : Option (List ℕ)) → ScriptEnd → Type 0
EndsWith told writer0 writer end = (end.refused ≡ refused_in false told) × WroteReplies told writer0 writer end.fault

-- no line was refused, and nothing failed
abbrev pub IsQuiet : ScriptEnd → Type 0
IsQuiet end = (end.refused ≡ false) × (end.fault ≡ None)

-- commands were sent, and the reply to them was written
abbrev pub IsAnsweredBy : (replies : List ℕ → List ℕ → Type 0) → List Command → (writer0 writer : Option (List ℕ)) → ScriptEnd → Type 0
IsAnsweredBy answers commands writer0 writer end =
    (told : List Reply) × answers (submission_text commands) (replies_text told)
    × ((refusal : Option Refusal) × IsVerdictOf (length commands) refusal told) × EndsWith told writer0 writer end

-- What comes of a script that was read: nothing is sent of one that is refused or has no command; the commands of another are sent, and the reply is written.
abbrev pub IsSent : (replies : List ℕ → List ℕ → Type 0) → CommandsRead → (writer0 writer : Option (List ℕ)) → ScriptEnd → Type 0
IsSent answers read writer0 writer end =
    ((end ≡ read.end) × (writer ≡ writer0) × (IsQuiet read.end → read.commands.items ≡ []))
    ⊎ (IsQuiet read.end × (read.commands.items ≢ []) × IsAnsweredBy answers read.commands.items writer0 writer end)

-- ---- the whole script

-- the reply is a refusal, if there is one
abbrev pub IsRefusal : Option Reply → Type 0
IsRefusal None = Unit {0}
IsRefusal (Some reply) = (reason : Refusal) × (reply ≡ Refused reason)

-- A script that is such a text was read as an atomic one is, up to the first line that is refused: these are its commands, and the refusal, if there is one.
pub record IsScriptRead (gives : List ℕ → Type 0) (commands : List Command) (refusal : Option Reply) : Type 0 where
  pub input : Input
  pub mishaps : List (Option Mishap)
  pub beyond : List ℕ
  pub given : gives (input.bytes ++ beyond)
  pub whole : input.ending ≡ end_of_input → beyond ≡ []
  pub path : Path collect_turn CollectMay [] (collected input mishaps).exchanges (collected input mishaps).desk
  pub are : commands ≡ (collected input mishaps).desk
  pub is_first : refusal ≡ find is_refused (replies (collected input mishaps))

-- its refusal was written, or a part of it, and the reading ended by it
abbrev pub IsReadOf : (gives : List ℕ → Type 0) → (writer0 writer : Option (List ℕ)) → CommandsRead → Type 0
IsReadOf gives writer0 writer read =
    (refusal : Option Reply) × IsScriptRead gives read.commands.items refusal × IsRefusal refusal × EndsWith (alone refusal) writer0 writer read.end

module _ (from : Sources) (place : ServerPlace) where
  -- what is replied to a script: the refusal of its first refused line; nothing if it has no command; else what the server replies to all of them
  abbrev pub IsReplied : Option Reply → List Command → List Reply → Type 0
  IsReplied (Some refused) commands told = (told ≡ refused ∷ []) × IsRefusal (Some refused)
  IsReplied None [] told = told ≡ []
  IsReplied None (command ∷ commands) told =
      from.submits place (submission_text (command ∷ commands)) (replies_text told)
      × ((refusal : Option Refusal) × IsVerdictOf (length (command ∷ commands)) refusal told)

  -- The script was read, and what is replied to it was written. The exit status is that of `prt batch --atomic` with these replies.
  pub record HasSubmitted (file : Option Word) (writer0 writer : Option (List ℕ)) (status : ℕ) : Type 0 where
    pub commands : List Command
    pub refusal : Option Reply
    pub told : List Reply
    pub fault : Option Refusal
    pub read : IsScriptRead (Gives from file) commands refusal
    pub replied : IsReplied refusal commands told
    pub wrote : WroteReplies told writer0 writer fault
    pub status_is : status ≡ status_by fault (refused_in false told)

  -- all is written that a server replied to these commands: `ok N` for each
  abbrev pub IsAllTold : List Command → (writer0 writer : Option (List ℕ)) → Type 0
  IsAllTold [] writer0 writer = Appends writer0 writer []
  IsAllTold (command ∷ commands) writer0 writer =
      (number : ℕ)
      × from.submits place (submission_text (command ∷ commands)) (replies_text (accepted_after number (length (command ∷ commands))))
      × Appends writer0 writer (replies_text (accepted_after number (length (command ∷ commands))))

  -- What status 0 says: no line of the script was refused, and the server accepted each command.
  abbrev pub IsAllMade : (file : Option Word) → (writer0 writer : Option (List ℕ)) → Type 0
  IsAllMade file writer0 writer = (commands : List Command) × IsScriptRead (Gives from file) commands None × IsAllTold commands writer0 writer

  -- Otherwise nothing was written, and the status is that of a fault: the script can't be read, or no whole reply came.
  abbrev pub IsSubmitted : (file : Option Word) → (writer0 writer : Option (List ℕ)) → (status : ℕ) → Type 0
  IsSubmitted file writer0 writer status = HasSubmitted file writer0 writer status ⊎ ((status ≡ FAULT) × Appends writer0 writer [])
