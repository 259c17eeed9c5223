-- Why the program runs nothing.
use Rattle.std.specs.Prelude.{◌≡◌, ◌⊎◌, Option, Some, None}
use Rattle.prt_refusals.specs.Opening.{IsOpenRefusal}
use Rattle.prt_addr.specs.Word.{Word}
use Rattle.prt_refusals.specs.declared.refusal.Refusal.{Refusal}
use Rattle.prt_refusals.specs.declared.refusal.Refusal.TheVariants.{NoMemory, ReadFault}
use Rattle.prt_args.specs.Faults.{IsStatusOf, fault_status}
use Rattle.prt_args.specs.Invocation.{Invocation, batch}
use Rattle.prt_args.specs.declared.fault.Fault.{Fault}
use Rattle.prt_args.specs.declared.fault.Fault.TheVariants.{Words, Opening, Listener}

-- the database at this path, or a new one in memory, could not be opened
abbrev pub IsDatabaseFault : Option Word → Refusal → Type 0
IsDatabaseFault None reason = reason ≡ NoMemory
IsDatabaseFault (Some path) reason = IsOpenRefusal reason

-- the script or its database could not be opened
abbrev pub IsScriptFault : Option Word → Refusal → Type 0
IsScriptFault database reason = (reason ≡ ReadFault) ⊎ IsDatabaseFault database reason

-- the fault is one of opening, for such a reason
abbrev pub IsOpening : (Refusal → Type 0) → Fault → Type 0
IsOpening may (Words error) = ⊥
IsOpening may (Opening reason) = may reason
IsOpening may Listener = ⊥

-- which database is asked for; none for one in memory
abbrev pub database_of : Invocation → Option Word
database_of (batch script) = script.database
database_of asked = None

-- what running the words may answer in place of a run
abbrev pub IsFault : Invocation → Fault → Type 0
IsFault asked (Words error) = IsStatusOf asked (fault_status (Words error))
IsFault asked (Opening reason) = IsScriptFault (database_of asked) reason
IsFault asked Listener = ⊥
