-- The number and the name of each refusal.
use Rattle.std.specs.Prelude.{ℕ, List, ◌++◌, codes, decimal}
use Rattle.prt_refusals.specs.declared.refusal.Refusal.{Refusal}
use Rattle.prt_refusals.specs.declared.refusal.Refusal.TheVariants.{LineTooLong, NotAscii, UnknownObject, UnknownVerb, UnknownWord, MissingValue}
use Rattle.prt_refusals.specs.declared.refusal.Refusal.TheVariants.{Repeated, BadAddress, BadPrefix, HostBits, BadNumber, BadTable, BadName}
use Rattle.prt_refusals.specs.declared.refusal.Refusal.TheVariants.{MissingDestination, NoNextHop, NextHopNotAllowed, TooBroad, SuppressNotAllowed}
use Rattle.prt_refusals.specs.declared.refusal.Refusal.TheVariants.{TooManyCommands, Closed, Exists, NoSuch, Full, CountFull, Busy, NoMemory}
use Rattle.prt_refusals.specs.declared.refusal.Refusal.TheVariants.{StoreFailed, NotPublished, NotFetched, Damaged, OpenFailed, ReadFault}
use Rattle.prt_refusals.specs.declared.refusal.Refusal.TheVariants.{WriteFault, TooManyLines}

-- the number of a refusal, and its name
abbrev pub entry_of : Refusal → ℕ × List ℕ
entry_of LineTooLong = (1, codes "LineTooLong")
entry_of NotAscii = (2, codes "NotAscii")
entry_of UnknownObject = (3, codes "UnknownObject")
entry_of UnknownVerb = (4, codes "UnknownVerb")
entry_of UnknownWord = (5, codes "UnknownWord")
entry_of MissingValue = (6, codes "MissingValue")
entry_of Repeated = (7, codes "Repeated")
entry_of BadAddress = (8, codes "BadAddress")
entry_of BadPrefix = (9, codes "BadPrefix")
entry_of HostBits = (10, codes "HostBits")
entry_of BadNumber = (11, codes "BadNumber")
entry_of BadTable = (12, codes "BadTable")
entry_of BadName = (13, codes "BadName")
entry_of MissingDestination = (14, codes "MissingDestination")
entry_of NoNextHop = (15, codes "NoNextHop")
entry_of NextHopNotAllowed = (16, codes "NextHopNotAllowed")
entry_of TooBroad = (17, codes "TooBroad")
entry_of SuppressNotAllowed = (18, codes "SuppressNotAllowed")
entry_of TooManyCommands = (19, codes "TooManyCommands")
entry_of Closed = (20, codes "Closed")
entry_of Exists = (21, codes "Exists")
entry_of NoSuch = (22, codes "NoSuch")
entry_of Full = (23, codes "Full")
entry_of CountFull = (24, codes "CountFull")
entry_of Busy = (25, codes "Busy")
entry_of NoMemory = (26, codes "NoMemory")
entry_of (StoreFailed call) = (27, codes "StoreFailed")
entry_of NotPublished = (28, codes "NotPublished")
entry_of NotFetched = (29, codes "NotFetched")
entry_of Damaged = (30, codes "Damaged")
entry_of OpenFailed = (31, codes "OpenFailed")
entry_of ReadFault = (32, codes "ReadFault")
entry_of WriteFault = (33, codes "WriteFault")
entry_of TooManyLines = (34, codes "TooManyLines")

abbrev pub code_of : Refusal → ℕ
code_of refusal = (entry_of refusal).0

abbrev pub name_of : Refusal → List ℕ
name_of refusal = (entry_of refusal).1

-- `error C NAME`
abbrev pub refusal_text : Refusal → List ℕ
refusal_text refusal = codes "error " ++ decimal (code_of refusal) ++ codes " " ++ name_of refusal
