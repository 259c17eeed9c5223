-- Why a step yields nothing.
use Rattle.std.specs.Prelude.{◌≡◌, Result, Err}
use Rattle.prt_import.specs.declared.fault.Fault.{Fault}
use Rattle.prt_import.specs.declared.fault.Fault.TheVariants.{Left, NoMemory}
use Rattle.prt_import.specs.declared.reason.Reason.{Reason}

-- the reason for which it has to be left out; memory may be refused in any case
abbrev pub IsWhy : {X : Type 0} → Result X Reason → Fault → Type 0
IsWhy made (Left reason) = made ≡ Err reason
IsWhy made NoMemory = Unit {0}
