-- Databases that are not opened.
use Rattle.std.specs.Prelude.{◌≡◌, ◌⊎◌}
use Rattle.prt_refusals.specs.declared.refusal.Refusal.{Refusal}
use Rattle.prt_refusals.specs.declared.refusal.Refusal.TheVariants.{Damaged, NoMemory, OpenFailed}

-- why a database is not opened: it encodes no state, a store call failed, or memory was refused
abbrev pub IsOpenRefusal : Refusal → Type 0
IsOpenRefusal reason = (reason ≡ Damaged) ⊎ ((reason ≡ OpenFailed) ⊎ (reason ≡ NoMemory))
