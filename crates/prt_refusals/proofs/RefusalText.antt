-- The text of a refusal is short.
use Rattle.std.proofs.Common.{◌<◌, ◌≤◌, length, lit<, lit≤, arith}
use Rattle.std.proofs.lemmas.Fmt.{length-decimal-le}
use Rattle.std.specs.Fmt.{decimal}
use Rattle.prt_refusals.specs.Refusal.{code_of, name_of}
use Rattle.prt_refusals.specs.declared.refusal.Refusal.{Refusal}
use Rattle.prt_refusals.specs.declared.refusal.Refusal.TheVariants.{LineTooLong}

-- the number of a refusal has at most two digits
code_below : (reason : Refusal) → code_of reason < 100
code_below LineTooLong = lit< tt
code_below _ = lit< tt

pub code_short : (reason : Refusal) → length (decimal (code_of reason)) ≤ 2
code_short reason = let h = code_below reason in length-decimal-le 2 (code_of reason) (lit< tt) h (omega arith)

-- no name is longer than that of a missing destination
pub name_short : (reason : Refusal) → length (name_of reason) ≤ 18
name_short LineTooLong = lit≤ tt
name_short _ = lit≤ tt
