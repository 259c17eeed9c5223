-- What each document makes of the text that it is appended to.
use Rattle.std.specs.Prelude.{◌≡◌, ℕ, List, ◌++◌, Result, IsOkUnless, OnErr, OnOk}
use Rattle.prt_refusals.specs.declared.refusal.Refusal.{Refusal}
use Rattle.prt_refusals.specs.declared.refusal.Refusal.TheVariants.{NoMemory}
use Rattle.json.specs.Json.{Json}
use Rattle.prt_json.specs.Fields.{ReadsBack, json_line}

-- the line of the value is appended, which reads as the value; or memory is refused, and nothing is appended
pub record Appends (result : Result (Unit {0}) Refusal) (old new : List ℕ) (value : Json) : Type 0 where
  pub ok : OnOk result (new ≡ old ++ json_line value)
  pub reads_back : OnOk result (ReadsBack value)
  pub err : OnErr result (new ≡ old)
  pub reason : IsOkUnless result NoMemory
