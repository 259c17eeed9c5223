-- Results of options.
use Rattle.std.proofs.Common.{◌≡◌, Option, Some, None, refl}
use Rattle.std.specs.Option.{ok_or}
use Rattle.std.specs.Result.{result_ok}

-- a value that was there is there again
pub ok_of_ok_or : {T E : Type 0} (value : Option T) (error : E) → result_ok (ok_or value error) ≡ value
ok_of_ok_or (Some x) error = refl
ok_of_ok_or None error = refl
