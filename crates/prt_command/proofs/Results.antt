-- What is in a result or an option.
use Rattle.std.proofs.Common.{◌≡◌, Option, Some, Result, Ok, Err}
use Rattle.prt_refusals.specs.declared.refusal.Refusal.{Refusal}

abbrev pub ok_result : {X : Type 0} → X → Result X Refusal
ok_result x = Ok x

abbrev pub err_result : {X : Type 0} → Refusal → Result X Refusal
err_result e = Err e

pub ok_inj : {X : Type 0} (x y : X) → ok_result x ≡ Ok y → x ≡ y
ok_inj x y h = cc

pub err_inj : {X : Type 0} (d e : Refusal) → err_result {X = X} d ≡ Err e → d ≡ e
err_inj d e h = cc

abbrev some_of : {X : Type 0} → X → Option X
some_of x = Some x

pub some_inj : {X : Type 0} (x y : X) → some_of x ≡ Some y → x ≡ y
some_inj x y h = cc
