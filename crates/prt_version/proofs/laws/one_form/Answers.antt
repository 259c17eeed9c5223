use Rattle.prt_version.proofs.OneForm.{same_state}
use Rattle.prt_version.proofs.laws.one_form.Goals as goal

pub returns : goal.returns
returns c = λ state other sound other_sound counts rules routes. same_state state other sound other_sound counts (λ rule. (rules rule).0) (λ rule. (rules rule).1) (λ route. (routes route).0) (λ route. (routes route).1)
