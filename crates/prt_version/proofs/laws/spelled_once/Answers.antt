use Rattle.std.proofs.Common.{sym, ◌∙◌}
use Rattle.std.proofs.lemmas.List.Sorted.{Contains-permutation, IsPermutation-sym}
use Rattle.prt_version.proofs.OneForm.{same_state}
use Rattle.prt_version.proofs.laws.spelled_once.Goals as goal

pub returns : goal.returns
returns c = λ number rules routes state other spells others.
    same_state state other spells.sound others.sound (spells.count ∙ sym others.count)
    (λ rule there. Contains-permutation rules other.rules rule others.rules_are (Contains-permutation state.rules rules rule (IsPermutation-sym rules state.rules spells.rules_are) there))
    (λ rule there. Contains-permutation rules state.rules rule spells.rules_are (Contains-permutation other.rules rules rule (IsPermutation-sym rules other.rules others.rules_are) there))
    (λ route there. Contains-permutation routes other.routes route others.routes_are (Contains-permutation state.routes routes route (IsPermutation-sym routes state.routes spells.routes_are) there))
    (λ route there. Contains-permutation routes state.routes route spells.routes_are (Contains-permutation other.routes routes route (IsPermutation-sym routes other.routes others.routes_are) there))
