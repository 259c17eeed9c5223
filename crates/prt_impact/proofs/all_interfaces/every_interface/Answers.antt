use Rattle.std.proofs.Common.{List, [], ◌∷◌, ◌++◌, ◌∙◌, ap, subst}
use Rattle.std.specs.Prelude.{map}
use Rattle.std.specs.List.Sorted.{IsPermutation}
use Rattle.prt_impact.specs.declared.group.InterfaceSet.{InterfaceSet}
use Rattle.prt_impact.specs.declared.group.InterfaceSet.TheVariants.{Named, AllOthers}
use Rattle.prt_impact.proofs.Wholes.{all_there}
use Rattle.prt_impact.proofs.all_interfaces.every_interface.Goals as goal

pub returns : goal.returns
returns c =
    let sorted = c.sort_by.new.self.items in
    let are = c.in_ok-extend_from_slice.ensures.items ∙ ap (λ (xs : List InterfaceSet). xs ++ AllOthers ∷ []) (c.in_ok-interfaces.ensures ∙ ap (map Named) c.deref.ensures.value) in
    all_there c.args.rules.now c.in_ok-names.names.items sorted c.in_ok-names.ensures.value (subst (λ xs. IsPermutation xs sorted) are c.sort_by.ensures.permutation)
