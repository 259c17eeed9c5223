use Rattle.std.proofs.Common.{◌≡◌, ◌∙◌, refl}
use Rattle.std.specs.Arc.{arc_value}
use Rattle.prt_version.specs.State.{opening_rules}
use Rattle.prt_version.proofs.Successor.{opens_sound}
use Rattle.prt_version.proofs.version.Version.opening.Goals as goal

pub of-requires : goal.of-requires
of-requires c =
    let rules : arc_value c.in_ok-first_owner.field-0 ≡ opening_rules = cc (c.in_ok-first_owner.ensures.value, c.in_ok-rules.ensures, c.in_ok-opening.ensures.items, c.opening_rules.ensures) in
    opens_sound _ _ _ _ _ refl refl refl rules (c.in_ok-first_owner-2.ensures.value ∙ c.new-2.ensures)
