use Rattle.std.proofs.Common.{◌≡◌, true, ap, ◌++◌, drop, length}
use Rattle.std.specs.Prelude.{replicate}
use Rattle.prt_route.specs.Name.{is_name}
use Rattle.prt_route.proofs.Padding.{padded}
use Rattle.prt_route.proofs.dev.read_dev.Goals as goal

pub invariant_of-result : goal.invariant_of-result
invariant_of-result c =
    let named : is_name c.args.word.now ≡ true = cc in
    padded c.args.word.now _ named (ap (λ x. x ++ drop (length c.args.word.now) (replicate 15 0)) c.copy_from_slice.ensures.after)
