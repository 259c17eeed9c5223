use Rattle.std.proofs.Common.{◌≡◌, None, subst}
use Rattle.prt_partition.specs.Comparison.{after_of}
use Rattle.prt_partition.specs.Equivalence.{IsFirstChange}
use Rattle.prt_partition.proofs.AllPackets.{no_change}
use Rattle.prt_partition.proofs.Verdicts.{equal_are_same}
use Rattle.prt_partition.proofs.equivalence.change_of.Goals as goal

pub returns : goal.returns
returns c =
    let sameness = c.args.sameness in
    let before = c.args.before.now in
    let after = c.args.after.now in
    let class = c.args.class.now in
    let of_before = subst (λ was. IsFirstChange sameness was (after_of c.in_ok-comparison.comparison) class c.deref.result.now None) c.in_ok-comparison.ensures.before c.in-None.ensures in
    let of_both = subst (λ is. IsFirstChange sameness before is class c.deref.result.now None) c.in_ok-comparison.ensures.after of_before in
    no_change sameness before after class c.args.differing.now c.requires
    (subst (λ starts. IsFirstChange sameness before after class starts None) c.deref.ensures.value of_both)

pub returns-then-is_nothing : goal.returns-then-is_nothing
returns-then-is_nothing c = λ addr fits.
    equal_are_same c.args.sameness _ _ (c.requires.quiet _ (c.in_ok-touching.ensures addr (c.is_nothing.ensures c.if-is_nothing.true _)))
