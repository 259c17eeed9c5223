use Rattle.std.proofs.Common.{subst, sym}
use Rattle.prt_partition.specs.Classes.{AreClasses}
use Rattle.prt_analyses.proofs.unused.search.unused.Goals as goal

pub used_by-requires-clause-classes : goal.used_by-requires-clause-classes
used_by-requires-clause-classes c =
    subst (AreClasses c.args.version.now.rules) (sym c.deref-4.ensures.value)
    (subst (λ rules. AreClasses rules c.in_ok-classes.classes.items) c.rules.ensures.value c.in_ok-classes.ensures.value)
