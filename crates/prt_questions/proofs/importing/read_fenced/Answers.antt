use Rattle.std.proofs.Common.{refl, subst}
use Rattle.prt_questions.specs.Fencing.{IsFenceOf}
use Rattle.prt_questions.proofs.importing.read_fenced.Goals as goal

pub returns-in-Ok-fence_beside-clause-made : goal.returns-in-Ok-fence_beside-clause-made
returns-in-Ok-fence_beside-clause-made g c = record {
  accepted = c.in-Ok.read.0;
  left = c.in-Ok.read.2.items;
  listing = c.in-Ok.ensures.made;
  is_fence = subst (λ left. IsFenceOf c.args.reach.now left c.in-Ok-fence_beside.fence) c.deref.ensures.value c.in-Ok-fence_beside.ensures;
  makes = refl;
}

pub returns-in-Ok-fence_beside-clause-kept : goal.returns-in-Ok-fence_beside-clause-kept
returns-in-Ok-fence_beside-clause-kept g c = λ done. (
  record {
    accepted = c.in-Ok.read.0;
    left = c.in-Ok.read.2.items;
    listing = c.in-Ok.ensures.made;
    is_fence = subst (λ left. IsFenceOf c.args.reach.now left c.in-Ok-fence_beside.fence) c.deref.ensures.value c.in-Ok-fence_beside.ensures;
    makes = refl;
  },
  c.in-Ok.ensures.kept done,
)
