use Rattle.std.proofs.Common.{sym, ap, subst, ◌∙◌}
use Rattle.std.specs.Prelude.{All, List}
use Rattle.prt_command.specs.Storable.{IsStorable}
use Rattle.prt_store.proofs.Accepted.{are_next}
use Rattle.prt_store.specs.Next.{AreNext}
use Rattle.prt_version.proofs.Folds.{count_fold}
use Rattle.prt_version.specs.State.{State}
use Rattle.prt_version.specs.declared.change.Change.{Change}
use Rattle.prt_disk_tests.proofs.store.together.submit_all.Goals as goal

pub commit_all-requires-clause-next : goal.commit_all-requires-clause-next
commit_all-requires-clause-next g c =
    let storable = subst (All IsStorable) (sym c.deref.ensures.value) c.requires in
    let are = c.deref-2.ensures.value ∙ c.in_ok-changes.ensures.changes in
    let numbered = c.number.ensures.value ∙ ap (λ (v : State). v.count) c.in_ok-changes.ensures.version in
    let accepted = c.in_ok-changes.ensures.accepted in
    let counted = numbered ∙ count_fold c.in_ok-version.version c.deref.result.now accepted in (
      c.in_ok-version.version,
      subst (λ (changes : List Change). AreNext c.in_ok-version.version changes c.number.result) (sym are)
          (are_next c.in_ok-version.version c.deref.result.now c.number.result c.number-number.ensures.sound storable accepted counted),
    )
