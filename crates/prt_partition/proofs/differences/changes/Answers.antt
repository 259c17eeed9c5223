use Rattle.std.proofs.Common.{◌≡◌, ℕ, List, [], subst, sym, ap, ◌∙◌}
use Rattle.std.specs.Prelude.{map}
use Rattle.std.specs.List.{dedup}
use Rattle.prt_rule.specs.declared.packet.Packet.{Packet}
use Rattle.prt_version.specs.Select.{select}
use Rattle.prt_version.specs.State.{State}
use Rattle.prt_partition.specs.Comparison.{after_of}
use Rattle.prt_partition.specs.Cuts.{to}
use Rattle.prt_partition.specs.Spans.{AreDifferences}
use Rattle.prt_partition.specs.declared.differences.Difference.{Difference}
use Rattle.prt_partition.specs.declared.sameness.Sameness.{Sameness}
use Rattle.prt_partition.specs.Steps.{contrast_from, differences_of, have_same}
use Rattle.prt_partition.proofs.Contrasts.{differences}
use Rattle.prt_partition.proofs.Verdicts.{equal_are_same}
use Rattle.prt_partition.proofs.differences.changes.Goals as goal

pub returns-clause-value : goal.returns-clause-value
returns-clause-value c =
    let sameness = c.args.sameness in
    let before = c.args.before.now in
    let after = c.args.after.now in
    let packet = c.args.packet.now in
    let comparison = c.in_ok-comparison.comparison in
    let contrasts =
    c.in_ok-contrasts.ensures
    ∙ ap (λ was. map (contrast_from sameness was (after_of comparison) packet) c.deref.result.now) c.in_ok-comparison.ensures.before
    ∙ ap (λ is. map (contrast_from sameness before is packet) c.deref.result.now) c.in_ok-comparison.ensures.after
    ∙ ap (map (contrast_from sameness before after packet)) c.deref.ensures.value in
    let joined = c.deref-2.ensures.value ∙ c.join.ensures ∙ ap (dedup have_same) contrasts in
    subst (AreDifferences sameness before after packet) (sym (c.in_ok-differences.ensures ∙ ap differences_of joined))
    (differences sameness before after packet c.args.differing.now c.requires)

-- what nothing touches goes the same way to each destination
none : (sameness : Sameness) (before after : State) (packet : Packet) (differences : List Difference) → differences ≡ [] → ((addr : ℕ) → select before (to packet addr) ≡ select after (to packet addr)) → AreDifferences sameness before after packet differences
none sameness before after packet differences e same =
    subst (AreDifferences sameness before after packet) (sym e)
    (record { sound = tt; complete = λ addr fits differs. absurd (differs (equal_are_same sameness _ _ (same addr))); rise = tt })

pub returns-then-is_nothing-clause-value : goal.returns-then-is_nothing-clause-value
returns-then-is_nothing-clause-value c =
    none c.args.sameness c.args.before.now c.args.after.now c.args.packet.now _ c.new.ensures.items
    (λ addr. c.requires.quiet _ (c.in_ok-touching.ensures addr (c.is_nothing.ensures c.if-is_nothing.true _)))
