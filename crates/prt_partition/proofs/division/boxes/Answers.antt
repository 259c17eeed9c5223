use Rattle.std.proofs.Common.{◌≡◌, ◌+◌, ◌*◌, ◌<◌, inr, ap, arith, length, refl, subst, sym, ◌∙◌}
use Rattle.prt_partition.specs.Boxes.{AreBoxes, all_interfaces, boxes_from}
use Rattle.prt_partition.specs.Marks.{mark_blocks}
use Rattle.prt_partition.specs.declared.limits.TheConstants.{MOST_BOXES}
use Rattle.prt_partition.proofs.BoxList.{all_boxes, count_interfaces}
use Rattle.prt_partition.proofs.division.boxes.Goals as goal

pub returns-clause-value : goal.returns-clause-value
returns-clause-value c =
    let rules = c.args.rules.now in
    let starts = c.in_ok-starts.starts.items in
    let names = c.in_ok-names.names.items in
    let marks = c.in_ok-marks.marks.items in
    subst (AreBoxes rules)
    (sym (c.in_ok-boxes.ensures
    ∙ ap (λ s. boxes_from s c.deref-3.result.now c.deref-4.result.now) c.deref-2.ensures.value
    ∙ ap (λ i. boxes_from starts i c.deref-4.result.now) (c.deref-3.ensures.value ∙ c.in_ok-interfaces.ensures ∙ ap all_interfaces c.deref.ensures.value)
    ∙ ap (λ m. boxes_from starts (all_interfaces names) m) c.deref-4.ensures.value))
    (all_boxes rules starts names marks c.in_ok-starts.ensures.value.are c.in_ok-names.ensures.value c.in_ok-marks.ensures.value)

pub returns-then-count-gt-MOST_BOXES-clause-reason : goal.returns-then-count-gt-MOST_BOXES-clause-reason
returns-then-count-gt-MOST_BOXES-clause-reason c =
    let rules = c.args.rules.now in
    let starts = c.in_ok-starts.starts in
    let names = c.in_ok-names.names in
    let interfaces = c.in_ok-interfaces.interfaces in
    let marks = c.in_ok-marks.marks in
    let one : c.len.result ≡ length starts.items = omega (arith, starts.ok.0) in
    let two : c.len-2.result ≡ length interfaces.items = omega (arith, interfaces.ok.0) in
    let three : c.len-3.result ≡ length marks.items = omega (arith, marks.ok.0) in
    let more = count_interfaces interfaces.items names.items (c.in_ok-interfaces.ensures ∙ ap all_interfaces c.deref.ensures.value) in
    let same : c.count.result ≡ length starts.items * (length names.items + 1) * length (mark_blocks rules) =
    c.count.ensures
    ∙ ap (λ n. n * c.len-2.result * c.len-3.result) one
    ∙ ap (λ n. length starts.items * n * c.len-3.result) (two ∙ more)
    ∙ ap (λ n. length starts.items * (length names.items + 1) * n) (three ∙ ap length c.in_ok-marks.ensures.all) in
    let over : MOST_BOXES < c.count.result = omega (arith, c.if-count-gt-MOST_BOXES.true) in
    inr (refl, inr (starts.items, names.items, c.in_ok-starts.ensures.value, c.in_ok-names.ensures.value, subst (λ n. MOST_BOXES < n) same over))
