use Rattle.std.proofs.Common.{◌≡◌, map, sym, ap, ◌∙◌, subst}
use Rattle.std.specs.Arc.{arc_value}
use Rattle.prt_version.specs.State.{State}
use Rattle.prt_fib.specs.Fib.{Table}
use Rattle.prt_fib.specs.Policy.{AreTablesOf, IsWhole}
use Rattle.prt_fib.proofs.Classified.{whole_after}
use Rattle.prt_fib.proofs.policy.PolicyFib.after.Goals as goal

pub invariant_of-result : goal.invariant_of-result
invariant_of-result c =
    let inside = c.self.inside in
    let next = c.args.next.now in
    let after = c.in_ok-tables_after.field-0.items in
    let rules : next.rules ≡ inside.version.rules =
    ap (λ (s : State). s.rules) c.requires ∙ c.changes_rules.ensures c.if-changes_rules.false c.args.self.now ∙ sym (ap (λ (s : State). s.rules) c.self.view_is) in
    let of : AreTablesOf next (map (λ (table : Table). table.packet) inside.tables.items) after =
    subst (λ ts. AreTablesOf next (map (λ (table : Table). table.packet) ts) after) c.deref.ensures.value c.in_ok-tables_after.ensures.value in
    subst (λ s. IsWhole s after (arc_value c.in_ok-try_clone.field-0)) (sym c.in_ok-share.ensures)
    (subst (IsWhole next after) (sym c.in_ok-try_clone.ensures) (whole_after inside.version next inside.tables.items after (arc_value inside.tree) c.self.invariant rules of))
