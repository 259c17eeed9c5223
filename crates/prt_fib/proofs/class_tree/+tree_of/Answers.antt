use Rattle.std.proofs.Common.{◌≡◌, true, false, cond, List, ◌∷◌, length, sym, ap, ◌∙◌, subst}
use Rattle.std.specs.Prelude.{filter}
use Rattle.std.specs.List.{Contains}
use Rattle.std.proofs.lemmas.Bool.{eqb-true}
use Rattle.std.proofs.lemmas.Result.{IfOk-weaker}
use Rattle.prt_rule.specs.declared.packet.Packet.{Packet}
use Rattle.prt_rule.specs.declared.rule.Rule.{Rule}
use Rattle.prt_partition.specs.Classes.{takes_apart}
use Rattle.prt_fib.specs.Policy.{AreTakenAlike, FindsClass, IsAlike, class_of, is_left, is_taken}
use Rattle.prt_fib.specs.declared.class_tree.Class.{Class}
use Rattle.prt_fib.specs.declared.class_tree.ClassTree.{ClassTree}
use Rattle.prt_fib.proofs.Classified.{all_left, all_taken, finds_by_rest, finds_by_split}
use Rattle.prt_fib.proofs.class_tree.+tree_of.Goals as goal
use Rattle.prt_fib.proofs.class_tree.+tree_of.Goals.{then-is_empty-via-then-is_empty, then-is_empty-via-else-is_empty+then-is_empty-2}

pub returns-then-is_empty : goal.returns-then-is_empty
returns-then-is_empty t c =
    let rule : Rule = c.in-Some.rule.now in
    let rest : List Rule = c.in-Some.rest.now in
    let classes : List Class = c.args.classes.now in
    let cut : c.args.rules.now ≡ rule ∷ rest = c.in-Some.ensures.cases.0 in
    let by : (tree : ClassTree) → FindsClass rest classes tree → FindsClass (rule ∷ rest) classes tree =
    elim c.then-is_empty.branch [
      | then-is_empty-via-then-is_empty w ↦
          (λ tree finds. finds_by_rest rule rest classes false tree
          (all_left rule classes (sym (ap length c.in_ok-taken.ensures) ∙ sym c.in_ok-taken.taken.ok.0 ∙ eqb-true c.in_ok-taken.taken.len 0 (sym c.is_empty.ensures ∙ w.if-is_empty.true))) finds)
      | then-is_empty-via-else-is_empty+then-is_empty-2 w ↦
          (λ tree finds. finds_by_rest rule rest classes true tree
          (all_taken rule classes (sym (ap length c.in_ok-left.ensures) ∙ sym c.in_ok-left.left.ok.0 ∙ eqb-true c.in_ok-left.left.len 0 (sym w.is_empty-else-is_empty.ensures ∙ w.if-is_empty-2.true))) finds)
    ] in
    IfOk-weaker c.tree_of.result _ (FindsClass c.args.rules.now classes) (λ tree finds. subst (λ rs. FindsClass rs classes tree) (sym cut) (by tree finds)) c.tree_of.ensures

pub returns : goal.returns
returns t c =
    let rule : Rule = c.in-Some.rule.now in
    let rest : List Rule = c.in-Some.rest.now in
    let classes : List Class = c.args.classes.now in
    let cut : c.args.rules.now ≡ rule ∷ rest = c.in-Some.ensures.cases.0 in
    let a : ClassTree = c.in_ok-new.field-0.value in
    let b : ClassTree = c.in_ok-new-2.field-0.value in
    let by_taken : FindsClass rest (filter (is_taken rule) classes) a =
    subst (FindsClass rest (filter (is_taken rule) classes)) (sym c.in_ok-new.ensures.ok) (subst (λ cs. FindsClass rest cs c.in_ok-taken-2.taken) (c.deref.ensures.value ∙ c.in_ok-taken.ensures) c.in_ok-taken-2.ensures) in
    let by_left : FindsClass rest (filter (is_left rule) classes) b =
    subst (FindsClass rest (filter (is_left rule) classes)) (sym c.in_ok-new-2.ensures.ok) (subst (λ cs. FindsClass rest cs c.in_ok-left-2.left) (c.deref-2.ensures.value ∙ c.in_ok-left.ensures) c.in_ok-left-2.ensures) in
    subst (λ rs. (packet : Packet) (class : Class) → Contains classes class → AreTakenAlike rs packet class.packet → IsAlike rs classes packet (cond (takes_apart rule packet) (class_of a packet) (class_of b packet))) (sym cut)
    (finds_by_split rule rest classes a b by_taken by_left)
