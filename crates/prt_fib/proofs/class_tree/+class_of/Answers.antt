use Rattle.std.proofs.Common.{◌≡◌, true, false, cond, sym, ap, ◌∙◌}
use Rattle.prt_partition.specs.Classes.{takes_apart}
use Rattle.prt_fib.specs.Policy.{class_of}
use Rattle.prt_fib.specs.declared.class_tree.ClassTree.{ClassTree}
use Rattle.prt_fib.proofs.class_tree.+class_of.Goals as goal

pub returns-in-Class : goal.returns-in-Class
returns-in-Class t c = sym (ap (λ (tree : ClassTree). class_of tree c.args.packet.now) c.in-Class.is)

pub returns-then-takes_apart : goal.returns-then-takes_apart
returns-then-takes_apart t c =
    let packet = c.args.packet.now in
    let of = λ (tree : ClassTree). class_of tree packet in
    let takes : takes_apart c.in-Split.rule packet ≡ true = sym c.takes_apart.ensures ∙ c.if-takes_apart.true in
    c.class_of.ensures ∙ ap of c.deref.ensures ∙ sym (ap of c.in-Split.is ∙ ap (λ b. cond b (of c.in-Split.taken.value) (of c.in-Split.left.value)) takes)

pub returns-else-takes_apart : goal.returns-else-takes_apart
returns-else-takes_apart t c =
    let packet = c.args.packet.now in
    let of = λ (tree : ClassTree). class_of tree packet in
    let takes : takes_apart c.in-Split.rule packet ≡ false = sym c.takes_apart.ensures ∙ c.if-takes_apart.false in
    c.class_of-else-takes_apart.ensures ∙ ap of c.deref-else-takes_apart.ensures ∙ sym (ap of c.in-Split.is ∙ ap (λ b. cond b (of c.in-Split.taken.value) (of c.in-Split.left.value)) takes)
