-- A policy table may go to another thread, and several may look packets up in it.
use Rattle.std.below.std_heap.proofs.GlobalAllocator.TheSendSync as frees
use Rattle.std.proofs.alloc.Global.TheSendSync as global
use Rattle.std.proofs.boxed.Box.TheSendSync as box
use Rattle.std.proofs.sync.Arc.TheSendSync as arc
use Rattle.std.proofs.vec.Vec.TheSendSync as vec
use Rattle.std.specs.contracts.alloc.Global as Global
use Rattle.std.specs.contracts.impls.GlobalAllocator.TheImpl as TheImpl
use Rattle.prt_rule.proofs.rule.Rule.TheSendSync as rule
use Rattle.prt_version.proofs.version.Version.TheSendSync as version
use Rattle.prt_fib.proofs.class_tree.ClassTree.TheLaws.TheKnot as tree
use Rattle.prt_fib.proofs.table.Fib.TheSendSync as table
use Rattle.prt_fib.specs.contracts.class_tree.ClassTree as ClassTree
use Rattle.prt_fib.specs.contracts.policy.PolicyFib as PolicyFib
use Rattle.prt_fib.specs.contracts.policy.PolicyFib.TheInside as Inside
use Rattle.prt_fib.specs.contracts.table.Fib as Fib
use denote.Param.Send.{IsSend, IsSync, view_send, view_sync, recorded_send, recorded_sync, struct_send, struct_sync, plain_send, plain_sync}
use denote.Struct.Declared.{shape}
use denote.Struct.Field.{usize-field}

word_send : IsSend usize-field.row
word_send = plain_send _ _ _ _ _

word_sync : IsSync usize-field.row
word_sync = plain_sync _ _ _ _ _

tree_send : IsSend ClassTree.the_row
tree_send = recorded_send (ClassTree.the_field).row _ _ (ClassTree.the_type).to_one
    (tree.send-ClassTree word_send rule.the_field_send (λ h s. box.the_send h Global.the_row TheImpl.ghosts s global.the_send frees.the_frees))

tree_sync : IsSync ClassTree.the_row
tree_sync = recorded_sync (ClassTree.the_field).row _ _ (ClassTree.the_type).to_one
    (tree.sync-ClassTree word_sync rule.the_field_sync (λ h s. box.the_sync h Global.the_row TheImpl.ghosts s global.the_sync))

-- what a policy table is made of
parts_send : IsSend (Inside.the_field).row
parts_send = struct_send (shape Inside.the_type) (
  version.the_send,
  (
    vec.the_send Fib.the_row Global.the_row TheImpl.ghosts table.the_send global.the_send frees.the_frees,
    (arc.the_send ClassTree.the_row Global.the_row TheImpl.ghosts tree_send global.the_send tree_sync global.the_sync frees.the_frees, tt),
  ),
)

parts_sync : IsSync (Inside.the_field).row
parts_sync = struct_sync (shape Inside.the_type) (
  version.the_sync,
  (
    vec.the_sync Fib.the_row Global.the_row TheImpl.ghosts table.the_sync global.the_sync,
    (arc.the_sync ClassTree.the_row Global.the_row TheImpl.ghosts tree_send global.the_send tree_sync global.the_sync frees.the_frees, tt),
  ),
)

pub policy_send : IsSend PolicyFib.the_row
policy_send = view_send Inside.the_row _ _ _ _ (recorded_send (Inside.the_field).row _ _ (Inside.the_type).to_one parts_send)

pub policy_sync : IsSync PolicyFib.the_row
policy_sync = view_sync Inside.the_row _ _ _ _ (recorded_sync (Inside.the_field).row _ _ (Inside.the_type).to_one parts_sync)
