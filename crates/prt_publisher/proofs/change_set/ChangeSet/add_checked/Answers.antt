use Rattle.std.proofs.Common.{◌≡◌, ◌++◌, ◌∷◌, [], List, Ok, ap, sym, subst, ◌∙◌}
use Rattle.prt_command.specs.declared.request.Command.{Command}
use Rattle.prt_version.specs.Change.{check, fold}
use Rattle.prt_version.specs.State.{State}
use Rattle.prt_publisher.specs.ChangeSet.{Planned, planned_state}
use Rattle.prt_publisher.proofs.Checks.{added}
use Rattle.prt_publisher.proofs.change_set.ChangeSet.add_checked.Goals as goal

pub next-requires : goal.next-requires
next-requires c =
    let command : Command = c.args.command.now in
    let makes : check (fold c.self.inside.base c.self.inside.commands.items) command ≡ Ok c.args.change =
    subst (λ (p : Planned). check (planned_state p) command ≡ Ok c.args.change) (sym c.self.view_is) c.requires.makes in
    record { command = command; makes = subst (λ (s : State). check s command ≡ Ok c.args.change) (sym c.self.invariant.2) makes }

pub invariant_of-self-in-Ok : goal.invariant_of-self-in-Ok
invariant_of-self-in-Ok c =
    let inside = c.self.inside in
    let command : Command = c.args.command.now in
    let makes : check (fold inside.base inside.commands.items) command ≡ Ok c.args.change =
    subst (λ (p : Planned). check (planned_state p) command ≡ Ok c.args.change) (sym c.self.view_is) c.requires.makes in
    added inside.base inside.commands.items c.extend_from_slice-2.new.self.items command c.args.change inside.changes.items c.extend_from_slice.new.self.items inside.last c.advance.new.last
    c.self.invariant.0 c.self.invariant.1 c.self.invariant.2 c.self.invariant.3 c.requires.storable makes
    (c.in-Ok.ensures.items ∙ ap (λ (list : List Command). list ++ command ∷ []) c.reserve.ensures.items) c.in_ok-extend_from_slice.ensures.items (c.advance.ensures ∙ c.in_ok-next.ensures.value)
