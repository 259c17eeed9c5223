use Rattle.std.proofs.Common.{◌≡◌, ◌⊎◌, List, Some, subst, take}
use Rattle.prt_refusals.specs.declared.refusal.Refusal.TheVariants.{NoMemory}
use Rattle.prt_command.specs.declared.request.Command.{Command}
use Rattle.prt_version.specs.Accepted.{IsAccepted}
use Rattle.prt_version.specs.Change.{fold, refusal}
use Rattle.prt_version.specs.State.{State}
use Rattle.prt_publisher.proofs.Checks.{refused_at}
use Rattle.prt_publisher.proofs.change_set.ChangeSet.of_all.Goals as goal

pub returns-in-Err-add-clause-reason : goal.returns-in-Err-add-clause-reason
returns-in-Err-add-clause-reason c =
    let version = c.args.version.now in
    let commands = c.args.commands.now in
    let i = c.loop-command.command-index in
    let command : Command = c.command-item.result in
    let why = c.in-Err-add.reason in
    let met = c.loop-command.invariant in
    let accepted : IsAccepted version (take i commands) =
    subst (λ (s : State). IsAccepted s (take i commands)) met.base (subst (IsAccepted c.loop-command.set.base) met.done met.accepted) in
    let refused : (refusal (fold version (take i commands)) command ≡ Some why) ⊎ (why ≡ NoMemory) =
    subst (λ (s : State). (refusal (fold s (take i commands)) command ≡ Some why) ⊎ (why ≡ NoMemory)) met.base
    (subst (λ (done : List Command). (refusal (fold c.loop-command.set.base done) command ≡ Some why) ⊎ (why ≡ NoMemory)) met.done c.in-Err-add.ensures.reason) in
    refused_at version commands i command why c.loop-command-test.true c.command-item.is accepted refused
