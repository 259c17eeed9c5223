use Rattle.std.proofs.Common.{subst}
use Rattle.prt_published.specs.Line.{Begins, Line}
use Rattle.prt_published.proofs.Prefixes.{begins_trans}
use Rattle.prt_published.proofs.reader.FrontReader.learn.Goals as goal

pub returns-else-is_before-clause-told : goal.returns-else-is_before-clause-told
returns-else-is_before-clause-told c =
    let known : Begins c.args.told.now c.self.inside.known = begins_trans c.args.told.now c.known-whole.result.now c.self.inside.known c.known-whole.ensures (rw c.if-is_before.false at (c.is_before.ensures)) in
    subst (λ (line : Line). Begins c.args.told.now line) c.self.view_is known
