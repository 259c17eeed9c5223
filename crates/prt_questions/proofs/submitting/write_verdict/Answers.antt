use Rattle.std.proofs.Common.{◌∙◌, true, false, subst}
use Rattle.prt_replies.specs.Written.{Written}
use Rattle.prt_questions.proofs.Submitted.{verdict_ends}
use Rattle.prt_questions.proofs.submitting.write_verdict.Goals as goal

pub returns-then-write_bytes : goal.returns-then-write_bytes
returns-then-write_bytes g c told count some is verdict =
    let writer0 = g.W.Write.contents c.args.output.now in
    let writer = g.W.Write.contents c.write_bytes.new.writer in
    verdict_ends count c.args.refusal told some verdict true writer0 writer c.end_of-end.result (subst (Written true writer0 writer) is c.if-write_bytes.ensures) c.end_of-end.ensures.refused c.end_of-end.ensures.fault

pub returns : goal.returns
returns g c told count some is verdict =
    let writer0 = g.W.Write.contents c.args.output.now in
    let writer = g.W.Write.contents c.write_bytes.new.writer in
    verdict_ends count c.args.refusal told some verdict false writer0 writer c.with_write_fault.result (subst (Written false writer0 writer) is c.if-write_bytes.ensures) (c.with_write_fault.ensures.refused ∙ c.end_of-end.ensures.refused) c.with_write_fault.ensures.fault
