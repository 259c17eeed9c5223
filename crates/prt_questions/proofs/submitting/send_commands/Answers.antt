use Rattle.std.proofs.Common.{◌≡◌, ◌≤◌, ◌∙◌, ap, length, subst, sym}
use Rattle.prt_replies.specs.Reply.{replies_text}
use Rattle.prt_questions.proofs.Submitted.{many_of, some_told}
use Rattle.prt_questions.specs.Sources.{IsAtomicReply}
use Rattle.prt_questions.specs.Submitting.{IsVerdictOf, submission_text}
use Rattle.prt_questions.proofs.submitting.send_commands.Goals as goal

pub returns-clause-sent : goal.returns-clause-sent
returns-clause-sent g c =
    let commands = c.args.read.now.commands.items in
    let many : 1 ≤ length commands = many_of commands c.requires.some in
    let count : c.len.result ≡ length commands = cc in
    let said = c.in_ok-refusal.ensures in
    let told = said.0 in
    let verdict = subst (λ n. IsVerdictOf n c.in_ok-refusal.refusal told) count said.2 in
    let is = sym c.deref-3.ensures.value ∙ said.1 in
    let sent = c.deref-2.ensures.value ∙ c.in_ok-sent.ensures ∙ ap submission_text c.deref.ensures.value in
    let Answers = IsAtomicReply g.N.LocalNet.reaches g.N.Stream.Read.remaining c.args.rt.now c.args.place.now in
    let answers = subst (λ s. Answers s (replies_text told)) sent (subst (Answers c.deref-2.result.now) is c.in_ok-reply.ensures) in
    let ends = c.write_verdict.ensures told (length commands) (some_told (length commands) c.in_ok-refusal.refusal told many verdict) (c.deref-4.ensures.value ∙ is) verdict in
    (told, answers, (c.in_ok-refusal.refusal, verdict), ends)
