use Rattle.std.proofs.Common.{◌≡◌, Some, ap, refl, subst, ◌∙◌}
use Rattle.prt_published.specs.Line.{Begins, Line}
use Rattle.prt_serve.specs.Requests.{taken, refused, seen, unanswered, unseen}
use Rattle.prt_replies.specs.declared.reply.Reply.TheVariants.{Accepted, Answered, Refused}
use Rattle.prt_serve.proofs.session.VisitExecutor.execute.Goals as goal

pub returns-in-Ok-clause-turn : goal.returns-in-Ok-clause-turn
returns-in-Ok-clause-turn g c = λ after is.
    let known = c.args.self.now.looker.now.known in
    let begins : Begins known after = subst (λ (l : Line). Begins l after) c.go_offline.ensures.known (rw is c.learn.ensures.mine) in
    (known, refl, (Some (taken c.in-Ok.receipt after), rw c.in-Command.is (c.in-Ok.ensures.last, rw is c.learn.ensures.told, begins), rw c.in-Command.is (ap Accepted c.number-number.ensures.value), refl))

pub returns-in-Err-clause-turn : goal.returns-in-Err-clause-turn
returns-in-Err-clause-turn g c = λ after is.
    (c.args.self.now.looker.now.known, refl, (Some (refused c.in-Err.reason), rw c.in-Command.is c.in-Err.ensures.reason, rw c.in-Command.is refl, is ∙ c.go_offline.ensures.known))

pub returns-in-Err-go_online-clause-turn : goal.returns-in-Err-go_online-clause-turn
returns-in-Err-go_online-clause-turn g c = λ after is.
    (c.args.self.now.looker.now.known, refl, (Some (unseen c.go_online.new.looker.known), rw c.in-Query.is c.go_online.ensures.known, rw c.in-Query.is (ap Refused c.in-Err-go_online.ensures.reason), is))

pub returns-in-Ok-answer-clause-turn : goal.returns-in-Ok-answer-clause-turn
returns-in-Ok-answer-clause-turn g c = λ after is.
    let known = c.go_online.new.looker.known in
    (c.args.self.now.looker.now.known, refl, (Some (seen known), rw c.in-Query.is c.go_online.ensures.known, rw c.in-Query.is (ap Answered c.in-Ok-answer.ensures.text), is ∙ c.answer.ensures.known))

pub returns-in-Err-answer-clause-turn : goal.returns-in-Err-answer-clause-turn
returns-in-Err-answer-clause-turn g c = λ after is.
    let known = c.go_online.new.looker.known in
    (c.args.self.now.looker.now.known, refl, (Some (unanswered known), rw c.in-Query.is c.go_online.ensures.known, rw c.in-Query.is (ap Refused c.in-Err-answer.ensures.reason), is ∙ c.answer.ensures.known))
