use Rattle.std.proofs.Common.{◌∙◌, ap, rules, sym}
use Rattle.prt_import.specs.TableNames.{known_names}
use Rattle.prt_questions.specs.Fencing.{unread_key}
use Rattle.prt_questions.proofs.Picked.{picks_none, picks_some}
use Rattle.prt_questions.proofs.fencing.unread_keys.Goals as goal
use Rattle.prt_questions.proofs.fencing.unread_keys.Goals.{in-Some+in_ok-push, in_default}

pub loop-line-preserved : goal.loop-line-preserved
loop-line-preserved c =
    let key_of = unread_key (known_names c.args.names.now) in
    let this = ap key_of (sym c.line-item.is) ∙ sym c.unread_key.ensures in
    elim c.match-unread_key.branch [
      | in-Some+in_ok-push w ↦
          let more = picks_some key_of c.args.unread.now c.loop-line.line-index c.line-item.result c.loop-line-test.true w.in-Some.key (this ∙ w.in-Some.is) in
          rw more (search (rules, w.in_ok-push.ensures, w.keys-is, c.loop-line.invariant))
      | in_default w ↦
          let none = picks_none key_of c.args.unread.now c.loop-line.line-index c.line-item.result c.loop-line-test.true (this ∙ w.in_default.is) in
          rw none (ap (λ keys. keys.items) w.keys-is ∙ c.loop-line.invariant)
    ]
