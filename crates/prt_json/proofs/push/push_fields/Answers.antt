use Rattle.std.proofs.Common.{sym, ◌∙◌}
use Rattle.std.proofs.lemmas.List.{append-nil}
use Rattle.prt_json.specs.Steps.{member_of}
use Rattle.prt_json.proofs.Tokens.{more_fields}
use Rattle.prt_json.proofs.push.push_fields.Goals as goal
use Rattle.prt_json.proofs.push.push_fields.Goals.{in-Some+in_ok-push_field, in_default}

pub loop-field-preserved : goal.loop-field-preserved
loop-field-preserved c =
    let more = more_fields member_of c.args.fields.now c.loop-field.field-index c.field-item.result _ c.loop-field.out.tokens c.match-field.out.tokens c.loop-field-test.true c.field-item.is c.loop-field.invariant.tokens in
    elim c.match-field.branch [
      | in-Some+in_ok-push_field w ↦ record {
        tokens = more (rw (w.out-is, w.in-Some.is) w.in_ok-push_field.ensures.ok);
        before = rw w.out-is (w.in_ok-push_field.ensures.before ∙ c.loop-field.invariant.before);
      }
      | in_default w ↦ record {
        tokens = more (rw (w.out-is, w.in_default.is) (sym (append-nil c.loop-field.out.tokens)));
        before = rw w.out-is c.loop-field.invariant.before;
      }
    ]
