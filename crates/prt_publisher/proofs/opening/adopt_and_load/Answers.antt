use Rattle.std.proofs.Common.{◌≡◌, inl, inr, subst, sym, ◌∙◌}
use Rattle.prt_refusals.specs.declared.refusal.Refusal.TheVariants.{Damaged, OpenFailed}
use Rattle.prt_rows.specs.Format.{BeginsFormat2}
use Rattle.prt_publisher.proofs.Openings.{has_opened, load_refused}
use Rattle.prt_publisher.proofs.opening.adopt_and_load.Goals as goal

-- a store that can't be adopted is not called damaged
pub returns-in-Err-clause-refused : goal.returns-in-Err-clause-refused
returns-in-Err-clause-refused g c =
    let says = c.in-Err.ensures in
    record {
      why = inr (inl says.reason);
      damaged = λ damaged. absurd (let both : OpenFailed ≡ Damaged = sym says.reason ∙ damaged in cc);
      other_columns = says.other_columns;
      part = says.err;
      lasts = says.crash_err;
    }

pub returns-in-Ok-load-clause-format : goal.returns-in-Ok-load-clause-format
returns-in-Ok-load-clause-format g c = (
  λ is. subst BeginsFormat2 c.schema.ensures.value (c.begins_format_2-ours_first.ensures.0 is),
  λ begins. c.begins_format_2-ours_first.ensures.1 (subst BeginsFormat2 (sym c.schema.ensures.value) begins),
)

pub returns-in-Ok-load-clause-opened : goal.returns-in-Ok-load-clause-opened
returns-in-Ok-load-clause-opened g c =
    has_opened g.S.Store c.args.conn c.in-Ok.store.conn c.load.new.self.conn (λ is_open. (c.schema.ensures.live is_open).0) c.in-Ok.ensures.ok c.in-Ok.ensures.survives_ok c.in-Ok.ensures.other_columns c.in-Ok-load.ensures.quiet
    c.in-Ok-load.version c.number-number.ensures.sound c.in-Ok.ensures.does c.in-Ok-load.ensures.shown c.in-Ok-load.ensures.ok c.in-Ok-load.ensures.same c.in-Ok.ensures.crash_ok c.in-Ok-load.ensures.sound

pub returns-in-Err-load-clause-refused : goal.returns-in-Err-load-clause-refused
returns-in-Err-load-clause-refused g c =
    load_refused g.S.Store c.args.conn c.in-Ok.store.conn c.load.new.self.conn (λ is_open. (c.schema.ensures.live is_open).0) c.in-Ok.ensures.ok c.in-Ok.ensures.survives_ok c.in-Ok.ensures.other_columns c.in-Err-load.ensures.quiet
    c.in-Err-load.reason c.release.result c.release.ensures c.in-Err-load.ensures.reason c.in-Ok.ensures.stored c.in-Ok.ensures.format_1 c.in-Ok.ensures.opening c.in-Ok.ensures.settled c.in-Err-load.ensures.damaged c.in-Err-load.ensures.err
