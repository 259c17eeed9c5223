use Rattle.std.proofs.Common.{subst}
use Rattle.prt_refusals.specs.declared.refusal.Refusal.TheVariants.{OpenFailed}
use Rattle.prt_rows.specs.Format.{SuitsFormat2}
use Rattle.prt_store.proofs.Openings.{opened_in_part, opens_nothing}
use Rattle.prt_store.proofs.opening.open_tables.Goals as goal

pub returns-then-not-suits_format_2-clause-opens : goal.returns-then-not-suits_format_2-clause-opens
returns-then-not-suits_format_2-clause-opens g c = opens_nothing g.S.Store c.args.conn.now OpenFailed

pub returns-else-is_ready-clause-opens : goal.returns-else-is_ready-clause-opens
returns-else-is_ready-clause-opens g c = opened_in_part g.S.Store c.args.conn.now c.make_and_fill.new.conn OpenFailed c.in_ok-make_and_fill.ensures.opens

pub returns-in_err-make_and_fill-clause-other_columns : goal.returns-in_err-make_and_fill-clause-other_columns
returns-in_err-make_and_fill-clause-other_columns g c others = absurd (others (subst SuitsFormat2 c.schema.ensures.value (c.suits_format_2.ensures.0 c.if-not-suits_format_2.false)))

pub returns-then-is_ready-clause-other_columns : goal.returns-then-is_ready-clause-other_columns
returns-then-is_ready-clause-other_columns g c others = absurd (others (subst SuitsFormat2 c.schema.ensures.value (c.suits_format_2.ensures.0 c.if-not-suits_format_2.false)))

pub returns-else-is_ready-clause-other_columns : goal.returns-else-is_ready-clause-other_columns
returns-else-is_ready-clause-other_columns g c others = absurd (others (subst SuitsFormat2 c.schema.ensures.value (c.suits_format_2.ensures.0 c.if-not-suits_format_2.false)))
