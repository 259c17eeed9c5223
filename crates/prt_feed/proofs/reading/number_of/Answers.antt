use Rattle.std.proofs.Common.{◌≡◌, false, true, subst}
use Rattle.std.specs.Bool.{IsTrue}
use Rattle.prt_feed.proofs.Taking.{no_number, no_text, not_written}
use Rattle.prt_feed.proofs.reading.number_of.Goals as goal

pub returns-in_default : goal.returns-in_default
returns-in_default c = no_text c.args.digits.now c.in_default.ensures.cases.0

pub returns-in_default-parse : goal.returns-in_default-parse
returns-in_default-parse c = no_number c.args.digits.now c.in-Ok.text.now c.parse.result c.in_default-parse.field-0 c.in-Ok.ensures.cases.0 c.parse.ensures.value.0 c.in_default-parse.is

pub returns : goal.returns
returns c =
    not_written c.args.digits.now c.in-Ok.text.now c.parse.result c.in-Ok-parse.number c.in-Ok.ensures.cases.0 c.parse.ensures.value.0 c.in-Ok-parse.is
    (λ same. let h : false ≡ true = subst IsTrue c.if-is_written.false (c.is_written.ensures.1 same) in absurd cc)
