use Rattle.std.proofs.Common.{◌≡◌, sym, ◌∙◌, subst}
use Rattle.std.specs.Prelude.{OnOk}
use Rattle.std.proofs.lemmas.Bool.{eqb-true}
use Rattle.prt_partition.proofs.Joined.{appends_none, appends_one}
use Rattle.prt_partition.proofs.joining.+push_joined.Goals as goal

pub returns-in_default : goal.returns-in_default
returns-in_default t c = appends_none c.args.classes.now.items c.args.rules.now c.args.packets.now c.in_default.ensures.cases

pub returns-then-is_empty : goal.returns-then-is_empty
returns-then-is_empty t c =
    let none = eqb-true _ _ (sym c.is_empty.ensures ∙ c.if-is_empty.true) in
    subst (λ items. OnOk c.keep-then-is_empty.result (c.keep-then-is_empty.new.classes.items ≡ items))
    (sym (appends_one c.args.classes.now.items c.args.rules.now c.args.packets.now c.in-Some.others.now c.in-Some.first.now c.in-Some.ensures.cases.0 none))
    c.keep-then-is_empty.ensures
