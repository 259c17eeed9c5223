use Rattle.std.proofs.Common.{◌-◌, [], ◌∷◌, ◌++◌, ◌∙◌, ap, drop, length, refl, sym}
use Rattle.std.proofs.lemmas.Result.{on_ok_weaker}
use Rattle.prt_impact.specs.declared.group.Group.{Group}
use Rattle.prt_impact.proofs.Wholes.{whole_pushed}
use Rattle.prt_impact.proofs.all_interfaces.push_whole.Goals as goal

pub returns : goal.returns
returns c =
    let interfaces = c.args.interfaces.now in
    let one = c.push_group.new.groups.items in
    let short = c.truncate.new.self.items in
    let view = c.deref.result.now in
    on_ok_weaker c.push_group-2.result
    (λ pushed. whole_pushed interfaces c.args.group.now c.args.groups.now.items one short c.push_group-2.new.groups.items c.last_of-last.result.now (c.len-len.result - length interfaces) (length view - length interfaces)
    c.in_ok-push_group.ensures
    (c.last_of-last.ensures.value ∙ ap (drop (length view - length interfaces)) c.deref.ensures.value)
    (ap (λ n. n - length interfaces) (c.len-len.ensures ∙ sym c.deref.ensures.len))
    (c.if-not-are_one.ensures refl)
    c.truncate.ensures.items
    (pushed ∙ ap (λ (g : Group). short ++ g ∷ []) c.with_interfaces.ensures))
    c.push_group-2.ensures
