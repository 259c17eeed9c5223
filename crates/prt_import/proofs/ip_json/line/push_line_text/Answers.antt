use Rattle.std.proofs.Common.{◌≡◌, ◌++◌, OnOk, sym, ap, ◌∙◌, subst}
use Rattle.json.specs.Json.{object}
use Rattle.json.specs.Value.{members_view, value_view}
use Rattle.json.proofs.Trees.{view-Object}
use Rattle.prt_import.specs.IpJson.Listing.{line_text}
use Rattle.prt_import.proofs.ip_json.line.push_line_text.Goals as goal

pub returns-in-Object : goal.returns-in-Object
returns-in-Object c =
    let seen : value_view c.args.value.now ≡ object (members_view c.deref.result.now) =
    ap value_view c.in-Object.is ∙ view-Object c.in-Object.members ∙ ap (λ vs. object (members_view vs)) (sym c.deref.ensures.value) in
    let text = ap (λ j. c.args.out.now.items ++ line_text j) (sym seen) in
    subst (λ ts. OnOk c.push_object.result (c.push_object.new.out.items ≡ ts)) text c.push_object.ensures
