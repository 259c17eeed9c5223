use Rattle.std.proofs.Common.{[], ◌∷◌, Some, codes}
use Rattle.std.proofs.lemmas.Result.{on_ok_weaker}
use Rattle.prt_json.specs.Fields.{dev_field}
use Rattle.prt_json.proofs.Tokens.{then_fields}
use Rattle.prt_impact.specs.GroupsJson.{shown_from, shown_fwmark, shown_fwmark_not, shown_iif}
use Rattle.prt_impact.specs.Text.{range_text, verdict_text}
use Rattle.prt_impact.proofs.document.push_fields.Goals as goal

pub returns-clause-ok : goal.returns-clause-ok
returns-clause-ok c =
    let group = c.args.group.now in
    let to = dev_field (codes "to") (Some (range_text group.to)) in
    let from = dev_field (codes "from") (shown_from group.from) in
    let iif = dev_field (codes "iif") (shown_iif group.interfaces) in
    let fwmark = dev_field (codes "fwmark") (shown_fwmark group.marks) in
    let fwmark_not = dev_field (codes "fwmark_not") (shown_fwmark_not group.marks) in
    let was = dev_field (codes "was") (Some (verdict_text group.was)) in
    let is = dev_field (codes "is") (Some (verdict_text group.is)) in
    let two = then_fields (to ∷ []) (from ∷ []) _ _ _ c.in_ok-push_range_field.ensures.ok c.in_ok-push_from_field.ensures.ok in
    let three = then_fields (to ∷ from ∷ []) (iif ∷ []) _ _ _ two c.in_ok-push_iif_field.ensures.ok in
    let four = then_fields (to ∷ from ∷ iif ∷ []) (fwmark ∷ []) _ _ _ three c.in_ok-push_fwmark_field.ensures.ok in
    let five = then_fields (to ∷ from ∷ iif ∷ fwmark ∷ []) (fwmark_not ∷ []) _ _ _ four c.in_ok-push_fwmark_not_field.ensures.ok in
    let six = then_fields (to ∷ from ∷ iif ∷ fwmark ∷ fwmark_not ∷ []) (was ∷ []) _ _ _ five c.in_ok-push_verdict_field.ensures.ok in
    on_ok_weaker c.push_verdict_field-2.result (then_fields (to ∷ from ∷ iif ∷ fwmark ∷ fwmark_not ∷ was ∷ []) (is ∷ []) _ _ _ six) c.push_verdict_field-2.ensures.ok
