use Rattle.std.proofs.Common.{option_map, sym, ap, ◌∙◌}
use Rattle.std.proofs.lemmas.Result.{on_ok_weaker}
use Rattle.prt_import.specs.IpJson.Listing.{document_lines}
use Rattle.prt_import.specs.IpJson.Steps.{appended}
use Rattle.prt_import.proofs.IpJson.Joining.{part_document, part_no_text}
use Rattle.prt_import.proofs.ip_json.listing.push_part.Goals as goal

pub returns-in-Ok-clause-ok : goal.returns-in-Ok-clause-ok
returns-in-Ok-clause-ok c =
    let found = c.in-Ok.ensures.cases in
    let is = part_document c.args.part.now c.in-Ok.text.now (sym c.is_blank.ensures ∙ c.if-is_blank.false) found.1 found.0 in
    on_ok_weaker c.push_document_lines.result (λ read. ap (appended c.args.out.now.items) is ∙ read) c.push_document_lines.ensures.ok

pub returns-in-Ok-clause-no_json : goal.returns-in-Ok-clause-no_json
returns-in-Ok-clause-no_json c why =
    let found = c.in-Ok.ensures.cases in
    part_document c.args.part.now c.in-Ok.text.now (sym c.is_blank.ensures ∙ c.if-is_blank.false) found.1 found.0 ∙ ap (option_map document_lines) (c.push_document_lines.ensures.no_json why)

pub returns-in-Err-clause-no_json : goal.returns-in-Err-clause-no_json
returns-in-Err-clause-no_json c why = part_no_text c.args.part.now (sym c.is_blank.ensures ∙ c.if-is_blank.false) c.in-Err.ensures.cases.0
