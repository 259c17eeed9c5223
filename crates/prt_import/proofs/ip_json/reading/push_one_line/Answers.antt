use Rattle.std.proofs.Common.{◌++◌, ◌∙◌, ap}
use Rattle.json.specs.Value.{members_view}
use Rattle.json.proofs.Trees.{view-Object}
use Rattle.prt_import.specs.IpJson.Listing.{line}
use Rattle.prt_import.proofs.IpJson.Values.{no_object, object_document, same_reason}
use Rattle.prt_import.proofs.ip_json.reading.push_one_line.Goals as goal

pub returns-in-Err-clause-no_json : goal.returns-in-Err-clause-no_json
returns-in-Err-clause-no_json c why = no_object c.args.reader.now (c.in-Err.ensures.no_json (same_reason _ why))

pub returns-clause-ok : goal.returns-clause-ok
returns-clause-ok c =
    object_document c.args.reader.now c.read_members.new.reader _ _ (members_view c.in-Ok.members.items) c.in-Ok.ensures.ok
    (c.in_ok-push_line.ensures ∙ ap (λ j. c.args.out.now.items ++ line j) (view-Object c.in-Ok.members))
