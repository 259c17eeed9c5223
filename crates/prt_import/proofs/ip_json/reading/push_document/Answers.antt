use Rattle.std.proofs.lemmas.Result.{on_ok_weaker}
use Rattle.json.specs.declared.token.Token.TheVariants.{BeginArray}
use Rattle.prt_import.proofs.IpJson.Values.{array_document, begun, no_array, no_value, not_begun, plain_document}
use Rattle.prt_import.proofs.ip_json.reading.push_document.Goals as goal

pub returns-in-BeginArray-clause-ok : goal.returns-in-BeginArray-clause-ok
returns-in-BeginArray-clause-ok c =
    on_ok_weaker c.push_lines.result (λ read. begun c.args.first.now BeginArray c.args.reader.now c.push_lines.new.reader _ _ c.in-BeginArray.is (array_document _ _ _ _ read)) c.push_lines.ensures.ok

pub returns-in-BeginArray-clause-no_json : goal.returns-in-BeginArray-clause-no_json
returns-in-BeginArray-clause-no_json c why =
    not_begun c.args.first.now BeginArray c.args.reader.now c.in-BeginArray.is (no_array _ (c.push_lines.ensures.no_json why))

pub returns-in-EndObject-clause-no_json : goal.returns-in-EndObject-clause-no_json
returns-in-EndObject-clause-no_json c why = no_value c.args.first.now c.args.reader.now c.in-EndObject.is

pub returns-in-EndObject-2-clause-no_json : goal.returns-in-EndObject-2-clause-no_json
returns-in-EndObject-2-clause-no_json c why = no_value c.args.first.now c.args.reader.now c.in-EndObject.is

pub returns-in-EndObject-3-clause-no_json : goal.returns-in-EndObject-3-clause-no_json
returns-in-EndObject-3-clause-no_json c why = no_value c.args.first.now c.args.reader.now c.in-EndObject.is

pub returns-in-EndObject-4-clause-no_json : goal.returns-in-EndObject-4-clause-no_json
returns-in-EndObject-4-clause-no_json c why = no_value c.args.first.now c.args.reader.now c.in-EndObject.is

pub returns-in_ok-push_text-in-String-clause-ok : goal.returns-in_ok-push_text-in-String-clause-ok
returns-in_ok-push_text-in-String-clause-ok c = plain_document c.args.first.now c.args.reader.now c.args.out.now.items _ c.in-String.is c.in_ok-push_text-in-String.ensures.ok
