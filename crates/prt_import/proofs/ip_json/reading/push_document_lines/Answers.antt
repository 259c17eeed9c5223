use Rattle.std.proofs.Common.{◌≡◌, [], arith}
use Rattle.json.specs.Lex.{tokens}
use Rattle.prt_import.proofs.IpJson.Values.{no_tokens}
use Rattle.prt_import.proofs.ip_json.reading.push_document_lines.Goals as goal

pub returns-in_default-clause-no_json : goal.returns-in_default-clause-no_json
returns-in_default-clause-no_json c why =
    let empty : tokens c.args.text.now ≡ [] = grind arith in
    no_tokens c.args.text.now empty
