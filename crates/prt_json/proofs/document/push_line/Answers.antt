use Rattle.std.proofs.Common.{◌++◌, ap, ◌∙◌}
use Rattle.json.specs.Tree.{json_tokens}
use Rattle.prt_json.specs.Steps.{document_json}
use Rattle.prt_json.proofs.Depth.{anyhow, reads_back}
use Rattle.prt_json.proofs.document.push_line.Goals as goal

pub returns-clause-reads_back : goal.returns-clause-reads_back
returns-clause-reads_back c =
    let written = c.in_ok-pushed.ensures.ok ∙ ap (λ ts. ts ++ json_tokens (document_json c.args.version.now c.args.document.now)) c.new-writer.ensures.tokens in
    anyhow c.push_text.result _ (reads_back c.args.version.now c.args.document.now (rw written at c.into_inner.ensures.reads_back))
