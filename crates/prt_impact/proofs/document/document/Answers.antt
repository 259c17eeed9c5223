use Rattle.std.proofs.Common.{◌++◌, ◌∙◌, ap}
use Rattle.json.specs.Tree.{json_tokens}
use Rattle.prt_impact.specs.GroupsJson.{groups_json}
use Rattle.prt_impact.proofs.GroupsDepth.{reads_back}
use Rattle.prt_impact.proofs.document.document.Goals as goal

pub returns-clause-reads_back : goal.returns-clause-reads_back
returns-clause-reads_back c =
    let groups = c.args.groups.now in
    let written = c.in_ok-push_array.ensures.ok ∙ ap (λ ts. ts ++ json_tokens (groups_json groups)) c.new-writer.ensures.tokens in
    reads_back groups (rw written at c.into_inner-text.ensures.reads_back)
