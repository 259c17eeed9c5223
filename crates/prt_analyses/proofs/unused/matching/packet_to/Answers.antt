use Rattle.std.proofs.Common.{ap, ◌∙◌, find}
use Rattle.prt_analyses.specs.Unused.Steps.{is_hit}
use Rattle.prt_analyses.proofs.Candidates.{hit_or_none}
use Rattle.prt_analyses.proofs.unused.matching.packet_to.Goals as goal

pub returns : goal.returns
returns c =
    let rule = c.args.rule.now in
    let prefix = c.args.prefix.now in
    hit_or_none rule prefix c.first_hit.result c.candidates.ensures.prefix (c.first_hit.ensures ∙ ap (find (is_hit rule prefix)) c.candidates.ensures.value)
