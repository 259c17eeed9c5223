use Rattle.std.proofs.lemmas.List.{get_or-replicate}
use Rattle.prt_version.proofs.rule_index.all_at.Goals as goal

pub returns-clause-each : goal.returns-clause-each
returns-clause-each c list d lt = get_or-replicate 513 list c.args.place d lt
