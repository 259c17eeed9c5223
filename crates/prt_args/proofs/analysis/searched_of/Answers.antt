use Rattle.std.proofs.Common.{subst}
use Rattle.std.specs.Prelude.{MatchOption}
use Rattle.prt_args.specs.Analysis.{IsNamed, NoneIsNamed}
use Rattle.prt_args.proofs.analysis.searched_of.Goals as goal

pub returns-in-None-default-clause-searched : goal.returns-in-None-default-clause-searched
returns-in-None-default-clause-searched c =
    let none = subst (λ named. MatchOption named (NoneIsNamed c.args.matches.now) (IsNamed c.args.matches.now)) c.in-None-default.is-0 c.in_ok-named_source.ensures.named in
    (none, c.file_in.ensures.value)
