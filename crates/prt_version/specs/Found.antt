-- The verdict in what a lookup finds.
use Rattle.prt_version.specs.declared.answer.Found.{Found}
use Rattle.prt_version.specs.declared.answer.Found.TheVariants as found
use Rattle.prt_version.specs.declared.answer.Verdict.{Verdict}
use Rattle.prt_version.specs.declared.answer.Verdict.TheVariants as verdict

abbrev pub verdict_in : Found → Verdict
verdict_in (found.Route priority route) = verdict.Route priority route.now
verdict_in (found.RuleSays priority action) = verdict.RuleSays priority action
verdict_in found.NoRoute = verdict.NoRoute
