use Rattle.std.proofs.Common.{◌≡◌, ◌∙◌, ap, refl, Bool, true, false, ℕ, List, Some, None}
use Rattle.std.specs.Prelude.{if◌then◌else◌}
use Rattle.std.specs.Option.{ok_or}
use Rattle.std.specs.Result.{is_ok}
use Rattle.prt_refusals.specs.declared.refusal.Refusal.TheVariants.{BadName}
use Rattle.prt_route.specs.Name.{is_name}
use Rattle.prt_spelling.proofs.spelled.is_name.Goals as goal

named : (w : List ℕ) (b : Bool) → is_ok (ok_or (if b then Some w else None) BadName) ≡ b
named w true = refl
named w false = refl

pub returns : goal.returns
returns c = c.is_ok.ensures.value ∙ ap is_ok c.read_dev.ensures ∙ named c.args.word.now (is_name c.args.word.now)
