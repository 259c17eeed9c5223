use Rattle.std.proofs.Common.{subst, ◌∙◌}
use Rattle.std.specs.Prelude.{All, IfOk}
use Rattle.prt_spelling.specs.declared.form.NameForm.TheVariants.{ByNumber}
use Rattle.prt_diff.specs.Text.{IsAskedFor}
use Rattle.prt_diff.proofs.replacing.replacing_text.Goals as goal

pub returns-clause-read : goal.returns-clause-read
returns-clause-read c = subst (λ commands. IfOk c.batch_text.result (λ text. All (IsAskedFor ByNumber) commands)) (c.deref.ensures.value ∙ c.in-Ok.ensures) c.batch_text.ensures.read
