use Rattle.std.proofs.Common.{inr, subst}
use Rattle.prt_analyses.specs.Claims.Checking.{IsChecked}
use Rattle.prt_questions.specs.Analyses.{IsAsserted, IsAssertedAtMost}
use Rattle.prt_questions.specs.Sources.{IsFileOf, IsRead, path_of}
use Rattle.prt_questions.proofs.asserting.assert_over.Goals as goal

pub returns-clause-found : goal.returns-clause-found
returns-clause-found g c = λ status.
    let writer = g.H.Output.Write.contents c.write_breaches.new.output in
    let version = c.args.tables.now.version in
    let checked = c.in-Ok-check_claims.checked in
    subst (λ writer0. IsAsserted (IsRead (IsFileOf g.H.Files.ReadFiles.opens g.H.Files.Opened.Read.remaining c.args.files.now) (g.H.Input.Read.remaining c.args.input.now) (path_of c.args.asserting.now.file)) writer0 writer c.args.asserting.now c.write_breaches.result version) c.in-Ok.ensures.unwritten
    (c.in-Ok.text.items, c.in-Ok.ensures.read, checked, subst (λ text. IsChecked version text checked) c.deref.ensures.value c.in-Ok-check_claims.ensures.value, c.is_readable.ensures.readable c.if-not-is_readable.false, c.write_breaches.ensures.whole status, c.write_breaches.ensures.hold)

pub returns-clause-at_most : goal.returns-clause-at_most
returns-clause-at_most g c =
    let writer = g.H.Output.Write.contents c.write_breaches.new.output in
    let version = c.args.tables.now.version in
    let checked = c.in-Ok-check_claims.checked in
    subst (λ writer0. IsAssertedAtMost (IsRead (IsFileOf g.H.Files.ReadFiles.opens g.H.Files.Opened.Read.remaining c.args.files.now) (g.H.Input.Read.remaining c.args.input.now) (path_of c.args.asserting.now.file)) writer0 writer c.args.asserting.now version) c.in-Ok.ensures.unwritten
    (inr (c.in-Ok.text.items, c.in-Ok.ensures.read, checked, subst (λ text. IsChecked version text checked) c.deref.ensures.value c.in-Ok-check_claims.ensures.value, c.write_breaches.ensures.part))

pub returns-then-not-is_readable-clause-unreadable : goal.returns-then-not-is_readable-clause-unreadable
returns-then-not-is_readable-clause-unreadable g c = λ _.
    let checked = c.in-Ok-check_claims.checked in
    (c.in-Ok.text.items, c.in-Ok.ensures.read, checked, subst (λ text. IsChecked c.args.tables.now.version text checked) c.deref.ensures.value c.in-Ok-check_claims.ensures.value, c.is_readable.ensures.unreadable c.if-not-is_readable.true, c.in-Ok.ensures.unwritten)
