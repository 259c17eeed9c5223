use Rattle.std.proofs.Common.{inr, subst}
use Rattle.prt_questions.specs.Analyses.{IsAsserted, IsAssertedAtMost, IsUnreadable}
use Rattle.prt_questions.specs.declared.asserting.TheConstants.{UNREADABLE}
use Rattle.prt_questions.specs.Sources.{Gives, IsFileOf, IsRead, after, path_of, rest_by, sources_of}
use Rattle.prt_questions.proofs.Later.{later, asserted_at_most_by, asserted_by, unreadable_by}
use Rattle.prt_questions.proofs.ReadTables.{found_of, of_tables}
use Rattle.prt_questions.proofs.asserting.assert_claims.Goals as goal

pub returns-clause-found : goal.returns-clause-found
returns-clause-found g c = λ status.
    let from = sources_of g.H.Files.ReadFiles.opens g.H.Files.Opened.Read.remaining c.args.databases.now.files.now g.H.Net.LocalNet.reaches g.H.Net.Stream.Read.remaining c.args.databases.now.rt (g.H.Input.Read.remaining c.args.input.now) in
    let source = c.args.asserting.now.source in
    let file = path_of c.args.asserting.now.file in
    let writer = g.H.Output.Write.contents c.assert_over.new.output in
    let state = c.in-Ok.tables.version in
    found_of g.H.Store.Store g.H-Opener-DatabaseOpener from c.args.databases.now.opener c.tables_at.new.databases.opener source c.in-Ok.tables.left state c.assert_over.result
    (IsAsserted (Gives (after (rest_by source) from) file) (g.H.Output.Write.contents c.args.output.now) writer c.args.asserting.now c.assert_over.result) c.in-Ok.ensures.read c.assert_over.ensures.left
    (asserted_by _ _ (later from.files (rest_by source) from.input (g.H.Input.Read.remaining c.tables_at.new.input) c.in-Ok.ensures.rest file) _ writer c.args.asserting.now _ state
    (subst (λ first. IsAsserted (IsRead (IsFileOf g.H.Files.ReadFiles.opens g.H.Files.Opened.Read.remaining c.args.databases.now.files.now) (g.H.Input.Read.remaining c.tables_at.new.input) (path_of c.args.asserting.now.file)) first writer c.args.asserting.now c.assert_over.result state) c.in-Ok.ensures.unwritten (c.assert_over.ensures.found status)))

pub returns-clause-at_most : goal.returns-clause-at_most
returns-clause-at_most g c =
    let from = sources_of g.H.Files.ReadFiles.opens g.H.Files.Opened.Read.remaining c.args.databases.now.files.now g.H.Net.LocalNet.reaches g.H.Net.Stream.Read.remaining c.args.databases.now.rt (g.H.Input.Read.remaining c.args.input.now) in
    let source = c.args.asserting.now.source in
    let file = path_of c.args.asserting.now.file in
    let writer = g.H.Output.Write.contents c.assert_over.new.output in
    let state = c.in-Ok.tables.version in
    inr (of_tables g.H.Store.Store g.H-Opener-DatabaseOpener from c.args.databases.now.opener c.tables_at.new.databases.opener source c.in-Ok.tables.left state
    (IsAssertedAtMost (Gives (after (rest_by source) from) file) (g.H.Output.Write.contents c.args.output.now) writer c.args.asserting.now) c.in-Ok.ensures.read
    (asserted_at_most_by _ _ (later from.files (rest_by source) from.input (g.H.Input.Read.remaining c.tables_at.new.input) c.in-Ok.ensures.rest file) _ writer c.args.asserting.now state
    (subst (λ first. IsAssertedAtMost (IsRead (IsFileOf g.H.Files.ReadFiles.opens g.H.Files.Opened.Read.remaining c.args.databases.now.files.now) (g.H.Input.Read.remaining c.tables_at.new.input) (path_of c.args.asserting.now.file)) first writer c.args.asserting.now state) c.in-Ok.ensures.unwritten c.assert_over.ensures.at_most)))

pub returns-clause-unreadable : goal.returns-clause-unreadable
returns-clause-unreadable g c = λ status.
    let from = sources_of g.H.Files.ReadFiles.opens g.H.Files.Opened.Read.remaining c.args.databases.now.files.now g.H.Net.LocalNet.reaches g.H.Net.Stream.Read.remaining c.args.databases.now.rt (g.H.Input.Read.remaining c.args.input.now) in
    let source = c.args.asserting.now.source in
    let file = path_of c.args.asserting.now.file in
    let writer = g.H.Output.Write.contents c.assert_over.new.output in
    let state = c.in-Ok.tables.version in
    found_of g.H.Store.Store g.H-Opener-DatabaseOpener from c.args.databases.now.opener c.tables_at.new.databases.opener source c.in-Ok.tables.left state UNREADABLE
    (IsUnreadable (Gives (after (rest_by source) from) file) (g.H.Output.Write.contents c.args.output.now) writer) c.in-Ok.ensures.read (λ is. absurd (cc is))
    (unreadable_by _ _ (later from.files (rest_by source) from.input (g.H.Input.Read.remaining c.tables_at.new.input) c.in-Ok.ensures.rest file) _ writer state
    (subst (λ first. IsUnreadable (IsRead (IsFileOf g.H.Files.ReadFiles.opens g.H.Files.Opened.Read.remaining c.args.databases.now.files.now) (g.H.Input.Read.remaining c.tables_at.new.input) (path_of c.args.asserting.now.file)) first writer state) c.in-Ok.ensures.unwritten (c.assert_over.ensures.unreadable status)))
