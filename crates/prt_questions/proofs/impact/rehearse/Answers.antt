use Rattle.std.proofs.Common.{inr, subst}
use Rattle.prt_questions.specs.Analyses.{IsRehearsed, IsRehearsedAtMost}
use Rattle.prt_questions.specs.Sources.{Gives, IsFileOf, IsRead, after, path_of, rest_by, sources_of}
use Rattle.prt_questions.proofs.Later.{later, rehearsed_at_most_by, rehearsed_by}
use Rattle.prt_questions.proofs.ReadTables.{found_of, of_tables}
use Rattle.prt_questions.proofs.impact.rehearse.Goals as goal

pub returns-clause-found : goal.returns-clause-found
returns-clause-found g c = λ status.
    let from = sources_of g.H.Files.ReadFiles.opens g.H.Files.Opened.Read.remaining c.args.databases.now.files.now g.H.Net.LocalNet.reaches g.H.Net.Stream.Read.remaining c.args.databases.now.rt (g.H.Input.Read.remaining c.args.input.now) in
    let source = c.args.rehearsing.now.source in
    let file = path_of c.args.rehearsing.now.file in
    let writer = g.H.Output.Write.contents c.rehearse_over.new.output in
    let state = c.in-Ok.tables.version in
    found_of g.H.Store.Store g.H-Opener-DatabaseOpener from c.args.databases.now.opener c.tables_at.new.databases.opener source c.in-Ok.tables.left state c.rehearse_over.result
    (IsRehearsed (Gives (after (rest_by source) from) file) (g.H.Output.Write.contents c.args.output.now) writer c.args.rehearsing.now c.rehearse_over.result) c.in-Ok.ensures.read c.rehearse_over.ensures.left
    (rehearsed_by _ _ (later from.files (rest_by source) from.input (g.H.Input.Read.remaining c.tables_at.new.input) c.in-Ok.ensures.rest file) _ writer c.args.rehearsing.now _ state
    (subst (λ first. IsRehearsed (IsRead (IsFileOf g.H.Files.ReadFiles.opens g.H.Files.Opened.Read.remaining c.args.databases.now.files.now) (g.H.Input.Read.remaining c.tables_at.new.input) (path_of c.args.rehearsing.now.file)) first writer c.args.rehearsing.now c.rehearse_over.result state) c.in-Ok.ensures.unwritten (c.rehearse_over.ensures.found status)))

pub returns-clause-at_most : goal.returns-clause-at_most
returns-clause-at_most g c =
    let from = sources_of g.H.Files.ReadFiles.opens g.H.Files.Opened.Read.remaining c.args.databases.now.files.now g.H.Net.LocalNet.reaches g.H.Net.Stream.Read.remaining c.args.databases.now.rt (g.H.Input.Read.remaining c.args.input.now) in
    let source = c.args.rehearsing.now.source in
    let file = path_of c.args.rehearsing.now.file in
    let writer = g.H.Output.Write.contents c.rehearse_over.new.output in
    let state = c.in-Ok.tables.version in
    inr (of_tables g.H.Store.Store g.H-Opener-DatabaseOpener from c.args.databases.now.opener c.tables_at.new.databases.opener source c.in-Ok.tables.left state
    (IsRehearsedAtMost (Gives (after (rest_by source) from) file) (g.H.Output.Write.contents c.args.output.now) writer c.args.rehearsing.now) c.in-Ok.ensures.read
    (rehearsed_at_most_by _ _ (later from.files (rest_by source) from.input (g.H.Input.Read.remaining c.tables_at.new.input) c.in-Ok.ensures.rest file) _ writer c.args.rehearsing.now state
    (subst (λ first. IsRehearsedAtMost (IsRead (IsFileOf g.H.Files.ReadFiles.opens g.H.Files.Opened.Read.remaining c.args.databases.now.files.now) (g.H.Input.Read.remaining c.tables_at.new.input) (path_of c.args.rehearsing.now.file)) first writer c.args.rehearsing.now state) c.in-Ok.ensures.unwritten c.rehearse_over.ensures.at_most)))
