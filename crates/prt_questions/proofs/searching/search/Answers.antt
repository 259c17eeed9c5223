use Rattle.std.proofs.Common.{inr, subst}
use Rattle.prt_questions.specs.Analyses.{IsSearched, IsSearchedAtMost}
use Rattle.prt_questions.specs.Sources.{sources_of}
use Rattle.prt_questions.proofs.ReadTables.{found_of, of_tables}
use Rattle.prt_questions.proofs.searching.search.Goals as goal

pub returns-clause-found : goal.returns-clause-found
returns-clause-found g c = λ status.
    let from = sources_of g.H.Files.ReadFiles.opens g.H.Files.Opened.Read.remaining c.args.databases.now.files.now g.H.Net.LocalNet.reaches g.H.Net.Stream.Read.remaining c.args.databases.now.rt (g.H.Input.Read.remaining c.args.input.now) in
    let writer = g.H.Output.Write.contents c.search_over.new.output in
    let writer0 = g.H.Output.Write.contents c.args.output.now in
    found_of g.H.Store.Store g.H-Opener-DatabaseOpener from c.args.databases.now.opener c.tables_at.new.databases.opener c.args.source.now c.in-Ok.tables.left c.in-Ok.tables.version c.search_over.result (IsSearched writer0 writer c.search_over.result) c.in-Ok.ensures.read c.search_over.ensures.left
    (subst (λ first. IsSearched first writer c.search_over.result c.in-Ok.tables.version) c.in-Ok.ensures.unwritten (c.search_over.ensures.found status))

pub returns-clause-at_most : goal.returns-clause-at_most
returns-clause-at_most g c =
    let from = sources_of g.H.Files.ReadFiles.opens g.H.Files.Opened.Read.remaining c.args.databases.now.files.now g.H.Net.LocalNet.reaches g.H.Net.Stream.Read.remaining c.args.databases.now.rt (g.H.Input.Read.remaining c.args.input.now) in
    let writer = g.H.Output.Write.contents c.search_over.new.output in
    let writer0 = g.H.Output.Write.contents c.args.output.now in
    inr (of_tables g.H.Store.Store g.H-Opener-DatabaseOpener from c.args.databases.now.opener c.tables_at.new.databases.opener c.args.source.now c.in-Ok.tables.left c.in-Ok.tables.version (IsSearchedAtMost writer0 writer) c.in-Ok.ensures.read
    (subst (λ first. IsSearchedAtMost first writer c.in-Ok.tables.version) c.in-Ok.ensures.unwritten c.search_over.ensures.at_most))
