use Rattle.std.proofs.Common.{refl}
use Rattle.prt_questions.specs.Asking.{named_answer}
use Rattle.prt_questions.proofs.Asked.{of_script, of_server}
use Rattle.prt_questions.specs.Sources.{AreTold, IsFileOf, IsRead, path_of}
use Rattle.prt_questions.proofs.asking.ask_source.Goals as goal

pub returns-in-Database-clause-whole : goal.returns-in-Database-clause-whole
returns-in-Database-clause-whole g c = rw c.in-Database.is c.ask_database.ensures.whole

pub returns-in-Database-clause-at_most : goal.returns-in-Database-clause-at_most
returns-in-Database-clause-at_most g c = rw c.in-Database.is c.ask_database.ensures.at_most

pub returns-in-Script-clause-whole : goal.returns-in-Script-clause-whole
returns-in-Script-clause-whole g c = rw c.in-Script.is (λ done. let answered = c.ask_script.ensures.whole done in (refl, answered.0, answered.1, answered.2, answered.3, answered.4, answered.5, answered.6))

pub returns-in-Script-clause-at_most : goal.returns-in-Script-clause-at_most
returns-in-Script-clause-at_most g c =
    let contents = g.W.Write.contents in
    rw c.in-Script.is (of_script c.args.databases.now.opener (IsRead (IsFileOf g.H.Files.ReadFiles.opens g.H.Files.Opened.Read.remaining c.args.databases.now.files.now) (g.H.Input.Read.remaining c.args.input.now) (path_of c.in-Script.file)) (contents c.args.output.now) (contents c.ask_script.new.output) (named_answer c.args.inquiry.now) c.ask_script.ensures.part)

pub returns-in-Server-clause-whole : goal.returns-in-Server-clause-whole
returns-in-Server-clause-whole g c = rw c.in-Server.is (λ done. let answered = c.ask_by_tables.ensures.whole done in (refl, answered.0, answered.1, (answered.2, answered.3)))

pub returns-in-Server-clause-at_most : goal.returns-in-Server-clause-at_most
returns-in-Server-clause-at_most g c =
    let contents = g.W.Write.contents in
    rw c.in-Server.is (of_server c.args.databases.now.opener (AreTold g.H.Net.LocalNet.reaches g.H.Net.Stream.Read.remaining c.args.databases.now.rt c.in-Server.place) (contents c.args.output.now) (contents c.ask_by_tables.new.output) (named_answer c.args.inquiry.now) c.ask_by_tables.ensures.part)
