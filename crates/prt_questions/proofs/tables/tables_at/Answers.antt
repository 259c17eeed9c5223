use Rattle.std.proofs.Common.{refl}
use Rattle.prt_questions.specs.Sources.{sources_of}
use Rattle.prt_questions.proofs.ReadTables.{of_script_tables, of_server_tables}
use Rattle.prt_questions.proofs.tables.tables_at.Goals as goal

pub returns-in-Server-clause-read : goal.returns-in-Server-clause-read
returns-in-Server-clause-read g c =
    let from = sources_of g.H.Files.ReadFiles.opens g.H.Files.Opened.Read.remaining c.args.databases.now.files.now g.H.Net.LocalNet.reaches g.H.Net.Stream.Read.remaining c.args.databases.now.rt (g.H.Input.Read.remaining c.args.input.now) in
    let machine = c.args.databases.now.opener in
    rw c.in-Server.is (of_server_tables g.H.Store.Store g.H-Opener-DatabaseOpener from machine machine c.in-Server.place c.server_tables.result refl c.server_tables.ensures.told)

pub returns-in-Script-clause-read : goal.returns-in-Script-clause-read
returns-in-Script-clause-read g c =
    let from = sources_of g.H.Files.ReadFiles.opens g.H.Files.Opened.Read.remaining c.args.databases.now.files.now g.H.Net.LocalNet.reaches g.H.Net.Stream.Read.remaining c.args.databases.now.rt (g.H.Input.Read.remaining c.args.input.now) in
    let machine = c.args.databases.now.opener in
    rw c.in-Script.is (of_script_tables g.H.Store.Store g.H-Opener-DatabaseOpener from machine machine c.in-Script.file c.script_tables.result refl c.script_tables.ensures.read)
