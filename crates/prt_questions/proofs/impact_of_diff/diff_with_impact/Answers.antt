use Rattle.std.proofs.Common.{◌≡◌, ◌⊎◌, ℕ, List, subst}
use Rattle.std.specs.Io.KnownBytes.{Appends}
use Rattle.prt_questions.specs.Asking.{IsCutOff, IsWholeChange, IsWithImpact}
use Rattle.prt_questions.specs.Sources.{sources_of}
use Rattle.prt_questions.proofs.ReadTables.{of_tables, of_tables_at_most}
use Rattle.prt_questions.proofs.impact_of_diff.diff_with_impact.Goals as goal

pub returns-clause-whole : goal.returns-clause-whole
returns-clause-whole g c = λ done.
    let from = sources_of g.H.Files.ReadFiles.opens g.H.Files.Opened.Read.remaining c.args.databases.now.files.now g.H.Net.LocalNet.reaches g.H.Net.Stream.Read.remaining c.args.databases.now.rt (g.H.Input.Read.remaining c.args.input.now) in
    let writer = g.H.Output.Write.contents c.write_difference.new.output in
    let writer0 = g.H.Output.Write.contents c.args.output.now in
    let fence = c.args.comparison.now.fence.now in
    let found = c.args.comparison.now.found.now in
    of_tables g.H.Store.Store g.H-Opener-DatabaseOpener from c.args.databases.now.opener c.tables_at.new.databases.opener c.args.source.now c.in-Ok.tables.left c.in-Ok.tables.version
    (λ state. (text : List ℕ) × IsWithImpact fence found state text × Appends writer0 writer text × IsWholeChange fence found state) c.in-Ok.ensures.read
    (subst (λ first. (text : List ℕ) × IsWithImpact fence found c.in-Ok.tables.version text × Appends first writer text × IsWholeChange fence found c.in-Ok.tables.version) c.in-Ok.ensures.unwritten (c.write_difference.ensures.whole done))

pub returns-clause-at_most : goal.returns-clause-at_most
returns-clause-at_most g c =
    let from = sources_of g.H.Files.ReadFiles.opens g.H.Files.Opened.Read.remaining c.args.databases.now.files.now g.H.Net.LocalNet.reaches g.H.Net.Stream.Read.remaining c.args.databases.now.rt (g.H.Input.Read.remaining c.args.input.now) in
    let writer = g.H.Output.Write.contents c.write_difference.new.output in
    let writer0 = g.H.Output.Write.contents c.args.output.now in
    let fence = c.args.comparison.now.fence.now in
    let found = c.args.comparison.now.found.now in
    of_tables_at_most g.H.Store.Store g.H-Opener-DatabaseOpener from c.args.databases.now.opener c.tables_at.new.databases.opener c.args.source.now c.in-Ok.tables.left c.in-Ok.tables.version
    (writer ≡ writer0) (λ state. (text : List ℕ) × IsWithImpact fence found state text × IsCutOff text writer0 writer) c.in-Ok.ensures.read
    (subst (λ first. (writer ≡ first) ⊎ ((text : List ℕ) × IsWithImpact fence found c.in-Ok.tables.version text × IsCutOff text first writer)) c.in-Ok.ensures.unwritten c.write_difference.ensures.part)
