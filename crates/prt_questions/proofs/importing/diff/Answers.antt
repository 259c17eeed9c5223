use Rattle.std.proofs.Common.{Option, List, ℕ, subst}
use Rattle.prt_questions.specs.Asking.{HasCompared, HasComparedAtMost}
use Rattle.prt_questions.specs.Sources.{path_of, rest_after, sources_of}
use Rattle.prt_questions.proofs.Later.{shown_at_most_later, shown_later}
use Rattle.prt_questions.proofs.Statuses.{both_done}
use Rattle.prt_questions.proofs.ReadTables.{compared, compared_at_most}
use Rattle.prt_questions.proofs.importing.diff.Goals as goal

pub returns-clause-whole : goal.returns-clause-whole
returns-clause-whole g c = λ done.
    let from = sources_of g.H.Files.ReadFiles.opens g.H.Files.Opened.Read.remaining c.args.databases.now.files.now g.H.Net.LocalNet.reaches g.H.Net.Stream.Read.remaining c.args.databases.now.rt (g.H.Input.Read.remaining c.args.input.now) in
    let file = path_of c.args.diffing.now.file in
    let shown = c.args.diffing.now.shown in
    let source = c.args.diffing.now.source in
    let old = c.args.databases.now.opener in
    let new = c.show_difference-shown.new.databases.opener in
    let writer = g.H.Output.Write.contents c.show_difference-shown.new.output in
    let fence = c.in-Ok.listing.fence in
    let found = c.in-Ok.listing.found in
    let both = both_done _ _ _ c.or_left.ensures done in
    let shows = shown_later g.H.Store.Store g.H-Opener-DatabaseOpener from (rest_after file) (g.H.Input.Read.remaining c.read_fenced.new.input) c.in-Ok.ensures.left old new (g.H.Output.Write.contents c.read_fenced.new.output) writer shown fence found source (c.show_difference-shown.ensures.whole both.0) in
    subst (λ (writer0 : Option (List ℕ)). HasCompared g.H.Store.Store g.H-Opener-DatabaseOpener from old new writer0 writer file c.args.diffing.now.reach shown source) c.in-Ok.ensures.unwritten
    (compared g.H.Store.Store g.H-Opener-DatabaseOpener from old new (g.H.Output.Write.contents c.read_fenced.new.output) writer file c.args.diffing.now.reach source shown found fence (c.in-Ok.ensures.kept both.1) shows)

pub returns-clause-at_most : goal.returns-clause-at_most
returns-clause-at_most g c =
    let from = sources_of g.H.Files.ReadFiles.opens g.H.Files.Opened.Read.remaining c.args.databases.now.files.now g.H.Net.LocalNet.reaches g.H.Net.Stream.Read.remaining c.args.databases.now.rt (g.H.Input.Read.remaining c.args.input.now) in
    let file = path_of c.args.diffing.now.file in
    let shown = c.args.diffing.now.shown in
    let source = c.args.diffing.now.source in
    let old = c.args.databases.now.opener in
    let new = c.show_difference-shown.new.databases.opener in
    let writer = g.H.Output.Write.contents c.show_difference-shown.new.output in
    let fence = c.in-Ok.listing.fence in
    let found = c.in-Ok.listing.found in
    let shows = shown_at_most_later g.H.Store.Store g.H-Opener-DatabaseOpener from (rest_after file) (g.H.Input.Read.remaining c.read_fenced.new.input) c.in-Ok.ensures.left old new (g.H.Output.Write.contents c.read_fenced.new.output) writer shown fence found source c.show_difference-shown.ensures.at_most in
    subst (λ (writer0 : Option (List ℕ)). HasComparedAtMost g.H.Store.Store g.H-Opener-DatabaseOpener from old new writer0 writer file c.args.diffing.now.reach shown source) c.in-Ok.ensures.unwritten
    (compared_at_most g.H.Store.Store g.H-Opener-DatabaseOpener from old new (g.H.Output.Write.contents c.read_fenced.new.output) writer file c.args.diffing.now.reach source shown found fence c.in-Ok.ensures.made shows)
