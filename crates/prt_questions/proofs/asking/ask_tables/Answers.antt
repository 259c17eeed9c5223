use Rattle.std.proofs.Common.{◌≡◌, ◌⊎◌, ℕ, List, inl, subst, sym}
use Rattle.std.specs.Io.KnownBytes.{Appends}
use Rattle.prt_questions.specs.Asking.{IsCutOff, IsTold}
use Rattle.prt_questions.proofs.Asked.{or_query, told_at_most, told_whole}
use Rattle.prt_questions.proofs.QueryLines.{query_line}
use Rattle.prt_questions.specs.ServerAnswers.{IsQueryLine}
use Rattle.prt_questions.specs.Sources.{sources_of}
use Rattle.prt_questions.proofs.asking.ask_tables.Goals as goal

pub returns-in-None-clause-whole : goal.returns-in-None-clause-whole
returns-in-None-clause-whole g c = λ done. inl (c.ask_source.ensures.whole done)

pub returns-in-None-clause-at_most : goal.returns-in-None-clause-at_most
returns-in-None-clause-at_most g c = inl c.ask_source.ensures.at_most

pub returns-in-Some-clause-whole : goal.returns-in-Some-clause-whole
returns-in-Some-clause-whole g c = λ done.
    let from = sources_of g.H.Files.ReadFiles.opens g.H.Files.Opened.Read.remaining c.args.databases.now.files.now g.H.Net.LocalNet.reaches g.H.Net.Stream.Read.remaining c.args.databases.now.rt (g.H.Input.Read.remaining c.args.input.now) in
    let inquiry = c.args.inquiry.now in
    let writer0 = g.H.Output.Write.contents c.args.output.now in
    let writer = g.H.Output.Write.contents c.ask_by_line.new.output in
    let place = c.in-Some.place in
    let told =
    subst (λ line. (text : List ℕ) × IsTold (from.tells place) (from.replies place line) inquiry text × Appends writer0 writer text) c.deref.ensures.value (c.ask_by_line.ensures.whole done) in
    or_query c.in-Some.ensures.1 (rw c.in-Some.ensures.0 (told_whole g.H.Store.Store g.H-Opener-DatabaseOpener from c.args.databases.now.opener writer0 writer place c.args.asking.now.line.items inquiry told.0 c.in-Some.ensures.1 told.1 told.2))

pub returns-in-Some-clause-at_most : goal.returns-in-Some-clause-at_most
returns-in-Some-clause-at_most g c =
    let from = sources_of g.H.Files.ReadFiles.opens g.H.Files.Opened.Read.remaining c.args.databases.now.files.now g.H.Net.LocalNet.reaches g.H.Net.Stream.Read.remaining c.args.databases.now.rt (g.H.Input.Read.remaining c.args.input.now) in
    let inquiry = c.args.inquiry.now in
    let writer0 = g.H.Output.Write.contents c.args.output.now in
    let writer = g.H.Output.Write.contents c.ask_by_line.new.output in
    let place = c.in-Some.place in
    let part =
    subst (λ line. (writer ≡ writer0) ⊎ ((text : List ℕ) × IsTold (from.tells place) (from.replies place line) inquiry text × IsCutOff text writer0 writer)) c.deref.ensures.value c.ask_by_line.ensures.part in
    or_query c.in-Some.ensures.1 (rw c.in-Some.ensures.0 (told_at_most g.H.Store.Store g.H-Opener-DatabaseOpener from c.args.databases.now.opener writer0 writer place c.args.asking.now.line.items inquiry part))

pub ask_by_line-requires : goal.ask_by_line-requires
ask_by_line-requires g c =
    let asking = c.args.asking.now in
    subst IsQueryLine (sym c.deref.ensures.value) (query_line asking.verb asking.line.items asking.form c.args.inquiry.now.question c.requires c.in-Some.ensures.1)
