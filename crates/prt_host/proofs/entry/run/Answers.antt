use Rattle.std.proofs.Common.{◌≡◌, ap, subst}
use Rattle.prt_host.proofs.Runs.{asks_from, exit_alone, has_answered, has_served, same_at, submits_from}
use Rattle.prt_host.specs.Runs.{answers, serves, submits}
use Rattle.prt_program.specs.Faults.{database_of}
use Rattle.prt_program.specs.Program.{LeavesInput}
use Rattle.prt_questions.specs.Sources.{path_of, sources_of}
use Rattle.prt_args.specs.Invocation.{arguments, invocation}
use Rattle.prt_host.proofs.entry.run.Goals as goal

pub returns-in-Exit : goal.returns-in-Exit
returns-in-Exit g c =
    let asked = invocation (arguments c.args.words.now) in
    exit_alone g.H.Store.Store g.H-Opener-DatabaseOpener c.args.databases.now c.program-next.new.databases (λ d. d.opener) (g.H.Files.ReadFiles.opens c.args.databases.now.files.now) g.H.Files.Opened.Read.remaining _ asked _ c.in-Exit.status c.in-Exit.ensures.run c.in-Exit.ensures.unopened

pub returns-in-Serve : goal.returns-in-Serve
returns-in-Serve g c =
    let said = c.in-Serve.ensures in
    let old = c.args.databases.now.opener in
    let mid = c.program-next.new.databases.opener in
    let same : mid ≡ old = same_at c.args.databases.now c.program-next.new.databases (λ d. d.opener) (said.unopened (ap database_of said.serve.0)) in
    let words = arguments c.args.words.now in
    let ended = has_served g.H.Store.Store g.H-Opener-DatabaseOpener mid old c.serve.new.databases.opener same words c.in-Serve.serving c.serve.result said.serve.2 said.serve.1 c.serve.ensures.done c.serve.ensures.fault c.serve.ensures.why in
    serves words said.serve.0 ended

pub returns-in-Submit : goal.returns-in-Submit
returns-in-Submit g c =
    let said = c.in-Submit.ensures in
    let contents = g.H.Output.Write.contents in
    let remaining = g.H.Input.Read.remaining in
    let sent = c.submit_script-status in
    let all : c.program-next.new.databases ≡ c.args.databases.now = said.unopened (ap database_of said.submit.0.1) in
    let unread : remaining c.program-next.new.input ≡ remaining c.args.input.now =
    subst (λ asked. LeavesInput asked (remaining c.args.input.now) (remaining c.program-next.new.input)) said.submit.0.1 said.unread in
    submits (record { verbose = c.in-Submit.submitting.is_verbose; server = said.submit.0.0; file = path_of c.in-Submit.submitting.file }) said.submit.0.1 (same_at c.args.databases.now c.program-next.new.databases (λ d. d.opener) all)
    (submits_from _ c.in-Submit.submitting.server said.submit.0.2 c.args.databases.now c.program-next.new.databases all (remaining c.args.input.now) (remaining c.program-next.new.input) unread
    (λ databases input. sources_of g.H.Files.ReadFiles.opens g.H.Files.Opened.Read.remaining databases.files.now g.H.Net.LocalNet.reaches g.H.Net.Stream.Read.remaining databases.rt input)
    (contents c.program-next.new.output) (contents c.args.output.now) (contents sent.new.output) said.submit.1 sent.result sent.ensures.run sent.ensures.whole)

pub returns-in-Ask : goal.returns-in-Ask
returns-in-Ask g c =
    let said = c.in-Ask.ensures in
    let old = c.args.databases.now.opener in
    let mid = c.program-next.new.databases.opener in
    let new = c.answer_question-status.new.databases.opener in
    let contents = g.H.Output.Write.contents in
    let writer0 = contents c.args.output.now in
    let writer_mid = contents c.program-next.new.output in
    let writer = contents c.answer_question-status.new.output in
    let asked = c.answer_question-status in
    let words = arguments c.args.words.now in
    let same : mid ≡ old = same_at c.args.databases.now c.program-next.new.databases (λ d. d.opener) (said.unopened (ap database_of said.ask.0)) in
    let remaining = g.H.Input.Read.remaining in
    let all : c.program-next.new.databases ≡ c.args.databases.now = said.unopened (ap database_of said.ask.0) in
    let unread : remaining c.program-next.new.input ≡ remaining c.args.input.now =
    subst (λ asked. LeavesInput asked (remaining c.args.input.now) (remaining c.program-next.new.input)) said.ask.0 said.unread in
    answers words said.ask.0
    (has_answered g.H.Store.Store g.H-Opener-DatabaseOpener mid old new same words _ writer_mid writer0 writer said.ask.2 asked.result
    (asks_from g.H.Store.Store g.H-Opener-DatabaseOpener mid new words c.args.databases.now c.program-next.new.databases all (remaining c.args.input.now) (remaining c.program-next.new.input) unread
    (λ databases input. sources_of g.H.Files.ReadFiles.opens g.H.Files.Opened.Read.remaining databases.files.now g.H.Net.LocalNet.reaches g.H.Net.Stream.Read.remaining databases.rt input) writer_mid writer asked.result
    (record { question = c.in-Ask.asked; named = said.ask.1; status_is = asked.ensures.status; whole = asked.ensures.whole; found = asked.ensures.found; unreadable = asked.ensures.unreadable; closed = asked.ensures.closed; at_most = asked.ensures.at_most })))
