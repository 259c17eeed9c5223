use Rattle.std.proofs.Common.{[], inl, inr, refl, subst, sym}
use Rattle.std.specs.Io.KnownBytes.{Appends}
use Rattle.prt_questions.proofs.Submitted.{all_made, submitted_is, was_sent}
use Rattle.prt_questions.specs.Sources.{Sources, path_of, sources_of}
use Rattle.prt_questions.proofs.submitting.submit_read.Goals as goal

pub returns-in-Ok-submit-clause-run : goal.returns-in-Ok-submit-clause-run
returns-in-Ok-submit-clause-run g c =
    let from : Sources = sources_of g.H.Files.ReadFiles.opens g.H.Files.Opened.Read.remaining c.args.files.now g.N.LocalNet.reaches g.N.Stream.Read.remaining c.args.rt.now (g.H.Input.Read.remaining c.args.input.now) in
    let contents = g.H.Output.Write.contents in
    inl (submitted_is from c.args.submitting.now.server (path_of c.args.submitting.now.file) c.in-Ok.read c.in-Ok-submit.end (contents c.args.output.now) (contents c.collect_script.new.output) (contents c.submit.new.output) c.exit_status.result
    c.in-Ok.ensures.read c.in-Ok-submit.ensures.sent c.exit_status.ensures)

pub returns-in-Ok-submit-clause-whole : goal.returns-in-Ok-submit-clause-whole
returns-in-Ok-submit-clause-whole g c =
    let from : Sources = sources_of g.H.Files.ReadFiles.opens g.H.Files.Opened.Read.remaining c.args.files.now g.N.LocalNet.reaches g.N.Stream.Read.remaining c.args.rt.now (g.H.Input.Read.remaining c.args.input.now) in
    let contents = g.H.Output.Write.contents in
    all_made from c.args.submitting.now.server (path_of c.args.submitting.now.file) (contents c.args.output.now) (contents c.submit.new.output) c.exit_status.result
    (submitted_is from c.args.submitting.now.server (path_of c.args.submitting.now.file) c.in-Ok.read c.in-Ok-submit.end (contents c.args.output.now) (contents c.collect_script.new.output) (contents c.submit.new.output) c.exit_status.result
    c.in-Ok.ensures.read c.in-Ok-submit.ensures.sent c.exit_status.ensures)

pub returns-clause-run : goal.returns-clause-run
returns-clause-run g c =
    let from : Sources = sources_of g.H.Files.ReadFiles.opens g.H.Files.Opened.Read.remaining c.args.files.now g.N.LocalNet.reaches g.N.Stream.Read.remaining c.args.rt.now (g.H.Input.Read.remaining c.args.input.now) in
    let contents = g.H.Output.Write.contents in
    let is = c.in-Ok.ensures.read in
    let nothing = (was_sent from c.args.submitting.now.server (path_of c.args.submitting.now.file) c.in-Ok.read is.0 (contents c.args.output.now) (contents c.collect_script.new.output) is.2 is.3 c.in-Err-submit.ensures.quiet).1 in
    inr (refl, subst (λ w. Appends (contents c.args.output.now) w []) (sym c.in-Err-submit.ensures.unwritten) nothing)
