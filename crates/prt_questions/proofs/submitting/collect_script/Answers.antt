use Rattle.std.proofs.Common.{Some, subst, sym}
use Rattle.prt_questions.proofs.Submitted.{script_read}
use Rattle.prt_questions.specs.Sources.{IsFileOf, IsRead}
use Rattle.prt_questions.proofs.submitting.collect_script.Goals as goal

pub returns-clause-read : goal.returns-clause-read
returns-clause-read g c =
    let remaining = g.H.Files.Opened.Read.remaining in
    let opens = g.H.Files.ReadFiles.opens in
    let file = c.new-script.result.stream in
    let opened = subst (opens c.args.files.now c.in-Some.path.now) (sym c.new-script.ensures) c.in_ok-open_script.ensures.opened in
    let read = c.in_ok-read.ensures.read in
    rw c.in-Some.is (script_read (IsRead (IsFileOf opens remaining c.args.files.now) (g.H.Input.Read.remaining c.args.input.now) (Some c.in-Some.path.now)) c.in_ok-read.read (remaining file) read.0
    (g.H.Output.Write.contents c.args.output.now) (g.H.Output.Write.contents c.collect-2.new.output) (λ text known. (file, opened, known)) read.1)
