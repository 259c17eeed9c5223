use Rattle.std.specs.Io.Buffered.{reader_remaining}
use Rattle.prt_questions.proofs.ServerAnswers.{fresh, told_by}
use Rattle.prt_questions.proofs.remote.ask_line.Goals as goal

pub returns : goal.returns
returns g c =
    let said = g.N.Stream.Read.remaining in
    let made = c.in_ok-reader.ensures in
    let stream = c.in_ok-stream.stream in
    let kept = c.is_silent.ensures in
    told_by g.N.LocalNet.reaches said c.args.rt.now c.args.place.now c.args.line.now stream c.in_ok-stream.ensures _ (reader_remaining said c.is_silent.new.reader) (fresh said c.in_ok-reader.reader stream made.inner made.empty made.capacity) kept c.read_told.result c.read_told.ensures
