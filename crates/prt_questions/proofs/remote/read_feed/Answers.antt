use Rattle.std.specs.Io.Buffered.{reader_remaining}
use Rattle.prt_questions.proofs.ServerAnswers.{opening_of}
use Rattle.prt_questions.proofs.remote.read_feed.Goals as goal

pub returns : goal.returns
returns g c =
    let known = reader_remaining g.T.Read.remaining in
    let told = c.in_ok-version.ensures in
    (told.0, opening_of (known c.args.reader.now) (known c.is_feed.new.reader) (known c.read_version.new.reader) told.0 c.is_feed.ensures told.1, told.2)
