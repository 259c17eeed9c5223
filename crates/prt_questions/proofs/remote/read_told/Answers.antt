use Rattle.std.specs.Io.Buffered.{reader_remaining}
use Rattle.prt_questions.proofs.ServerAnswers.{all_of, opening_of}
use Rattle.prt_questions.proofs.remote.read_told.Goals as goal

pub returns-in_ok-read_version : goal.returns-in_ok-read_version
returns-in_ok-read_version g c =
    let known = reader_remaining g.R.Read.remaining in
    let told = c.in_ok-read_version.ensures in
    (known c.read_version.new.reader, (told.0, opening_of (known c.args.reader.now) (known c.first_byte.new.reader) (known c.read_version.new.reader) told.0 c.first_byte.ensures told.1, told.2))

pub returns-in_ok-read_reply : goal.returns-in_ok-read_reply
returns-in_ok-read_reply g c =
    let known = reader_remaining g.R.Read.remaining in
    all_of (known c.args.reader.now) (known c.first_byte.new.reader) _ c.first_byte.ensures c.in_ok-read_reply.ensures
