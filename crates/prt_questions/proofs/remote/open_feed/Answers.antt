use Rattle.std.proofs.Common.{[], refl, subst}
use Rattle.std.specs.Io.Buffered.{reader_remaining}
use Rattle.prt_feed.specs.Reading.{IsOpening}
use Rattle.prt_machine.specs.declared.local.Socket.TheVariants.{Feed}
use Rattle.prt_questions.proofs.ServerAnswers.{fresh}
use Rattle.prt_questions.proofs.remote.open_feed.Goals as goal

pub returns : goal.returns
returns g c =
    let said = g.N.Stream.Read.remaining in
    let made = c.in_ok-reader.ensures in
    let told = c.in_ok-version.ensures in
    let rest = reader_remaining said c.read_feed.new.reader in (
      record {
        socket = Feed;
        sent = [];
        stream = c.in_ok-stream.stream;
        reached = c.in_ok-stream.ensures;
        rest = rest;
        opening = told.0;
        read = subst (λ known. IsOpening known rest told.0) (fresh said c.in_ok-reader.reader c.in_ok-stream.stream made.inner made.empty made.capacity) told.1;
        spelled = told.2;
      },
      refl,
    )
