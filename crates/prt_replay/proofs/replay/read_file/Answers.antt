use Rattle.std.proofs.Common.{◌<◌, arith, length}
use Rattle.std.proofs.lemmas.Grind.{common_steps}
use Rattle.std.proofs.lemmas.Result.{err_from_is_err_and}
use Rattle.prt_replay.proofs.ReplayFile.{no_memory, read_to_fault, read_too_many, read_whole}
use Rattle.prt_replay.proofs.replay.read_file.Goals as goal

pub returns-in-Ok-eq0 : goal.returns-in-Ok-eq0
returns-in-Ok-eq0 g c =
    let remaining = g.R.Read.remaining in
    let read = c.in-Ok-eq0.ensures.bytes in
    let some : 0 < length c.read.new.buf = grind (arith, common_steps, c.read.auto.buf, c.min-room.ensures, c.loop-block-test.true, c.len.ensures, c.len-in-loop-block.ensures) in
    read_whole (remaining c.args.reader.now) (remaining c.loop-block.reader) (remaining c.read.new.self) c.loop-block.bytes.items c.loop-block.invariant.read (rw c.in-Ok-eq0.field-0-test at read.0) (read.1 c.in-Ok-eq0.field-0-test some)

pub returns-in-Err : goal.returns-in-Err
returns-in-Err g c =
    let remaining = g.R.Read.remaining in
    read_to_fault (remaining c.args.reader.now) (remaining c.loop-block.reader) c.loop-block.bytes.items c.loop-block.invariant.read (omega (arith, c.loop-block-test.true, c.len.ensures))

pub returns-in_err-extend_from_slice : goal.returns-in_err-extend_from_slice
returns-in_err-extend_from_slice g c =
    let refused = err_from_is_err_and c.from_residual.result c.from_residual.ensures.1 in
    rw (refused.1, refused.2) (no_memory (g.R.Read.remaining c.args.reader.now))

pub returns : goal.returns
returns g c =
    let remaining = g.R.Read.remaining in
    read_too_many (remaining c.args.reader.now) (remaining c.loop-block.reader) c.loop-block.bytes.items c.loop-block.invariant.read (omega (arith, c.loop-block-test.false, c.len.ensures))
