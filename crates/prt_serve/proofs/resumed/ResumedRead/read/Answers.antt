use Rattle.std.proofs.Common.{◌≡◌, ◌<◌, ◌≤◌, ℕ, List, ap, arith, get_or, length, rules, slice_index_or, slice_set, take}
use Rattle.prt_serve.proofs.Resuming.{front_one, read_on, read_one}
use Rattle.prt_serve.proofs.resumed.ResumedRead.read.Goals as goal

pub returns-then-self-len-clause-bytes : goal.returns-then-self-len-clause-bytes
returns-then-self-len-clause-bytes g c =
    read_on c.args.self.now.head.items c.args.self.now.given (g.R.Read.remaining c.args.self.now.reader) (g.R.Read.remaining c.read-read.new.self) c.read-read.result c.read-read.new.buf (omega arith) c.read-read.ensures.bytes

pub returns-clause-bytes : goal.returns-clause-bytes
returns-clause-bytes g c =
    let head = c.args.self.now.head.items in
    let given = c.args.self.now.given in
    let room : 0 < length c.args.bytes.now = search rules in
    let byte = slice_index_or c.deref.result.now given 0 in
    let front = take 1 (slice_set c.args.bytes.now 0 byte) in
    (read_one head given byte (g.R.Read.remaining c.args.self.now.reader) front (omega arith) (ap (λ (l : List ℕ). get_or l given 0) c.deref.ensures.0) (front_one c.args.bytes.now byte room), λ no. absurd (omega arith))
