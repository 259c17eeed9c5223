use Rattle.std.proofs.Common.{◌<◌, None, length, refl, arith}
use Rattle.prt_session.proofs.LongLine.{reading_long}
use Rattle.prt_session.specs.Session.{LineMay, line_turn}
use Rattle.prt_session.proofs.session.reply_to_whole.Goals as goal

-- a long line is refused by its reading alone
pub returns-then-is_long-clause-turn : goal.returns-then-is_long-clause-turn
unfolding line_turn LineMay
returns-then-is_long-clause-turn g c = λ content counted kept after stands.
    let long : 1024 < length content = omega (arith, counted) in
    let e = reading_long content long in
    let passed = c.pass.ensures.same after stands in
    (passed.0, passed.1, (None, rw e refl, rw e refl, rw e passed.2))
