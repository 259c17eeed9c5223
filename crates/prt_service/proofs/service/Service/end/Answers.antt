use Rattle.std.proofs.Common.{sym}
use Rattle.prt_service.proofs.service.Service.end.Goals as goal

pub returns : goal.returns
returns g c =
    let said = c.end.ensures in
    record { last = c.into_inner.result; its = cc; line = sym said.published; quiet = said.quiet; named = said.of; stands = said.stands }
