use Rattle.std.proofs.Common.{refl}
use Rattle.clap.specs.Words.{app_of}
use Rattle.prt_args.specs.CommandLine.{apply_line, status_line}
use Rattle.prt_args.proofs.service_lines.with_services.Goals as goal

pub returns : goal.returns
returns c =
    let applying = c.with_line-applying.ensures (app_of c.args.command) apply_line refl c.apply_line.ensures.line c.apply_line.ensures.own in
    c.with_line.ensures _ status_line applying c.status_line.ensures.line c.status_line.ensures.own
