use Rattle.std.proofs.Common.{refl}
use Rattle.clap.specs.Words.{app_of}
use Rattle.prt_args.specs.CommandLine.{assert_line, impact_line, unused_line}
use Rattle.prt_args.proofs.analysis_lines.with_analyses.Goals as goal

pub returns : goal.returns
returns c =
    let comparing = c.with_line-comparing.ensures (app_of c.args.command) impact_line refl c.impact_line.ensures.line c.impact_line.ensures.own in
    let claiming = c.with_line-claiming.ensures _ assert_line comparing c.assert_line.ensures.line c.assert_line.ensures.own in
    c.with_line.ensures _ unused_line claiming c.unused_line.ensures.line c.unused_line.ensures.own
