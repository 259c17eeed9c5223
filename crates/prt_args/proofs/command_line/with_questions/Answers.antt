use Rattle.std.proofs.Common.{refl}
use Rattle.clap.specs.Words.{app_of}
use Rattle.prt_args.specs.CommandLine.{diff_line, dump_line, explain_line, follow_line, get_line, import_line, show_line, wait_line}
use Rattle.prt_args.proofs.command_line.with_questions.Goals as goal

pub returns : goal.returns
returns c =
    let getting = c.with_line-getting.ensures (app_of c.args.command) get_line refl c.get_line.ensures.line c.get_line.ensures.own in
    let showing = c.with_line-showing.ensures _ show_line getting c.show_line.ensures.line c.show_line.ensures.own in
    let explaining = c.with_line-explaining.ensures _ explain_line showing c.explain_line.ensures.line c.explain_line.ensures.own in
    let dumping = c.with_line-dumping.ensures _ dump_line explaining c.dump_line.ensures.line c.dump_line.ensures.own in
    let comparing = c.with_line-comparing.ensures _ diff_line dumping c.diff_line.ensures.line c.diff_line.ensures.own in
    let following = c.with_line-following.ensures _ follow_line comparing c.follow_line.ensures.line c.follow_line.ensures.own in
    let waiting = c.with_line-waiting.ensures _ wait_line following c.wait_line.ensures.line c.wait_line.ensures.own in
    c.with_line.ensures _ import_line waiting c.import_line.ensures.line c.import_line.ensures.own
