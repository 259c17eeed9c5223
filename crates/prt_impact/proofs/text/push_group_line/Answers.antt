use Rattle.std.proofs.Common.{◌++◌, codes}
use Rattle.std.proofs.lemmas.Result.{on_ok_weaker}
use Rattle.prt_impact.specs.Text.{packets_text, verdict_text}
use Rattle.prt_impact.proofs.Texts.{appended}
use Rattle.prt_impact.proofs.text.push_group_line.Goals as goal

pub returns : goal.returns
returns c =
    let old = c.args.out.now.items in
    let group = c.args.group.now in
    let packets = packets_text group in
    let was = verdict_text group.was in
    let is = verdict_text group.is in
    let colon = appended old packets (codes ": ") _ _ c.in_ok-push_packets.ensures c.in_ok-push_text.ensures.ok in
    let before = appended old (packets ++ codes ": ") was _ _ colon c.in_ok-push_verdict.ensures in
    let arrow = appended old (packets ++ codes ": " ++ was) (codes " -> ") _ _ before c.in_ok-push_text-2.ensures.ok in
    let after = appended old (packets ++ codes ": " ++ was ++ codes " -> ") is _ _ arrow c.in_ok-push_verdict-2.ensures in
    on_ok_weaker c.push_text-3.result (appended old (packets ++ codes ": " ++ was ++ codes " -> " ++ is) (codes "\n") _ _ after) c.push_text-3.ensures.ok
