use Rattle.std.proofs.Common.{◌++◌, codes}
use Rattle.std.proofs.lemmas.Result.{on_ok_weaker}
use Rattle.prt_impact.specs.Text.{from_text, fwmark_text, iif_text, range_text}
use Rattle.prt_impact.proofs.Texts.{appended}
use Rattle.prt_impact.proofs.words.push_packets.Goals as goal

pub returns : goal.returns
returns c =
    let old = c.args.out.now.items in
    let group = c.args.group.now in
    let to = range_text group.to in
    let from = from_text group.from in
    let iif = iif_text group.interfaces in
    let fwmark = fwmark_text group.marks in
    let destinations = appended old (codes "to ") to _ _ c.in_ok-push_text.ensures.ok c.in_ok-push_range.ensures in
    let sources = appended old (codes "to " ++ to) from _ _ destinations c.in_ok-push_from.ensures in
    let interfaces = appended old (codes "to " ++ to ++ from) iif _ _ sources c.in_ok-push_iif.ensures in
    on_ok_weaker c.push_fwmark.result (appended old (codes "to " ++ to ++ from ++ iif) fwmark _ _ interfaces) c.push_fwmark.ensures
