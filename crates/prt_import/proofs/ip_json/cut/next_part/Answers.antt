use Rattle.std.proofs.Common.{◌+◌, ◌<◌, ◌∷◌, take, drop, length, sym, ap, ap₂, ◌∙◌, arith, length-drop}
use Rattle.std.proofs.lemmas.List.{drop_all, take_rest}
use Rattle.prt_import.specs.IpJson.Documents.{parts, parts_from}
use Rattle.prt_import.proofs.IpJson.Cuts.{before, ended, gone_on, gone_through, some_of}
use Rattle.prt_import.proofs.ip_json.cut.next_part.Goals as goal

pub returns-then-ends : goal.returns-then-ends
returns-then-ends c =
    let text = c.args.text.now in
    let l = c.loop-at in
    let within : l.at < length text = omega arith in
    let rest = take_rest text (l.at + 1) in (
      l.invariant.parts ∙ ended text l.at _ l.depth l.mode within (sym c.ends.ensures ∙ c.if-ends.true) ∙ ap (λ bs. take (l.at + 1) text ∷ parts bs) (sym rest),
      omega (arith, ap (λ bs. length bs) rest, length-drop (l.at + 1) text, within),
    )

pub loop-at-preserved : goal.loop-at-preserved
loop-at-preserved c =
    let text = c.args.text.now in
    let l = c.loop-at in
    let within : l.at < length text = omega arith in
    record {
      depth = omega (arith, c.depth_after-depth.ensures.within, l.invariant.depth);
      parts = l.invariant.parts ∙ gone_on text l.at _ l.depth l.mode within (sym c.ends.ensures ∙ c.if-ends.false)
          ∙ ap₂ (λ depth mode. before (take (l.at + 1) text) (parts_from depth mode (drop (l.at + 1) text))) (sym c.depth_after-depth.ensures.value) (sym c.mode_after-mode.ensures);
    }

pub returns : goal.returns
returns c =
    let text = c.args.text.now in
    let l = c.loop-at in
    let some = some_of (length text) (sym c.is_empty.ensures ∙ c.if-is_empty.false) in
    let over = take_rest text (length text) ∙ drop_all (length text) text (omega arith) in (
      l.invariant.parts ∙ gone_through text l.at l.depth l.mode some (omega arith) ∙ ap (λ bs. text ∷ parts bs) (sym over),
      omega (arith, ap (λ bs. length bs) over, some),
    )
