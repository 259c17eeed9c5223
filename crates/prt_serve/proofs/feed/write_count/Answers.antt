use Rattle.std.proofs.Common.{List, ℕ, subst, ◌∙◌}
use Rattle.prt_replies.specs.Written.{Written}
use Rattle.prt_serve.proofs.feed.write_count.Goals as goal

pub returns : goal.returns
returns g c =
    let writer0 = g.W.Write.contents c.args.writer.now in
    let writer = g.W.Write.contents c.write_bytes.new.writer in
    subst (λ (text : List ℕ). Written c.write_bytes.result writer0 writer text) (c.as_bytes.ensures.value ∙ c.deref.ensures.0 ∙ c.together_text.ensures) c.write_bytes.ensures
