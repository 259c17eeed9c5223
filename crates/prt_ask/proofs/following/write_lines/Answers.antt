use Rattle.std.proofs.Common.{◌∙◌, Bool, [], ◌∷◌, inl, inr, refl, subst, sym, true, false}
use Rattle.prt_ask.proofs.Followed.{follows_none, follows_one}
use Rattle.prt_ask.proofs.following.write_lines.Goals as goal
use Rattle.prt_ask.specs.Mirrors.{Follows}
use Rattle.prt_ask.specs.declared.mirror.Mirror.{Mirror}
use Rattle.prt_replies.specs.Written.{Written}

pub returns-in-Err : goal.returns-in-Err
returns-in-Err g c = ([], inl refl, subst (λ (m : Mirror). Follows c.args.mirror.now m [] true (g.W.Write.contents c.args.output.now) (g.W.Write.contents c.args.output.now)) (sym c.in-Err.ensures.same) (follows_none c.args.mirror.now true (g.W.Write.contents c.args.output.now) refl))

pub returns-then-write_bytes : goal.returns-then-write_bytes
returns-then-write_bytes g c =
    let contents = g.W.Write.contents in
    follows_one c.args.mirror.now c.follow.new.self c.args.change.now true _ _ c.deref.result.now c.in-Ok.ensures.number c.in-Ok.ensures.accepted c.in-Ok.ensures.mirror (c.deref.ensures.value ∙ c.in-Ok.ensures.text)
    (subst (λ (whole : Bool). Written whole (contents c.args.output.now) (contents c.write_bytes.new.writer) c.deref.result.now) c.if-write_bytes.true c.write_bytes.ensures)

pub returns : goal.returns
returns g c =
    let contents = g.W.Write.contents in (
      c.args.change.now ∷ [],
      inr refl,
      follows_one c.args.mirror.now c.follow.new.self c.args.change.now false _ _ c.deref.result.now c.in-Ok.ensures.number c.in-Ok.ensures.accepted c.in-Ok.ensures.mirror (c.deref.ensures.value ∙ c.in-Ok.ensures.text)
          (subst (λ (whole : Bool). Written whole (contents c.args.output.now) (contents c.write_bytes.new.writer) c.deref.result.now) c.if-write_bytes.false c.write_bytes.ensures),
    )
