use Rattle.std.proofs.Common.{rules, ◌≡◌, ◌⊎◌, ◌∙◌, ℕ, List, [], Option, true, false, inl, inr, subst}
use Rattle.std.specs.Io.KnownBytes.{Appends}
use Rattle.prt_ask.specs.Mirrors.{commands_of}
use Rattle.prt_replies.specs.Written.{Written}
use Rattle.prt_args.specs.declared.fault.TheConstants.{DONE}
use Rattle.prt_questions.specs.declared.asking.TheConstants.{REFUSED}
use Rattle.prt_questions.proofs.Followed.{fed, fed_none, first_lines, lines_after}
use Rattle.prt_questions.proofs.Statuses.{both_done}
use Rattle.prt_questions.proofs.following.follow_server.Goals as goal

pub returns-then-following-clause-whole : goal.returns-then-following-clause-whole
returns-then-following-clause-whole g c = λ done.
    let both = both_done _ _ _ c.or_left.ensures done in
    let begun = c.in-Ok-begin_at.ensures.begun in
    let writer = g.H.Output.Write.contents c.write_made-written.new.output in
    let text = c.in-Ok-begin_at.begun.2.text.items in
    let wrote = subst (λ (a : Option (List ℕ)). Appends a writer text) (c.in-Ok-begin_at.ensures.unwritten ∙ c.in-Ok.ensures.unwritten) (c.write_made-written.ensures.whole (inl both.0)) in
    (c.in-Ok.listing.found, c.in-Ok.listing.fence, c.in-Ok.ensures.kept both.1, begun.0, begun.1, subst (Appends (g.H.Output.Write.contents c.args.output.now) writer) begun.4 wrote, (c.in-Ok-begin_at.begun.2.notes, begun.5, c.write_made-written.ensures.change both.0))

pub returns-then-following-clause-at_most : goal.returns-then-following-clause-at_most
returns-then-following-clause-at_most g c =
    let begun = c.in-Ok-begin_at.ensures.begun in
    let fence = c.in-Ok.listing.fence in
    let before = g.H.Output.Write.contents c.args.output.now in
    let writer = g.H.Output.Write.contents c.write_made-written.new.output in
    let text = c.in-Ok-begin_at.begun.2.text.items in
    let wrote = subst (λ (a : Option (List ℕ)). Written false a writer text) (c.in-Ok-begin_at.ensures.unwritten ∙ c.in-Ok.ensures.unwritten) c.write_made-written.ensures.part in
    inr (
      c.in-Ok.listing.found,
      fence,
      c.in-Ok.ensures.made,
      begun.0,
      begun.1,
      [],
      fed_none g.N.LocalNet.reaches g.N.Stream.Read.remaining c.args.rt.now c.args.following.now.server begun.0 begun.1,
      tt,
      first_lines fence c.in-Ok.listing.found begun.0 before writer text begun.4 wrote,
    )

pub returns-clause-at_most : goal.returns-clause-at_most
returns-clause-at_most g c =
    let begun = c.in-Ok-begin_at.ensures.begun in
    let fence = c.in-Ok.listing.fence in
    let before = g.H.Output.Write.contents c.args.output.now in
    let middle = g.H.Output.Write.contents c.write_made-written.new.output in
    let writer = g.H.Output.Write.contents c.follow_on.new.output in
    let text = c.in-Ok-begin_at.begun.2.text.items in
    let all : (c.write_made-written.result ≡ DONE) ⊎ (c.write_made-written.result ≡ REFUSED) = search (rules, c.write_made-written.ensures.status, c.if-written-eq-FAULT.false) in
    let wrote = subst (λ (a : Option (List ℕ)). Written true a middle text) (c.in-Ok-begin_at.ensures.unwritten ∙ c.in-Ok.ensures.unwritten) (c.write_made-written.ensures.whole all) in
    let follows = c.follow_on.ensures.follows in
    let found = c.in-Ok.listing.found in
    let mirror = c.in-Ok-begin_at.begun.1 in
    let commands = commands_of follows.2 in
    let rest = lines_after fence found begun.0 mirror follows.0 follows.2 follows.1 before middle writer text begun.4 begun.3 wrote follows.5 in
    inr (
      c.in-Ok.listing.found,
      fence,
      c.in-Ok.ensures.made,
      begun.0,
      begun.1,
      commands,
      fed g.N.LocalNet.reaches g.N.Stream.Read.remaining c.args.rt.now c.args.following.now.server fence found begun.0 mirror follows.0 follows.2 follows.1 _ follows.3 middle writer begun.1 begun.2 begun.3 follows.4 follows.5,
      rest.0,
      rest.1,
    )
