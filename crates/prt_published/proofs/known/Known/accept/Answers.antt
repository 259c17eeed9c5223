use Rattle.std.proofs.Common.{eq-eqb, ◌+◌, ◌≡◌, ◌≤◌, ◌++◌, ap, sym, subst, ◌∙◌, arith, length, length-append, map}
use Rattle.prt_version.specs.Accepted.{IsAccepted}
use Rattle.prt_version.specs.Change.{fold}
use Rattle.prt_published.specs.declared.history.Entry.TheVariants.{Accepted}
use Rattle.logbook.specs.Pages.{Book}
use Rattle.prt_published.specs.History.{ask_of, asked_commands, base_of, commands_in, commands_of, entries}
use Rattle.prt_published.specs.Line.{Line, grown_by}
use Rattle.prt_version.proofs.Folds.{accepted_append}
use Rattle.prt_published.proofs.Histories.{added, line_spelled, spells}
use Rattle.prt_published.proofs.Adding.{adds_moves}
use Rattle.prt_published.proofs.Numbers.{at_most_added}
use Rattle.prt_published.proofs.known.Known.accept.Goals as goal

pub overflow_add-count_after : goal.overflow_add-count_after
overflow_add-count_after c =
    let base = base_of c.self.inside.seen.log in
    let list = commands_of c.self.inside.seen.log in
    let more = commands_in c.args.batch.now in
    let may : IsAccepted (fold base list) more = subst (λ (l : Line). IsAccepted (fold l.base l.list) more) (sym c.self.view_is) c.requires.accepted in
    let most : length (list ++ more) ≤ 1000000000000000 = at_most_added base list more c.self.invariant.2 may in
    omega (arith, most, length-append list more, c.self.invariant.1, c.requires.added)

pub compare_exchange-found-requires : goal.compare_exchange-found-requires
compare_exchange-found-requires c =
    let h = c.requires.word in
    let seen = c.again-seen.ensures in
    let offer = c.plain-offer.ensures in
    let pen = c.no_pen-pen.ensures in
    let inside = c.self.inside in
    let base = base_of inside.seen.log in
    let list = commands_of inside.seen.log in
    let may : IsAccepted (fold base list) (commands_in c.args.batch.now) = subst (λ (l : Line). IsAccepted (fold l.base l.list) (commands_in c.args.batch.now)) (sym c.self.view_is) c.requires.accepted in
    let logs : c.again-seen.result.log ≡ entries base list = ap (λ s. s.log) seen ∙ c.self.invariant.0 in
    let book : c.again-seen.result.book ≡ c.args.word.now.book = ap (λ s. s.book) seen ∙ (ap (λ l. l.book) c.self.view_is ∙ sym (ap (λ w. w.book) h)) in (
      ap (λ w. w.tracked) h,
      book,
      pen.0 ∙ book,
      offer.0,
      rw (ap (λ w. w.key) h, pen.1, offer.1, offer.3, logs, c.requires.added) (adds_moves base list (ask_of c.args.batch.now) inside.count (sym c.self.invariant.1) may c.self.invariant.2),
    )

pub invariant_of-result : goal.invariant_of-result
invariant_of-result c =
    let base = base_of c.self.inside.seen.log in
    let list = commands_of c.self.inside.seen.log in
    let more = commands_in c.args.batch.now in
    let yes = eq-eqb c.compare_exchange-found.result c.self.inside.count c.if-found-count.true in
    let told : c.compare_exchange-found.new.seen.log ≡ c.again-seen.result.log ++ map Accepted (asked_commands c.plain-offer.result.ask) = rw yes at (c.compare_exchange-found.ensures.7) in
    let log = added base list _ _ _ _ (ask_of c.args.batch.now) told (ap (λ s. s.log) c.again-seen.ensures) c.plain-offer.ensures.1 c.self.invariant.0 in
    let may : IsAccepted (fold base list) more = subst (λ (l : Line). IsAccepted (fold l.base l.list) more) (sym c.self.view_is) c.requires.accepted in
    spells base (list ++ more) (c.self.inside.count + c.args.added) (omega (arith, length-append list more, c.self.invariant.1, c.requires.added)) (accepted_append base list more c.self.invariant.2 may) c.compare_exchange-found.new.seen.log log

pub returns-then-found-count : goal.returns-then-found-count
returns-then-found-count c =
    let inside = c.self.inside in
    let base = base_of inside.seen.log in
    let list = commands_of inside.seen.log in
    let more = commands_in c.args.batch.now in
    let yes = eq-eqb c.compare_exchange-found.result inside.count c.if-found-count.true in
    let told : c.compare_exchange-found.new.seen.log ≡ c.again-seen.result.log ++ map Accepted (asked_commands c.plain-offer.result.ask) = rw yes at (c.compare_exchange-found.ensures.7) in
    let log = added base list _ _ _ _ (ask_of c.args.batch.now) told (ap (λ s. s.log) c.again-seen.ensures) c.plain-offer.ensures.1 c.self.invariant.0 in
    let same : c.compare_exchange-found.new.seen.book ≡ inside.seen.book = c.compare_exchange-found.ensures.0 ∙ ap (λ s. s.book) c.again-seen.ensures in
    let made = line_spelled c.compare_exchange-found.new.seen.book base (list ++ more) c.compare_exchange-found.new.seen.log log in
    made ∙ (ap (λ (b : Book). (let l : Line = record { book = b; base = base; list = list ++ more } in l)) same ∙ ap (λ (l : Line). grown_by l more) c.self.view_is)
