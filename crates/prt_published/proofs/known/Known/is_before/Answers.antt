use Rattle.std.proofs.Common.{◌≡◌, List, ap, sym, subst, ◌∙◌, arith, inl, inr}
use Rattle.std.proofs.lemmas.Bool.Decides.{leb_tells}
use mathlib.Core.List.{IsPrefix}
use Rattle.prt_published.specs.declared.history.Entry.{Entry}
use Rattle.prt_published.specs.History.{base_of, commands_of}
use Rattle.prt_published.proofs.Histories.{shorter_spelled}
use Rattle.prt_published.proofs.known.Known.is_before.Goals as goal

pub returns : goal.returns
returns c =
    let one = c.self.inside in
    let two = c.other.inside in
    let both = c.learn.new.self.log in
    let a = commands_of one.seen.log in
    let b = commands_of two.seen.log in
    let this : IsPrefix one.seen.log both = subst (λ (l : List Entry). IsPrefix l both) (ap (λ s. s.log) c.again-both.ensures) c.learn.ensures.2 in
    let that : IsPrefix two.seen.log both = c.learn.ensures.3 in
    let same : two.seen.book ≡ one.seen.book = ap (λ l. l.book) c.other.view_is ∙ (sym c.requires ∙ sym (ap (λ l. l.book) c.self.view_is)) in
    rw (← c.self.view_is, ← c.other.view_is)
    (elim (leb_tells one.count two.count) [
      | inl t ↦ rw t.0 (let r = shorter_spelled a b (base_of one.seen.log) (base_of two.seen.log) one.seen.log two.seen.log both c.self.invariant.0 c.other.invariant.0 this that (omega (arith, c.self.invariant.1, c.other.invariant.1)) in (same, r.0, r.1))
      | inr t ↦ rw t.0 (let r = shorter_spelled b a (base_of two.seen.log) (base_of one.seen.log) two.seen.log one.seen.log both c.other.invariant.0 c.self.invariant.0 that this (omega (arith, c.self.invariant.1, c.other.invariant.1)) in (sym same, r.0, r.1))
    ])
