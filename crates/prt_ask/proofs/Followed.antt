-- What was written for changes that came one after the other.
use Rattle.std.proofs.Common.{◌≡◌, ◌∙◌, ◌+◌, ℕ, suc, Bool, true, false, List, [], ◌∷◌, ◌++◌, Option, None, Some, ap, append_assoc, arith, inl, inr, length, refl, subst, sym}
use Rattle.std.proofs.KnownBytes.{Appends-nil, Appends-trans}
use Rattle.std.proofs.lemmas.List.{append-nil, length-map, map-append}
use Rattle.prt_command.specs.declared.request.Command.{Command}
use Rattle.prt_feed.specs.Changes.{IsTold}
use Rattle.prt_feed.specs.declared.change.Change.{Change}
use Rattle.prt_replies.specs.Written.{Written}
use Rattle.prt_version.proofs.Folds.{accepted_append, count_fold}
use Rattle.prt_version.specs.Accepted.{IsAccepted}
use Rattle.prt_version.specs.Change.{fold, refusal}
use Rattle.prt_version.specs.State.{State}
use Rattle.prt_ask.specs.Fed.{AreRead, AreReported, changes_in}
use Rattle.prt_ask.specs.Mirrors.{AreAtMost, AreNumbered, Follows, after_change, after_changes, commands_of, step_text, steps_text}
use Rattle.prt_ask.specs.declared.mirror.Mirror.{Mirror}

-- ---- texts, one after another

-- a text after one that was written
pub written_then : (whole : Bool) (a b c : Option (List ℕ)) (xs ys : List ℕ) → Written true a b xs → Written whole b c ys → Written whole a c (xs ++ ys)
written_then true a b c xs ys p q = Appends-trans a b c xs ys p q
written_then false a b c xs ys p q = (xs ++ q.0, q.1, ap (λ (t : List ℕ). xs ++ t) q.2 ∙ sym (append_assoc xs q.0 q.1), Appends-trans a b c xs q.0 p q.3)

-- a text was not written whole, and nothing after it
pub written_before : (a b : Option (List ℕ)) (xs ys : List ℕ) → Written false a b xs → Written false a b (xs ++ ys)
written_before a b xs ys p = (p.0, p.1 ++ ys, ap (λ (t : List ℕ). t ++ ys) p.2 ∙ append_assoc p.0 p.1 ys, p.3)

-- of a text that was written whole or not, a part was written
pub written_part : (whole : Bool) (a b : Option (List ℕ)) (text : List ℕ) → Written whole a b text → Written false a b text
written_part true a b text p = (text, [], sym (append-nil text), p)
written_part false a b text p = p

-- ---- changes, one after another

state_after : (mirror : Mirror) (commands : List Command) → (after_changes mirror commands).wanted ≡ fold mirror.wanted commands
state_after mirror [] = refl
state_after mirror (command ∷ commands) = state_after (after_change mirror command) commands

mirror_both : (mirror : Mirror) (first second : List Command) → after_changes mirror (first ++ second) ≡ after_changes (after_changes mirror first) second
mirror_both mirror [] second = refl
mirror_both mirror (command ∷ first) second = mirror_both (after_change mirror command) first second

text_both : (mirror : Mirror) (first second : List Command) → steps_text mirror (first ++ second) ≡ steps_text mirror first ++ steps_text (after_changes mirror first) second
text_both mirror [] second = refl
text_both mirror (command ∷ first) second =
    ap (λ (t : List ℕ). step_text mirror command ++ t) (text_both (after_change mirror command) first second)
    ∙ sym (append_assoc (step_text mirror command) (steps_text (after_change mirror command) first) (steps_text (after_changes (after_change mirror command) first) second))

-- the commands of changes, and of those after them
commands_both : (first second : List Change) → commands_of (first ++ second) ≡ commands_of first ++ commands_of second
commands_both first second = map-append (λ change. change.command) first second

numbered_both : (number : ℕ) (first second : List Change) → AreNumbered number first → AreNumbered (number + length first) second → AreNumbered number (first ++ second)
numbered_both number [] second before after = let e : number + 0 ≡ number = omega arith in subst (λ n. AreNumbered n second) e after
numbered_both number (change ∷ first) second before after =
    let e : number + suc (length first) ≡ number + 1 + length first = omega arith in
    (before.0, numbered_both (number + 1) first second before.1 (subst (λ n. AreNumbered n second) e after))

-- no change yet
pub follows_none : (mirror : Mirror) (whole : Bool) (a : Option (List ℕ)) → whole ≡ true → Follows mirror mirror [] whole a a
follows_none mirror whole a is = record { numbered = tt; accepted = tt; mirror = refl; written = subst (λ (w : Bool). Written w a a []) (sym is) (Appends-nil a) }

-- one change
pub follows_one : (old new : Mirror) (change : Change) (whole : Bool) (a b : Option (List ℕ)) (text : List ℕ) → change.number ≡ old.wanted.count + 1 → refusal old.wanted change.command ≡ None → new ≡ after_change old change.command → text ≡ step_text old change.command
    → Written whole a b text → Follows old new (change ∷ []) whole a b
follows_one old new change whole a b text number allowed is said wrote = record {
  numbered = (number, tt);
  accepted = (allowed, tt);
  mirror = is;
  written = subst (Written whole a b) (said ∙ sym (append-nil (step_text old change.command))) wrote;
}

-- changes after changes
pub follows_both : (first between last : Mirror) (earlier later : List Change) (whole : Bool) (a b c : Option (List ℕ)) → Follows first between earlier true a b → Follows between last later whole b c → Follows first last (earlier ++ later) whole a c
follows_both first between last earlier later whole a b c before after =
    let ones = commands_of earlier in
    let others = commands_of later in
    let state : between.wanted ≡ fold first.wanted ones = ap (λ (m : Mirror). m.wanted) before.mirror ∙ state_after first ones in
    let number : between.wanted.count ≡ first.wanted.count + length earlier =
    ap (λ (s : State). s.count) state ∙ count_fold first.wanted ones before.accepted ∙ ap (λ n. first.wanted.count + n) (length-map earlier (λ change. change.command)) in
    let both : commands_of (earlier ++ later) ≡ ones ++ others = commands_both earlier later in
    let wrote : Written whole b c (steps_text (after_changes first ones) others) = subst (λ (m : Mirror). Written whole b c (steps_text m others)) before.mirror after.written in
    let all : Written whole a c (steps_text first (ones ++ others)) = subst (Written whole a c) (sym (text_both first ones others)) (written_then whole a b c (steps_text first ones) (steps_text (after_changes first ones) others) before.written wrote) in
    record {
      numbered = numbered_both first.wanted.count earlier later before.numbered (subst (λ n. AreNumbered n later) number after.numbered);
      accepted = subst (IsAccepted first.wanted) (sym both) (accepted_append first.wanted ones others before.accepted (subst (λ (s : State). IsAccepted s others) state after.accepted));
      mirror = after.mirror ∙ ap (λ (m : Mirror). after_changes m others) before.mirror ∙ sym (mirror_both first ones others) ∙ ap (after_changes first) (sym both);
      written = subst (λ (commands : List Command). Written whole a c (steps_text first commands)) (sym both) all;
    }

-- ---- changes that were read

pub read_none : (a : Option (List ℕ)) → AreRead a a []
read_none a = ([], refl, refl)

reported_more : (a b c : Option (List ℕ)) (reports : List (Option Change)) (told : Option Change) → AreReported a b reports → IsTold b c told → AreReported a c (reports ++ told ∷ [])
reported_more a b c [] told same is = (c, subst (λ (r : Option (List ℕ)). IsTold r c told) same is, refl)
reported_more a b c (first ∷ later) told all is = (all.0, all.1, reported_more all.0 b c later told all.2 is)

changes_more : (reports : List (Option Change)) (told : Option Change) → changes_in (reports ++ told ∷ []) ≡ changes_in reports ++ changes_in (told ∷ [])
changes_more [] told = refl
changes_more (None ∷ later) told = changes_more later told
changes_more (Some change ∷ later) told = ap (λ (cs : List Change). change ∷ cs) (changes_more later told)

-- one change more
pub read_change : (a b c : Option (List ℕ)) (changes : List Change) (change : Change) → AreRead a b changes → IsTold b c (Some change) → AreRead a c (changes ++ change ∷ [])
read_change a b c changes change read is = (read.0 ++ Some change ∷ [], reported_more a b c read.0 (Some change) read.1 is, ap (λ (cs : List Change). cs ++ change ∷ []) read.2 ∙ sym (changes_more read.0 (Some change)))

-- a comment
pub read_comment : (a b c : Option (List ℕ)) (changes : List Change) → AreRead a b changes → IsTold b c None → AreRead a c changes
read_comment a b c changes read is = (read.0 ++ None ∷ [], reported_more a b c read.0 None read.1 is, read.2 ∙ sym (append-nil (changes_in read.0)) ∙ sym (changes_more read.0 None))

-- the last of them was followed or not
pub last_followed : (a b c : Option (List ℕ)) (first between last : Mirror) (change : Change) (changes more : List Change) (whole : Bool) (w0 w1 w2 : Option (List ℕ)) → AreRead a b changes → IsTold b c (Some change)
    → Follows first between changes true w0 w1 → AreAtMost change more → Follows between last more whole w1 w2
    → (all : List Change) × (read : Option (List ℕ)) × AreRead a read all × Follows first last all whole w0 w2
last_followed a b c first between last change changes more whole w0 w1 w2 read is before (inl none) after =
    (changes, b, read, subst (λ (cs : List Change). Follows first last cs whole w0 w2) (ap (λ (cs : List Change). changes ++ cs) none ∙ append-nil changes) (follows_both first between last changes more whole w0 w1 w2 before after))
last_followed a b c first between last change changes more whole w0 w1 w2 read is before (inr one) after =
    (changes ++ change ∷ [], c, read_change a b c changes change read is, subst (λ (cs : List Change). Follows first last (changes ++ cs) whole w0 w2) one (follows_both first between last changes more whole w0 w1 w2 before after))
