-- The receipts of commands that were published together.
use Rattle.std.proofs.Common.{◌≡◌, ℕ, zero, suc, ◌+◌, ◌-◌, ◌<◌, List, [], ◌∷◌, ◌++◌, ap, append_assoc, arith, get_or, length, length-append, subst, sym, take, ◌∙◌}
use Rattle.std.proofs.Common.{Ok, Err, Result}
use Rattle.std.specs.Prelude.{IfOk}
use Rattle.std.proofs.Math.Seq.{take-append-add}
use lib.Seq.{take-append_seam}
use Rattle.logbook.specs.Pages.{Book}
use Rattle.prt_refusals.specs.declared.refusal.Refusal.{Refusal}
use Rattle.prt_command.specs.declared.request.Command.{Command}
use Rattle.prt_published.specs.Line.{Line, grown_by}
use Rattle.prt_service.specs.Group.{answer_before}
use Rattle.prt_service.specs.Service.{AreAnswered, EndsWith, EndsWithAll, IsAnswer}
use Rattle.prt_version.specs.State.{State}

with_first : (before : List Command) (first : Command) (later : List Command) → before ++ first ∷ later ≡ (before ++ first ∷ []) ++ later
with_first before first later = sym (append_assoc before (first ∷ []) later)

-- of the commands that end a list, those after the first end it too
pub later_end : (list : List Command) (first : Command) (later : List Command) → EndsWithAll list (first ∷ later) → EndsWithAll list later
later_end list first later ends = (ends.0 ++ first ∷ [], ends.1 ∙ with_first ends.0 first later)

-- and the first ends the list without them
pub first_ends : (list : List Command) (first : Command) (later : List Command) (count : ℕ) → count ≡ length later → EndsWithAll list (first ∷ later) → EndsWith (take (length list - count) list) first
first_ends list first later count counted ends =
    let most : List Command = ends.0 ++ first ∷ [] in
    let is : list ≡ most ++ later = ends.1 ∙ with_first ends.0 first later in
    let long : length list - count ≡ length most = omega (arith, counted, ap length is, length-append most later) in
    (ends.0, rw (long, is) (take-append_seam most later))

-- the same of any of them
pub one_ends : (list commands : List Command) (index later : ℕ) (command : Command) → EndsWithAll list commands → later + index + 1 ≡ length commands → command ≡ get_or commands index command → EndsWith (take (length list - later) list) command
one_ends list [] index later command ends counted is = absurd (omega (arith, counted))
one_ends list (first ∷ rest) zero later command ends counted is = subst (λ (x : Command). EndsWith (take (length list - later) list) x) (sym is) (first_ends list first rest later (omega (arith, counted)) ends)
one_ends list (first ∷ rest) (suc index) later command ends counted is = one_ends list rest index later command (later_end list first rest ends) (omega (arith, counted)) is

-- fewer commands come after it than the list has
pub fewer_later : (list commands : List Command) (index later : ℕ) → EndsWithAll list commands → later + index + 1 ≡ length commands → later < length list
fewer_later list commands index later ends counted = omega (arith, counted, ap length ends.1, length-append ends.0 commands)

-- ---- each one's own answer

own_list : (list commands : List Command) (index later : ℕ) → index + later + 1 ≡ length commands → take (length (list ++ commands) - later) (list ++ commands) ≡ list ++ take (index + 1) commands
own_list list commands index later counted =
    let long : length (list ++ commands) - later ≡ length list + (index + 1) = omega (arith, counted, length-append list commands) in
    rw long (take-append-add list commands (index + 1))

pub own_answer : (before : Line) (commands : List Command) (index later : ℕ) (became : Result Line Refusal) → index + later + 1 ≡ length commands → became ≡ Ok (grown_by before commands) → answer_before became later ≡ Ok (grown_by before (take (index + 1) commands))
own_answer before commands index later became counted is =
    subst (λ (r : Result Line Refusal). answer_before r later ≡ Ok (grown_by before (take (index + 1) commands))) (sym is)
    (ap (λ (list : List Command). (let r : Result Line Refusal = Ok (record before { list = list }) in r)) (own_list before.list commands index later counted))

-- of commands that are answered, those after the first
pub later_answered : (book : Book) (base : State) (first : Command) (later : List Command) (became : Result Line Refusal) → AreAnswered book base (first ∷ later) became → AreAnswered book base later became
later_answered book base first later (Ok last) answered = ((answered.0.0, answered.0.1, later_end last.list first later answered.0.2), tt)
later_answered book base first later (Err reason) answered = answered

-- and the first
pub first_answered : (book : Book) (base : State) (first : Command) (later : List Command) (count : ℕ) (became : Result Line Refusal) → count ≡ length later → AreAnswered book base (first ∷ later) became → IsAnswer book base first (answer_before became count)
first_answered book base first later count (Ok last) counted answered = ((answered.0.0, answered.0.1, first_ends last.list first later count counted answered.0.2), tt)
first_answered book base first later count (Err reason) counted answered = answered

-- the receipt of all has more commands than come after the first
pub some_later : (book : Book) (base : State) (first : Command) (later : List Command) (count : ℕ) (became : Result Line Refusal) → count ≡ length later → AreAnswered book base (first ∷ later) became → IfOk became (λ last. count < length last.list)
some_later book base first later count (Ok last) counted answered = fewer_later last.list (first ∷ later) 0 count answered.0.2 (omega (arith, counted))
some_later book base first later count (Err reason) counted answered = tt
