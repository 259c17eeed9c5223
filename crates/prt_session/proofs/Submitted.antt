-- The submission of a list: the numbers of its commands, and the lines that are written.
use Rattle.std.proofs.Common.{◌≢◌, ◌≡◌, ℕ, zero, suc, ◌+◌, ◌-◌, ◌≤◌, ◌<◌, true, false, Bool, List, [], ◌∷◌, ◌++◌, length, Option, Some, None, Ok, Err, inl, inr, refl, sym, ap, ◌∙◌, subst, arith, append_assoc}
use Rattle.std.specs.Prelude.{if◌then◌else◌}
use Rattle.std.specs.Io.KnownBytes.{Appends}
use Rattle.prt_refusals.specs.declared.refusal.Refusal.{Refusal}
use Rattle.prt_refusals.specs.declared.refusal.Refusal.TheVariants.{NoMemory, WriteFault}
use Rattle.prt_command.specs.declared.request.Command.{Command}
use Rattle.prt_replies.proofs.Known.{append_none, appends_more}
use Rattle.prt_session.proofs.Replies.{cons_not_nil, fault_append, one_text, refused_append, text_append}
use Rattle.prt_session.specs.Atomic.{SubmittedIs, WroteReplies, accepted_after, list_replies, submitted}
use Rattle.prt_session.specs.Desk.{DeskState, IsNoMemory, Mishap, commands_or_refusal, commands_turn, commit_kept, no_memory, no_room, publication_fails, refuse_all, settled, store_fails}
use Rattle.prt_replies.specs.Reply.{replies_text, reply_text}
use Rattle.prt_replies.specs.ScriptEnd.{fault_after, refused_after}
use Rattle.prt_session.specs.Run.{fault_in, refused_in}
use Rattle.prt_replies.specs.Written.{Written}
use Rattle.prt_session.specs.Steps.{CommandsGive, EndsWith}
use Rattle.prt_session.specs.declared.form.Form.TheVariants.{Plain}
use Rattle.prt_replies.specs.declared.reply.Reply.{Reply}
use Rattle.prt_replies.specs.declared.reply.Reply.TheVariants.{Accepted, Refused}
use Rattle.prt_replies.specs.declared.script_end.ScriptEnd.{ScriptEnd}
use Rattle.prt_version.proofs.Folds.{accepted_all, count_fold, none_refused}
use Rattle.prt_version.specs.Accepted.{IsAccepted, IsRefusedFor, refusal_all}
use Rattle.prt_version.specs.Change.{fold}
use Rattle.prt_version.specs.State.{State}

-- ---- the numbers of commands that are accepted

refused_list : (desk : DeskState) (reason : Refusal) (mishap : Option Mishap) (last : ℕ) → Ok last ≡ (refuse_all desk reason mishap).result → ⊥
refused_list desk reason None last e = absurd (cc)
refused_list desk reason (Some no_room) last e = absurd (cc)
refused_list desk reason (Some no_memory) last e = absurd (cc)
refused_list desk reason (Some (store_fails call)) last e = absurd (cc)
refused_list desk reason (Some commit_kept) last e = absurd (cc)
refused_list desk reason (Some publication_fails) last e = absurd (cc)

last_by : (desk : DeskState) (commands : List Command) (mishap : Option Mishap) (last : ℕ) (closed : Bool) (reason : Option Refusal) → refusal_all desk.published commands ≡ reason → Ok last ≡ (commands_or_refusal desk commands closed reason mishap).result → last ≡ desk.published.count + length commands
last_by desk commands mishap last true reason is e = absurd (cc)
last_by desk commands mishap last false (Some reason) is e = absurd (refused_list desk reason mishap last e)
last_by desk commands None last false None is e = let h : last ≡ (fold desk.published commands).count = cc in h ∙ count_fold desk.published commands (accepted_all desk.published commands is)
last_by desk commands (Some no_room) last false None is e = absurd (cc)
last_by desk commands (Some no_memory) last false None is e = absurd (cc)
last_by desk commands (Some (store_fails call)) last false None is e = absurd (cc)
last_by desk commands (Some commit_kept) last false None is e = absurd (cc)
last_by desk commands (Some publication_fails) last false None is e = absurd (cc)

-- the number of the last command
pub last_number : (desk : DeskState) (commands : List Command) (mishap : Option Mishap) (last : ℕ) → Ok last ≡ (commands_turn desk commands mishap).result → last ≡ desk.published.count + length commands
last_number desk commands mishap last e = last_by desk commands mishap last desk.closed (refusal_all desk.published commands) refl e

-- ---- the lines

pub unrefused_lines : (number count : ℕ) → refused_in false (accepted_after number count) ≡ false
unfolding refused_in
unrefused_lines number zero = refl
unrefused_lines number (suc count) = refused_append (accepted_after number count) (Accepted (number + suc count) ∷ []) false ∙ ap (λ had. refused_in had (Accepted (number + suc count) ∷ [])) (unrefused_lines number count)

pub faultless_lines : (number count : ℕ) → fault_in None (accepted_after number count) ≡ None
unfolding fault_in
faultless_lines number zero = refl
faultless_lines number (suc count) = fault_append (accepted_after number count) (Accepted (number + suc count) ∷ []) None ∙ ap (λ last. fault_in last (Accepted (number + suc count) ∷ [])) (faultless_lines number count)

pub one_more_line : (number count : ℕ) → replies_text (accepted_after number (count + 1)) ≡ replies_text (accepted_after number count) ++ reply_text (Accepted (number + count + 1))
one_more_line number count =
    let next : count + 1 ≡ suc count = omega arith in
    let same : number + suc count ≡ number + count + 1 = omega arith in
    rw next (text_append (accepted_after number count) (Accepted (number + suc count) ∷ []) ∙ ap (λ text. replies_text (accepted_after number count) ++ text) (one_text (Accepted (number + suc count))) ∙ ap (λ n. replies_text (accepted_after number count) ++ reply_text (Accepted n)) same)

grow : (number count : ℕ) (more : ℕ) → (rest : List ℕ) × (replies_text (accepted_after number (count + more)) ≡ replies_text (accepted_after number count) ++ rest)
grow number count zero = let none : count + 0 ≡ count = omega arith in ([], rw none (sym (append_none (replies_text (accepted_after number count)))))
grow number count (suc more) =
    let next : count + suc more ≡ count + more + 1 = omega arith in
    let before = grow number count more in
    let line = reply_text (Accepted (number + (count + more) + 1)) in
    (before.0 ++ line, rw next (one_more_line number (count + more) ∙ ap (λ text. text ++ line) before.1 ∙ append_assoc (replies_text (accepted_after number count)) before.0 line))

-- the first lines are at the front
pub lines_begin : (number count all : ℕ) → count ≤ all → (rest : List ℕ) × (replies_text (accepted_after number all) ≡ replies_text (accepted_after number count) ++ rest)
lines_begin number count all h =
    let e : count + (all - count) ≡ all = omega arith in
    subst (λ n. (rest : List ℕ) × (replies_text (accepted_after number n) ≡ replies_text (accepted_after number count) ++ rest)) e (grow number count (all - count))

regroup : (a b c d : List ℕ) → (a ++ (b ++ c)) ++ d ≡ (a ++ b) ++ (c ++ d)
regroup a b c d = ap (λ front. front ++ d) (sym (append_assoc a b c)) ∙ append_assoc (a ++ b) c d

-- the line after these was cut off
pub lines_cut : (number count all : ℕ) (writer0 writer1 writer2 : Option (List ℕ)) → count < all → Appends writer0 writer1 (replies_text (accepted_after number count)) → Written false writer1 writer2 (reply_text (Accepted (number + count + 1))) → Written false writer0 writer2 (replies_text (accepted_after number all))
lines_cut number count all writer0 writer1 writer2 h wrote cut =
    let front = replies_text (accepted_after number count) in
    let rest = lines_begin number (count + 1) all (omega (arith, h)) in
    let line = one_more_line number count ∙ ap (λ text. front ++ text) cut.2 in
    (front ++ cut.0, cut.1 ++ rest.0, rest.1 ∙ ap (λ text. text ++ rest.0) line ∙ regroup front cut.0 cut.1 rest.0, appends_more writer0 writer1 writer2 front cut.0 wrote cut.3)

-- ---- what comes of a list

submitted_is : (desk : DeskState) (commands : List Command) (mishap : Option Mishap) → 1 ≤ length commands →
    ((submitted desk commands mishap).replies ≡ list_replies desk commands (commands_turn desk commands mishap).result) × ((submitted desk commands mishap).desk ≡ (commands_turn desk commands mishap).desk)
submitted_is desk [] mishap h = absurd (omega arith)
submitted_is desk (command ∷ commands) mishap h = (refl, refl)

refused_ends : (reason : Refusal) (writer0 writer : Option (List ℕ)) (end0 end : ScriptEnd) → end0.refused ≡ false → EndsWith Plain 0 (Refused reason) writer0 writer end0 end → end.refused ≡ refused_in false (Refused reason ∷ [])
unfolding refused_in
refused_ends reason writer0 writer end0 end had ends = ends.refused_is ∙ ap (λ before. refused_after before (Refused reason)) had

refused_wrote : (reason : Refusal) (writer0 writer : Option (List ℕ)) (last : Option Refusal) (fault : Option Refusal) → last ≡ None → (whole : Bool) → Written whole writer0 writer (reply_text (Refused reason)) → fault ≡ (if whole then fault_after last (Refused reason) else Some WriteFault) → WroteReplies (Refused reason ∷ []) writer0 writer fault
unfolding fault_in
refused_wrote reason writer0 writer last fault had true wrote is = inl (rw (one_text (Refused reason)) wrote, is ∙ ap (λ before. fault_after before (Refused reason)) had)
refused_wrote reason writer0 writer last fault had false wrote is = inr (wrote.0, wrote.1, cons_not_nil (Refused reason) [], one_text (Refused reason) ∙ wrote.2, wrote.3, is)

one_at_end : (told : List Reply) (reply : Reply) → told ++ reply ∷ [] ≡ [] → ⊥
one_at_end [] reply e = cons_not_nil reply [] e
one_at_end (first ∷ told) reply e = cons_not_nil first (told ++ reply ∷ []) e

some_lines : (number count : ℕ) → 1 ≤ count → accepted_after number count ≢ []
some_lines number zero h = absurd (omega arith)
some_lines number (suc count) h = λ e. one_at_end (accepted_after number count) (Accepted (number + suc count)) e

lines_wrote : (number count : ℕ) → 1 ≤ count → (whole : Bool) (writer0 writer : Option (List ℕ)) (fault : Option Refusal) → Written whole writer0 writer (replies_text (accepted_after number count)) → fault ≡ (if whole then None else Some WriteFault) → WroteReplies (accepted_after number count) writer0 writer fault
lines_wrote number count some true writer0 writer fault wrote is = inl (wrote, is ∙ sym (faultless_lines number count))
lines_wrote number count some false writer0 writer fault wrote is = inr (wrote.0, wrote.1, some_lines number count some, wrote.2, wrote.3, is)

-- the list is refused
pub list_refused : (may : Mishap → Type 0) (desk0 desk : DeskState) (commands : List Command) (reason : Refusal) (writer0 writer : Option (List ℕ)) (end0 end : ScriptEnd) → 1 ≤ length commands → end0.refused ≡ false → end0.fault ≡ None → CommandsGive may desk0 commands (Err reason) desk → EndsWith Plain 0 (Refused reason) writer0 writer end0 end →
    SubmittedIs may desk0 desk commands writer0 writer end
list_refused may desk0 desk commands reason writer0 writer end0 end some had last gives ends =
    let is = submitted_is desk0 commands gives.0 some in
    let told : (submitted desk0 commands gives.0).replies ≡ Refused reason ∷ [] = is.0 ∙ ap (λ result. list_replies desk0 commands result) (sym gives.2) in
    record {
      mishap = gives.0;
      befalls = gives.1;
      leaves = gives.3 ∙ sym is.1;
      refused_is = rw told (refused_ends reason writer0 writer end0 end had ends);
      wrote = rw told (refused_wrote reason writer0 writer end0.fault end.fault last ends.whole ends.wrote ends.fault_is);
    }

-- the list is made, and its lines are written or not
pub list_accepted : (may : Mishap → Type 0) (desk0 desk : DeskState) (commands : List Command) (last before : ℕ) (whole : Bool) (writer0 writer : Option (List ℕ)) (end : ScriptEnd) → 1 ≤ length commands → before ≡ last - length commands → CommandsGive may desk0 commands (Ok last) desk →
    Written whole writer0 writer (replies_text (accepted_after before (length commands))) → end.refused ≡ false → end.fault ≡ (if whole then None else Some WriteFault) →
    SubmittedIs may desk0 desk commands writer0 writer end
list_accepted may desk0 desk commands last before whole writer0 writer end some is_before gives wrote refused fault =
    let is = submitted_is desk0 commands gives.0 some in
    let numbered = last_number desk0 commands gives.0 last gives.2 in
    let first : before ≡ desk0.published.count = omega (arith, is_before, numbered) in
    let told : (submitted desk0 commands gives.0).replies ≡ accepted_after desk0.published.count (length commands) = is.0 ∙ ap (λ result. list_replies desk0 commands result) (sym gives.2) in
    record {
      mishap = gives.0;
      befalls = gives.1;
      leaves = gives.3 ∙ sym is.1;
      refused_is = rw told (refused ∙ sym (unrefused_lines desk0.published.count (length commands)));
      wrote = rw told (lines_wrote desk0.published.count (length commands) some whole writer0 writer end.fault (rw first at wrote) fault);
    }

-- ---- the plain desk

list_without_memory : (state : State) (commands : List Command) (reason : Refusal) (first : Option Refusal) → refusal_all state commands ≡ first → reason ≡ NoMemory → CommandsGive IsNoMemory (settled state) commands (Err reason) (settled state)
list_without_memory state commands reason None is e = (Some no_memory, refl, rw (is, e) refl, rw is refl)
list_without_memory state commands reason (Some first) is e = (Some no_memory, refl, rw (is, e) refl, rw is refl)

-- a list that is refused, or has no memory
pub list_not_made : (state : State) (commands : List Command) (reason : Refusal) → IsRefusedFor state commands reason → CommandsGive IsNoMemory (settled state) commands (Err reason) (settled state)
list_not_made state commands reason (inl e) = (None, tt, ap (λ r. (commands_or_refusal (settled state) commands false r None).result) (sym e), ap (λ r. (commands_or_refusal (settled state) commands false r None).desk) (sym e))
list_not_made state commands reason (inr e) = list_without_memory state commands reason (refusal_all state commands) refl e

-- a list that is made
pub list_made : (state next : State) (commands : List Command) → IsAccepted state commands → next ≡ fold state commands → CommandsGive IsNoMemory (settled state) commands (Ok next.count) (settled next)
list_made state next commands accepted is = (
  None,
  tt,
  rw is (ap (λ r. (commands_or_refusal (settled state) commands false r None).result) (sym (none_refused state commands accepted))),
  rw is (ap (λ r. (commands_or_refusal (settled state) commands false r None).desk) (sym (none_refused state commands accepted))),
)
