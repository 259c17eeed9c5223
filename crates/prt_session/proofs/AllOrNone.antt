-- Of an atomic file all commands are made, or none.
use Rattle.std.proofs.Common.{◌≡◌, ◌⊎◌, ℕ, ◌≤◌, Bool, true, false, List, [], ◌∷◌, length, Option, Some, None, inl, inr, refl, sym, ap, ◌∙◌, subst, arith}
use Rattle.std.specs.Prelude.{find}
use Rattle.prt_refusals.specs.Refusal.{code_of}
use Rattle.prt_refusals.specs.declared.refusal.Refusal.{Refusal}
use Rattle.prt_refusals.specs.declared.refusal.Refusal.TheVariants.{NotPublished, StoreFailed}
use Rattle.prt_refusals.specs.declared.refusal.StoreCall.{StoreCall}
use Rattle.prt_command.specs.declared.request.Command.{Command}
use Rattle.prt_session.proofs.Collected.{collected_told, found, refused_or_fault}
use Rattle.prt_session.proofs.Submitted.{faultless_lines, unrefused_lines}
use Rattle.prt_session.specs.Atomic.{AllMade, NoneMade, Outcome, accepted_after, after_reading, atomic_output, collected, list_replies}
use Rattle.prt_session.specs.Desk.{DeskState, ListTurn, Mishap, commands_or_refusal, commit_kept, no_memory, no_room, publication_fails, store_fails}
use Rattle.prt_replies.specs.Reply.{is_refused}
use Rattle.prt_session.specs.Run.{fault_in, refused_in}
use Rattle.prt_replies.specs.Input.{Input}
use Rattle.prt_session.specs.Session.{replies}
use Rattle.prt_replies.specs.declared.reply.Reply.{Reply}
use Rattle.prt_replies.specs.declared.reply.Reply.TheVariants.{Refused}
use Rattle.prt_version.proofs.Folds.{accepted_all}
use Rattle.prt_version.specs.Accepted.{refusal_all}
use Rattle.prt_version.specs.Change.{refusal}

-- what comes of a list's turn
abbrev from_turn : DeskState → List Command → ListTurn → Outcome
from_turn desk commands turn = record { replies = list_replies desk commands turn.result; desk = turn.desk }

-- ---- the one refusal

no_refusal : (number count : ℕ) (reason : Refusal) → accepted_after number count ≡ Refused reason ∷ [] → ⊥
no_refusal number count reason e = refused_or_fault reason (ap (λ told. refused_in false told) (sym e) ∙ unrefused_lines number count) (ap (λ told. fault_in None told) (sym e) ∙ faultless_lines number count)

the_reason : (first second : Refusal) → Refused first ∷ [] ≡ Refused second ∷ [] → first ≡ second
the_reason first second e = cc

store_failed : (call : StoreCall) (reason : Refusal) → Refused (StoreFailed call) ∷ [] ≡ Refused reason ∷ [] → code_of reason ≤ 26 → ⊥
store_failed call reason e low = let h : 27 ≤ 26 = subst (λ r. code_of r ≤ 26) (sym (the_reason (StoreFailed call) reason e)) low in omega (arith, h)

not_published : (reason : Refusal) → Refused NotPublished ∷ [] ≡ Refused reason ∷ [] → code_of reason ≤ 26 → ⊥
not_published reason e low = let h : 28 ≤ 26 = subst (λ r. code_of r ≤ 26) (sym (the_reason NotPublished reason e)) low in omega (arith, h)

-- ---- a list

turn_made : (desk : DeskState) (command : Command) (more : List Command) (mishap : Option Mishap) (closed : Bool) (first : Option Refusal) → refusal_all desk.published (command ∷ more) ≡ first
    → AllMade desk (command ∷ more) (from_turn desk (command ∷ more) (commands_or_refusal desk (command ∷ more) closed first mishap)) ⊎ NoneMade desk (command ∷ more) (from_turn desk (command ∷ more) (commands_or_refusal desk (command ∷ more) closed first mishap))
turn_made desk command more mishap true first is = inr (_, refl, refl, inl refl)
turn_made desk command more None false (Some reason) is = inr (_, refl, refl, inl refl)
turn_made desk command more (Some no_room) false (Some reason) is = inr (_, refl, refl, inl refl)
turn_made desk command more (Some no_memory) false (Some reason) is = inr (_, refl, refl, inl refl)
turn_made desk command more (Some (store_fails call)) false (Some reason) is = inr (_, refl, refl, inl refl)
turn_made desk command more (Some commit_kept) false (Some reason) is = inr (_, refl, refl, inl refl)
turn_made desk command more (Some publication_fails) false (Some reason) is = inr (_, refl, refl, inl refl)
turn_made desk command more None false None is = inl (accepted_all desk.published (command ∷ more) is, refl, refl)
turn_made desk command more (Some no_room) false None is = inr (_, refl, refl, inl refl)
turn_made desk command more (Some no_memory) false None is = inr (_, refl, refl, inl refl)
turn_made desk command more (Some (store_fails call)) false None is = inr (_, refl, refl, inr (inl (call, refl, refl)))
turn_made desk command more (Some commit_kept) false None is = inr (_, refl, refl, inr (inr (inl refl, accepted_all desk.published (command ∷ more) is, refl)))
turn_made desk command more (Some publication_fails) false None is = inr (_, refl, refl, inr (inr (inr refl, accepted_all desk.published (command ∷ more) is, refl)))

turn_unchanged : (desk : DeskState) (commands : List Command) (mishap : Option Mishap) (closed : Bool) (first : Option Refusal) (reason : Refusal) → list_replies desk commands (commands_or_refusal desk commands closed first mishap).result ≡ Refused reason ∷ [] → code_of reason ≤ 26 → (commands_or_refusal desk commands closed first mishap).desk ≡ desk
turn_unchanged desk commands mishap true first reason e low = refl
turn_unchanged desk commands None false (Some _) reason e low = refl
turn_unchanged desk commands (Some no_room) false (Some _) reason e low = refl
turn_unchanged desk commands (Some no_memory) false (Some _) reason e low = refl
turn_unchanged desk commands (Some (store_fails call)) false (Some _) reason e low = refl
turn_unchanged desk commands (Some commit_kept) false (Some _) reason e low = refl
turn_unchanged desk commands (Some publication_fails) false (Some _) reason e low = refl
turn_unchanged desk commands None false None reason e low = absurd (no_refusal desk.published.count (length commands) reason e)
turn_unchanged desk commands (Some no_room) false None reason e low = refl
turn_unchanged desk commands (Some no_memory) false None reason e low = refl
turn_unchanged desk commands (Some (store_fails call)) false None reason e low = absurd (store_failed call reason e low)
turn_unchanged desk commands (Some commit_kept) false None reason e low = absurd (store_failed _ reason e low)
turn_unchanged desk commands (Some publication_fails) false None reason e low = absurd (not_published reason e low)

-- ---- a file

file_made : (desk : DeskState) (refusal : Option Reply) (commands : List Command) (mishap : Option Mishap) → (refusal ≡ None) ⊎ ((reason : Refusal) × (refusal ≡ Some (Refused reason))) → AllMade desk commands (after_reading desk refusal commands mishap) ⊎ NoneMade desk commands (after_reading desk refusal commands mishap)
file_made desk refusal commands mishap (inr refused) = rw refused.1 (inr (refused.0, refl, refl, inl refl))
file_made desk refusal [] mishap (inl none) = rw none (inl (tt, refl, refl))
file_made desk refusal (command ∷ commands) mishap (inl none) = rw none (turn_made desk command commands mishap desk.closed (refusal_all desk.published (command ∷ commands)) refl)

pub all_made_or_none : (desk : DeskState) (input : Input) (mishaps : List (Option Mishap)) (mishap : Option Mishap) → AllMade desk (collected input mishaps).desk (atomic_output desk input mishaps mishap) ⊎ NoneMade desk (collected input mishaps).desk (atomic_output desk input mishaps mishap)
all_made_or_none desk input mishaps mishap = file_made desk _ (collected input mishaps).desk mishap (found (replies (collected input mishaps)) (collected_told input mishaps))

file_unchanged : (desk : DeskState) (refusal : Option Reply) (commands : List Command) (mishap : Option Mishap) (reason : Refusal) → (after_reading desk refusal commands mishap).replies ≡ Refused reason ∷ [] → code_of reason ≤ 26 → (after_reading desk refusal commands mishap).desk ≡ desk
file_unchanged desk (Some reply) commands mishap reason e low = refl
file_unchanged desk None [] mishap reason e low = refl
file_unchanged desk None (command ∷ commands) mishap reason e low = turn_unchanged desk (command ∷ commands) mishap desk.closed (refusal_all desk.published (command ∷ commands)) reason e low

pub refused_unchanged : (desk : DeskState) (input : Input) (mishaps : List (Option Mishap)) (mishap : Option Mishap) (reason : Refusal) → (atomic_output desk input mishaps mishap).replies ≡ Refused reason ∷ [] → code_of reason ≤ 26 → (atomic_output desk input mishaps mishap).desk ≡ desk
refused_unchanged desk input mishaps mishap reason e low = file_unchanged desk (find is_refused (replies (collected input mishaps))) (collected input mishaps).desk mishap reason e low
