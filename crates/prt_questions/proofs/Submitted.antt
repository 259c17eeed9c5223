-- Scripts that were read, and what a server replied to them.
use Rattle.std.proofs.Common.{◌≡◌, ◌≢◌, ◌⊎◌, ◌∙◌, ◌≤◌, ◌+◌, arith, zero, suc, ℕ, Bool, true, false, List, [], ◌∷◌, ◌++◌, Option, Some, None, IfSome, length, inl, inr, refl, sym, ap, subst}
use Rattle.std.specs.Prelude.{if◌then◌else◌}
use Rattle.std.specs.Io.KnownBytes.{Appends}
use Rattle.prt_addr.specs.Word.{Word}
use Rattle.prt_command.specs.declared.request.Command.{Command}
use Rattle.prt_program.specs.Program.{exit_status, status_by}
use Rattle.prt_refusals.specs.declared.refusal.Refusal.{Refusal}
use Rattle.prt_refusals.specs.declared.refusal.Refusal.TheVariants.{WriteFault}
use Rattle.prt_replies.proofs.Known.{appends_more}
use Rattle.prt_replies.specs.Reply.{replies_text}
use Rattle.prt_replies.specs.Written.{Written}
use Rattle.prt_replies.specs.declared.reply.Reply.{Reply}
use Rattle.prt_replies.specs.declared.reply.Reply.TheVariants.{Accepted, Refused}
use Rattle.prt_replies.specs.declared.script_end.ScriptEnd.{ScriptEnd}
use Rattle.prt_session.proofs.Collected.{refused_or_fault}
use Rattle.prt_session.proofs.Replies.{cons_not_nil}
use Rattle.prt_session.proofs.Submitted.{faultless_lines, unrefused_lines}
use Rattle.prt_session.specs.Atomic.{ReadIs, WroteReplies, accepted_after, alone}
use Rattle.prt_session.specs.Run.{fault_in, refused_in}
use Rattle.prt_session.specs.declared.atomic.CommandsRead.{CommandsRead}
use Rattle.prt_args.specs.declared.fault.TheConstants.{DONE}
use Rattle.prt_args.specs.declared.server_place.ServerPlace.{ServerPlace}
use Rattle.prt_questions.specs.Sources.{Gives, Sources}
use Rattle.prt_questions.specs.Submitting.{EndsWith, HasSubmitted, IsAllMade, IsAllTold, IsQuiet, IsReadOf, IsRefusal, IsReplied, IsScriptRead, IsSent, IsVerdictOf, fault_by, refused_by, submission_text}

-- ---- the reading

swapped : (bytes : Option (List ℕ)) (text : List ℕ) → IfSome bytes (λ all. all ≡ text) → IfSome bytes (λ all. text ≡ all)
swapped None text is = tt
swapped (Some all) text is = sym is

refusal_is : (refusal : Option Reply) → (refusal ≡ None) ⊎ ((reason : Refusal) × (refusal ≡ Some (Refused reason))) → IsRefusal refusal
refusal_is refusal (inl none) = rw none tt
refusal_is refusal (inr is) = rw is.1 (is.0, refl)

some_alone : (refusal : Option Reply) (reply : Reply) → refusal ≡ Some reply → alone refusal ≢ []
some_alone None reply is = absurd (cc)
some_alone (Some refused) reply is = λ e. cons_not_nil refused [] e

-- what was read of bytes that are those of the script
pub script_read : (gives : List ℕ → Type 0) (read : CommandsRead) (bytes reader writer0 writer : Option (List ℕ)) → ((text : List ℕ) → IfSome bytes (λ all. text ≡ all) → gives text)
    → ReadIs read.commands.items bytes reader writer0 writer read.end → IsReadOf gives writer0 writer read
script_read gives read bytes reader writer0 writer given is = (
  is.refusal,
  record {
    input = is.input;
    mishaps = is.mishaps;
    beyond = is.beyond;
    given = given (is.input.bytes ++ is.beyond) (swapped bytes (is.input.bytes ++ is.beyond) is.bytes_before);
    whole = is.whole;
    path = is.path;
    are = is.are;
    is_first = is.is_first;
  },
  refusal_is is.refusal is.is_refusal,
  (is.refused_is, elim is.wrote [ inl w ↦ inl w | inr w ↦ inr (w.1, w.2, some_alone is.refusal w.0 w.3, w.4, w.5, w.6) ]),
)

-- ---- the reply

pub many_of : (commands : List Command) → commands ≢ [] → 1 ≤ length commands
many_of [] some = absurd (some refl)
many_of (command ∷ commands) some = omega arith

one_at_end : (told : List Reply) (reply : Reply) → told ++ reply ∷ [] ≡ [] → ⊥
one_at_end [] reply e = cons_not_nil reply [] e
one_at_end (first ∷ told) reply e = cons_not_nil first (told ++ reply ∷ []) e

pub some_told : (count : ℕ) (refusal : Option Refusal) (told : List Reply) → 1 ≤ count → IsVerdictOf count refusal told → told ≢ []
some_told zero None told some is = absurd (omega arith)
some_told (suc count) None told some is = λ e. one_at_end (accepted_after is.0 count) (Accepted (is.0 + suc count)) (sym is.1 ∙ e)
some_told count (Some reason) told some is = λ e. cons_not_nil (Refused reason) [] (sym is ∙ e)

wrote_by : (told : List Reply) → told ≢ [] → (whole : Bool) (writer0 writer : Option (List ℕ)) (first fault : Option Refusal) → first ≡ fault_in None told → Written whole writer0 writer (replies_text told)
    → fault ≡ (if whole then first else Some WriteFault) → WroteReplies told writer0 writer fault
wrote_by told some true writer0 writer first fault faulty wrote is = inl (wrote, is ∙ faulty)
wrote_by told some false writer0 writer first fault faulty wrote is = inr (wrote.0, wrote.1, some, wrote.2, wrote.3, is)

-- how a run ends by a verdict
verdict_refused : (count : ℕ) (refusal : Option Refusal) (told : List Reply) → IsVerdictOf count refusal told → refused_by refusal ≡ refused_in false told
unfolding refused_in
verdict_refused count None told is = sym (unrefused_lines is.0 count) ∙ ap (refused_in false) (sym is.1)
verdict_refused count (Some reason) told is = ap (refused_in false) (sym is)

verdict_fault : (count : ℕ) (refusal : Option Refusal) (told : List Reply) → IsVerdictOf count refusal told → fault_by refusal ≡ fault_in None told
unfolding fault_in
verdict_fault count None told is = sym (faultless_lines is.0 count) ∙ ap (fault_in None) (sym is.1)
verdict_fault count (Some reason) told is = ap (fault_in None) (sym is)

pub verdict_ends : (count : ℕ) (refusal : Option Refusal) (told : List Reply) → told ≢ [] → IsVerdictOf count refusal told → (whole : Bool) (writer0 writer : Option (List ℕ)) (end : ScriptEnd)
    → Written whole writer0 writer (replies_text told) → end.refused ≡ refused_by refusal → end.fault ≡ (if whole then fault_by refusal else Some WriteFault) → EndsWith told writer0 writer end
verdict_ends count refusal told some is whole writer0 writer end wrote refused fault = (
  refused ∙ verdict_refused count refusal told is,
  wrote_by told some whole writer0 writer (fault_by refusal) end.fault (verdict_fault count refusal told is) wrote fault,
)

-- ---- both

-- a refusal is no quiet end
no_refusal : (reason : Refusal) (writer0 writer : Option (List ℕ)) (end : ScriptEnd) → EndsWith (Refused reason ∷ []) writer0 writer end → IsQuiet end → ⊥
no_refusal reason writer0 writer end ends quiet = elim ends.1 [
  | inl w ↦ refused_or_fault reason (sym ends.0 ∙ quiet.0) (sym w.1 ∙ quiet.1)
  | inr w ↦ absurd (let h = sym w.5 ∙ quiet.1 in cc)
]

-- a script that was read without a refusal ends quietly, and nothing was written
none_is_quiet : (writer0 writer : Option (List ℕ)) (end : ScriptEnd) → EndsWith [] writer0 writer end → IsQuiet end × Appends writer0 writer []
unfolding refused_in fault_in replies_text
none_is_quiet writer0 writer end ends = elim ends.1 [
  | inl w ↦ ((ends.0, w.1), w.0)
  | inr w ↦ absurd (w.2 refl)
]

module _ (from : Sources) (place : ServerPlace) (file : Option Word) where
  abbrev Replies : List ℕ → List ℕ → Type 0
  Replies = from.submits place

  replied_empty : (commands : List Command) → commands ≡ [] → IsReplied from place None commands []
  replied_empty [] none = refl
  replied_empty (command ∷ commands) none = absurd (cc)

  replied_some : (commands : List Command) (told : List Reply) → commands ≢ [] → Replies (submission_text commands) (replies_text told) → (refusal : Option Refusal) × IsVerdictOf (length commands) refusal told
      → IsReplied from place None commands told
  replied_some [] told some answers verdict = absurd (some refl)
  replied_some (command ∷ commands) told some answers verdict = (answers, verdict)

  not_sent : (read : CommandsRead) (refusal : Option Reply) (writer0 between : Option (List ℕ)) → IsRefusal refusal → EndsWith (alone refusal) writer0 between read.end → (IsQuiet read.end → read.commands.items ≡ [])
      → IsReplied from place refusal read.commands.items (alone refusal)
  not_sent read None writer0 between is ends none = replied_empty read.commands.items (none (none_is_quiet writer0 between read.end ends).0)
  not_sent read (Some reply) writer0 between is ends none = (refl, is)

  pub was_sent : (read : CommandsRead) (refusal : Option Reply) (writer0 between : Option (List ℕ)) → IsRefusal refusal → EndsWith (alone refusal) writer0 between read.end → IsQuiet read.end → (refusal ≡ None) × Appends writer0 between []
  was_sent read None writer0 between is ends quiet = (refl, (none_is_quiet writer0 between read.end ends).1)
  was_sent read (Some reply) writer0 between is ends quiet = absurd (no_refusal is.0 writer0 between read.end (subst (λ r. EndsWith (r ∷ []) writer0 between read.end) is.1 ends) quiet)

  wrote_both : (told : List Reply) (writer0 between writer : Option (List ℕ)) (fault : Option Refusal) → Appends writer0 between [] → WroteReplies told between writer fault → WroteReplies told writer0 writer fault
  wrote_both told writer0 between writer fault nothing wrote = elim wrote [
    | inl w ↦ inl (appends_more writer0 between writer [] _ nothing w.0, w.1)
    | inr w ↦ inr (w.0, w.1, w.2, w.3, appends_more writer0 between writer [] _ nothing w.4, w.5)
  ]

  -- a script that was read, and then sent
  pub submitted_is : (read : CommandsRead) (end : ScriptEnd) (writer0 between writer : Option (List ℕ)) (status : ℕ) → IsReadOf (Gives from file) writer0 between read → IsSent Replies read between writer end → status ≡ exit_status end
      → HasSubmitted from place file writer0 writer status
  submitted_is read end writer0 between writer status is (inl kept) is_status =
      let ends = is.3 in
      record {
        commands = read.commands.items;
        refusal = is.0;
        told = alone is.0;
        fault = read.end.fault;
        read = is.1;
        replied = not_sent read is.0 writer0 between is.2 ends kept.2;
        wrote = subst (λ w. WroteReplies (alone is.0) writer0 w read.end.fault) (sym kept.1) ends.1;
        status_is = is_status ∙ ap exit_status kept.0 ∙ ap (status_by read.end.fault) ends.0;
      }
  submitted_is read end writer0 between writer status is (inr sent) is_status =
      let none = was_sent read is.0 writer0 between is.2 is.3 sent.0 in
      let told = sent.2.0 in
      let ends = sent.2.3 in
      record {
        commands = read.commands.items;
        refusal = None;
        told = told;
        fault = end.fault;
        read = subst (IsScriptRead (Gives from file) read.commands.items) none.0 is.1;
        replied = replied_some read.commands.items told sent.1 sent.2.1 sent.2.2;
        wrote = wrote_both told writer0 between writer end.fault none.1 ends.1;
        status_is = is_status ∙ ap (status_by end.fault) ends.0;
      }

  zero_status : (fault : Option Refusal) (refused : Bool) → status_by fault refused ≡ 0 → (fault ≡ None) × (refused ≡ false)
  zero_status (Some reason) refused e = absurd (cc)
  zero_status None true e = absurd (cc)
  zero_status None false e = (refl, refl)

  -- a refusal is told with another status
  told_refusal : (reason : Refusal) (told : List Reply) (writer0 writer : Option (List ℕ)) (fault : Option Refusal) → told ≡ Refused reason ∷ [] → WroteReplies told writer0 writer fault → fault ≡ None → refused_in false told ≡ false → ⊥
  told_refusal reason told writer0 writer fault is wrote none quiet = elim wrote [
    | inl w ↦ refused_or_fault reason (ap (refused_in false) (sym is) ∙ quiet) (ap (fault_in None) (sym is) ∙ sym w.1 ∙ none)
    | inr w ↦ absurd (let h = sym w.5 ∙ none in cc)
  ]

  all_written : (told : List Reply) (writer0 writer : Option (List ℕ)) (fault : Option Refusal) → WroteReplies told writer0 writer fault → fault ≡ None → Appends writer0 writer (replies_text told)
  all_written told writer0 writer fault wrote none = elim wrote [
    | inl w ↦ w.0
    | inr w ↦ absurd (let h = sym w.5 ∙ none in cc)
  ]

  all_told : (command : Command) (commands : List Command) (told : List Reply) (writer0 writer : Option (List ℕ)) (fault : Option Refusal) → Replies (submission_text (command ∷ commands)) (replies_text told)
      → (refusal : Option Refusal) → IsVerdictOf (length (command ∷ commands)) refusal told → WroteReplies told writer0 writer fault → fault ≡ None → refused_in false told ≡ false → IsAllTold from place (command ∷ commands) writer0 writer
  all_told command commands told writer0 writer fault answers None is wrote none quiet = (
    is.0,
    subst (λ t. Replies (submission_text (command ∷ commands)) (replies_text t)) is.1 answers,
    subst (λ t. Appends writer0 writer (replies_text t)) is.1 (all_written told writer0 writer fault wrote none),
  )
  all_told command commands told writer0 writer fault answers (Some reason) is wrote none quiet = absurd (told_refusal reason told writer0 writer fault is wrote none quiet)

  made_by : (refusal : Option Reply) (commands : List Command) (told : List Reply) (writer0 writer : Option (List ℕ)) (fault : Option Refusal) → IsScriptRead (Gives from file) commands refusal → IsReplied from place refusal commands told
      → WroteReplies told writer0 writer fault → fault ≡ None → refused_in false told ≡ false → IsAllMade from place file writer0 writer
  unfolding replies_text
  made_by (Some reply) commands told writer0 writer fault read is wrote none quiet = absurd (told_refusal is.1.0 told writer0 writer fault (is.0 ∙ ap (λ r. r ∷ []) is.1.1) wrote none quiet)
  made_by None [] told writer0 writer fault read is wrote none quiet = ([], read, subst (λ t. Appends writer0 writer (replies_text t)) is (all_written told writer0 writer fault wrote none))
  made_by None (command ∷ commands) told writer0 writer fault read is wrote none quiet = (command ∷ commands, read, all_told command commands told writer0 writer fault is.0 is.1.0 is.1.1 wrote none quiet)

  -- what status 0 says
  pub all_made : (writer0 writer : Option (List ℕ)) (status : ℕ) → HasSubmitted from place file writer0 writer status → status ≡ DONE → IsAllMade from place file writer0 writer
  all_made writer0 writer status is done =
      let zero = zero_status is.fault (refused_in false is.told) (sym is.status_is ∙ done) in
      made_by is.refusal is.commands is.told writer0 writer is.fault is.read is.replied is.wrote zero.0 zero.1
