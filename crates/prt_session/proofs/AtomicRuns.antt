-- A run of an atomic file, put together from its reading and its submission.
use Rattle.std.proofs.Common.{Bool, is_some, length, arith, ◌≡◌, ◌≢◌, ℕ, true, false, List, [], ◌∷◌, ◌++◌, Option, Some, None, IfSome, inl, inr, refl, sym, ap, ◌∙◌, subst}
use Rattle.std.specs.Prelude.{find}
use Rattle.std.specs.Io.KnownBytes.{Appends}
use Rattle.prt_refusals.specs.declared.on_refusal.OnRefusal.TheVariants.{Stop}
use Rattle.prt_refusals.specs.declared.refusal.Refusal.{Refusal}
use Rattle.prt_refusals.specs.declared.refusal.Refusal.TheVariants.{WriteFault}
use Rattle.prt_command.specs.declared.request.Command.{Command}
use Rattle.prt_session.proofs.Collected.{IsReading, collected_alike, collected_told, found, its_refusal, refused_or_fault, says_alone}
use Rattle.prt_replies.proofs.Known.{Gives, appends_more, gives_all, gives_beyond, left_of}
use Rattle.prt_session.proofs.Replies.{cons_not_nil, one_text}
use Rattle.prt_session.specs.Atomic.{AtomicIs, CollectMay, Outcome, ReadIs, SubmittedIs, WroteReplies, after_reading, alone, collect_turn, collected, atomic_output, submitted}
use Rattle.prt_session.specs.Desk.{DeskState, Mishap}
use Rattle.prt_replies.specs.Reply.{is_refused, replies_text, reply_text}
use Rattle.prt_session.specs.Run.{Cut, RanWhole, RunIs, fault_in, refused_in}
use Rattle.prt_replies.specs.Input.{Input, end_of_input, read_fault}
use Rattle.prt_session.specs.Session.{Path, replies}
use Rattle.prt_session.specs.declared.form.Form.TheVariants.{Plain}
use Rattle.prt_replies.specs.declared.reply.Reply.{Reply}
use Rattle.prt_replies.specs.declared.reply.Reply.TheVariants.{Silent}
use Rattle.prt_replies.specs.declared.script_end.ScriptEnd.{ScriptEnd}

had_of : (a b : Option (List ℕ)) (more unread beyond : List ℕ) → Gives a b more unread beyond → IfSome a (λ xs. xs ≡ more ++ beyond)
had_of None b more unread beyond p = tt
had_of (Some a) b more unread beyond p = p.0

has_of : (a b : Option (List ℕ)) (more unread beyond : List ℕ) → Gives a b more unread beyond → IfSome a (λ _. b ≡ Some (unread ++ beyond))
has_of None b more unread beyond p = tt
has_of (Some a) b more unread beyond p = p.1

fault_is_no_end : (beyond : List ℕ) → read_fault ≡ end_of_input → beyond ≡ []
fault_is_no_end beyond e = absurd (cc)

module _ (commands : List Command) (reader0 reader writer0 writer : Option (List ℕ)) (end : ScriptEnd) where
  read_whole : (input : Input) (mishaps : List (Option Mishap)) → commands ≡ (collected input mishaps).desk → Path collect_turn CollectMay [] (collected input mishaps).exchanges (collected input mishaps).desk → end.refused ≡ refused_in false (replies (collected input mishaps)) → RanWhole Plain input (collected input mishaps) reader0 reader writer0 writer end.fault →
      ReadIs commands reader0 reader writer0 writer end
  read_whole input mishaps are path refused ran =
      let told = replies (collected input mishaps) in
      let is = collected_told input mishaps in
      let says = says_alone told is in
      record {
        input = input;
        mishaps = mishaps;
        refusal = find is_refused told;
        are = are;
        path = path;
        is_first = refl;
        is_refusal = found told is;
        beyond = ran.beyond;
        bytes_before = ran.bytes_before;
        whole = ran.whole;
        bytes_left = ran.bytes_left;
        refused_is = refused ∙ says.refused;
        wrote = inl (subst (Appends writer0 writer) says.text ran.wrote, ran.fault_is ∙ says.fault);
      }

  -- the refusal was cut off
  read_cut : (input : Input) (mishaps : List (Option Mishap)) → commands ≡ (collected input mishaps).desk → Path collect_turn CollectMay [] (collected input mishaps).exchanges (collected input mishaps).desk → end.refused ≡ refused_in false (replies (collected input mishaps)) →
      (told : List Reply) (reply : Reply) (part cut_off beyond : List ℕ) → replies (collected input mishaps) ≡ told ++ reply ∷ [] → reply ≢ Silent → reply_text reply ≡ part ++ cut_off → Appends writer0 writer (replies_text told ++ part) → end.fault ≡ Some WriteFault →
      IfSome reader0 (λ bytes. bytes ≡ input.bytes ++ beyond) → (input.ending ≡ end_of_input → beyond ≡ []) → IfSome reader0 (λ _. reader ≡ Some ((collected input mishaps).unread ++ beyond)) →
      ReadIs commands reader0 reader writer0 writer end
  read_cut input mishaps are path refused told reply part cut_off beyond e is_written text wrote fault before whole left =
      let all = replies (collected input mishaps) in
      let is = its_refusal told [] reply (subst IsReading e (collected_told input mishaps)) is_written in
      let first : find is_refused all ≡ Some reply = ap (λ rs. find is_refused rs) e ∙ is.is_found in
      record {
        input = input;
        mishaps = mishaps;
        refusal = find is_refused all;
        are = are;
        path = path;
        is_first = refl;
        is_refusal = found all (collected_told input mishaps);
        beyond = beyond;
        bytes_before = before;
        whole = whole;
        bytes_left = left;
        refused_is = refused ∙ (says_alone all (collected_told input mishaps)).refused;
        wrote = inr (reply, part, cut_off, first, ap (λ refusal. replies_text (alone refusal)) first ∙ one_text reply ∙ text, subst (λ before. Appends writer0 writer (before ++ part)) is.silent wrote, fault);
      }

  -- the reader was at its end, or would have had to fail
  read_cut_by : (input : Input) (mishaps : List (Option Mishap)) → commands ≡ (collected input mishaps).desk → Path collect_turn CollectMay [] (collected input mishaps).exchanges (collected input mishaps).desk → end.refused ≡ refused_in false (replies (collected input mishaps)) →
      Cut Plain input (collected input mishaps) (collected (record input { ending = read_fault }) mishaps) reader0 reader writer0 writer end.fault →
      ReadIs commands reader0 reader writer0 writer end
  read_cut_by input mishaps are path refused cut = elim cut.is_due [
    | inl at_end ↦
        let gives = gives_all reader0 reader input.bytes cut.read at_end in
        read_cut input mishaps are path refused cut.told cut.last cut.part cut.cut_off [] cut.are cut.is_written cut.last_text cut.wrote cut.fault_is
        (had_of reader0 reader input.bytes [] [] gives) (λ _. refl) (rw cut.all_read (has_of reader0 reader input.bytes [] [] gives))
    | inr due ↦
        let faulty : Input = record input { ending = read_fault } in
        let is = its_refusal cut.told due.0 cut.last (subst IsReading due.1 (collected_told faulty mishaps)) cut.is_written in
        let same : replies (collected faulty mishaps) ≡ cut.told ++ cut.last ∷ [] = due.1 ∙ ap (λ more. cut.told ++ cut.last ∷ more) is.none_after in
        let alike = collected_alike input mishaps (same ∙ sym cut.are) in
        let gives = gives_beyond reader0 reader input.bytes cut.read in
        read_cut faulty mishaps (are ∙ sym alike.same) (alike.path path) (refused ∙ ap (λ rs. refused_in false rs) (cut.are ∙ sym same)) cut.told cut.last cut.part cut.cut_off (left_of reader) same cut.is_written cut.last_text cut.wrote cut.fault_is
        (had_of reader0 reader input.bytes [] (left_of reader) gives) (fault_is_no_end (left_of reader)) (rw (alike.unread cut.all_read) (has_of reader0 reader input.bytes [] (left_of reader) gives))
  ]

  pub read_is : RunIs collect_turn CollectMay Stop [] commands reader0 reader writer0 writer end → ReadIs commands reader0 reader writer0 writer end
  read_is run =
      let path = subst (λ now. Path collect_turn CollectMay [] (collected run.input run.mishaps).exchanges now) run.leaves run.path in
      elim run.ended [
        | inl ran ↦ read_whole run.input run.mishaps run.leaves path run.refused_is ran
        | inr cut ↦ read_cut_by run.input run.mishaps run.leaves path run.refused_is cut
      ]

-- a reading without a refusal ends so
pub is_quiet : (commands : List Command) (reader0 reader writer0 writer : Option (List ℕ)) (end : ScriptEnd) (read : ReadIs commands reader0 reader writer0 writer end) → read.refusal ≡ None → (end.refused ≡ false) × (end.fault ≡ None)
unfolding refused_in fault_in
is_quiet commands reader0 reader writer0 writer end read none = (
  read.refused_is ∙ ap (λ o. refused_in false (alone o)) none,
  elim read.wrote [
    | inl w ↦ w.1 ∙ ap (λ o. fault_in None (alone o)) none
    | inr w ↦ absurd (let h = sym w.3 ∙ none in cc)
  ],
)

-- a run that ended otherwise has a refusal
pub refused_first : (refused : Bool) → refused ≡ true → refused ≡ false → ⊥
refused_first refused is not_it = absurd (let h = sym is ∙ not_it in cc)

pub faulty_first : (fault : Option Refusal) (test : Bool) → test ≡ is_some fault → test ≡ true → fault ≡ None → ⊥
faulty_first fault test is true_ none = absurd (let h : true ≡ false = sym true_ ∙ is ∙ ap (λ o. is_some o) none in cc)

-- a test of a fault that fails
pub no_fault_there : (fault : Option Refusal) (test : Bool) → test ≡ is_some fault → test ≡ false → fault ≡ None
no_fault_there None test is fails = refl
no_fault_there (Some reason) test is fails = absurd (let h : true ≡ false = sym is ∙ fails in cc)

pub empty_there : (commands : List Command) → length commands ≡ 0 → commands ≡ []
empty_there [] h = refl
empty_there (command ∷ commands) h = absurd (omega arith)

-- ---- the outcome

some_alone : (refusal : Option Reply) (reply : Reply) → refusal ≡ Some reply → alone refusal ≢ []
some_alone None reply is = absurd (cc)
some_alone (Some refused) reply is = λ e. cons_not_nil refused [] e

-- the refusal alone, if there is one, and the desk as it was
abbrev pub refused_alone : DeskState → Option Reply → Outcome
refused_alone desk refusal = record { replies = alone refusal; desk = desk }

nothing_submitted : (desk : DeskState) (refusal : Option Reply) (commands : List Command) → (refusal ≡ None → commands ≡ []) → after_reading desk refusal commands None ≡ refused_alone desk refusal
nothing_submitted desk (Some reply) commands none = refl
nothing_submitted desk None commands none = rw (none refl) refl

module _ (may : Mishap → Type 0) (commands : List Command) (reader0 reader writer0 : Option (List ℕ)) where
  -- a run in which nothing is submitted
  pub only_read : (desk : DeskState) (writer : Option (List ℕ)) (end : ScriptEnd) (read : ReadIs commands reader0 reader writer0 writer end) → (read.refusal ≡ None → commands ≡ []) → AtomicIs may desk desk reader0 reader writer0 writer end
  only_read desk writer end read none =
      let is : atomic_output desk read.input read.mishaps None ≡ refused_alone desk read.refusal =
      ap (λ refusal. after_reading desk refusal (collected read.input read.mishaps).desk None) (sym read.is_first)
      ∙ ap (λ cs. after_reading desk read.refusal cs None) (sym read.are)
      ∙ nothing_submitted desk read.refusal commands none in
      record {
        input = read.input;
        mishaps = read.mishaps;
        mishap = None;
        path = read.path;
        befalls = tt;
        leaves = ap (λ (o : Outcome). o.desk) (sym is);
        beyond = read.beyond;
        bytes_before = read.bytes_before;
        whole = read.whole;
        bytes_left = read.bytes_left;
        refused_is = read.refused_is ∙ ap (λ (o : Outcome). refused_in false o.replies) (sym is);
        wrote = subst (λ (o : Outcome). WroteReplies o.replies writer0 writer end.fault) (sym is) (elim read.wrote [ inl w ↦ inl w | inr w ↦ inr (w.1, w.2, some_alone read.refusal w.0 w.3, w.4, w.5, w.6) ]);
      }

  -- a reading without a refusal
  pub unrefused : (between : Option (List ℕ)) (end : ScriptEnd) (read : ReadIs commands reader0 reader writer0 between end) → end.refused ≡ false → end.fault ≡ None → read.refusal ≡ None
  unrefused between end read refused fault = elim read.is_refusal [
    | inl none ↦ none
    | inr r ↦ elim read.wrote [
      | inl w ↦ absurd (refused_or_fault r.0 (ap (λ o. refused_in false (alone o)) (sym r.1) ∙ sym read.refused_is ∙ refused) (ap (λ o. fault_in None (alone o)) (sym r.1) ∙ sym w.1 ∙ fault))
      | inr w ↦ absurd (let h = sym w.6 ∙ fault in cc)
    ]
  ]

  wrote_nothing : (between : Option (List ℕ)) (end : ScriptEnd) (read : ReadIs commands reader0 reader writer0 between end) → read.refusal ≡ None → Appends writer0 between []
  unfolding replies_text
  wrote_nothing between end read none = elim read.wrote [
    | inl w ↦ subst (λ o. Appends writer0 between (replies_text (alone o))) none w.0
    | inr w ↦ absurd (let h = sym w.3 ∙ none in cc)
  ]

  -- a run whose list is submitted
  pub read_and_submitted : (desk0 desk : DeskState) (between writer : Option (List ℕ)) (end0 end : ScriptEnd) → ReadIs commands reader0 reader writer0 between end0 → end0.refused ≡ false → end0.fault ≡ None → SubmittedIs may desk0 desk commands between writer end → AtomicIs may desk0 desk reader0 reader writer0 writer end
  read_and_submitted desk0 desk between writer end0 end read refused fault list =
      let none = unrefused between end0 read refused fault in
      let nothing = wrote_nothing between end0 read none in
      let is : atomic_output desk0 read.input read.mishaps list.mishap ≡ submitted desk0 commands list.mishap =
      ap (λ refusal. after_reading desk0 refusal (collected read.input read.mishaps).desk list.mishap) (sym read.is_first ∙ none)
      ∙ ap (λ cs. submitted desk0 cs list.mishap) (sym read.are) in
      record {
        input = read.input;
        mishaps = read.mishaps;
        mishap = list.mishap;
        path = read.path;
        befalls = list.befalls;
        leaves = list.leaves ∙ ap (λ (o : Outcome). o.desk) (sym is);
        beyond = read.beyond;
        bytes_before = read.bytes_before;
        whole = read.whole;
        bytes_left = read.bytes_left;
        refused_is = list.refused_is ∙ ap (λ (o : Outcome). refused_in false o.replies) (sym is);
        wrote = subst (λ (o : Outcome). WroteReplies o.replies writer0 writer end.fault) (sym is) (elim list.wrote [
          | inl w ↦ inl (appends_more writer0 between writer [] _ nothing w.0, w.1)
          | inr w ↦ inr (w.0, w.1, w.2, w.3, appends_more writer0 between writer [] _ nothing w.4, w.5)
        ]);
      }
