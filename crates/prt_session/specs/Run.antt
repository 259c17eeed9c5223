-- What a run over a reader and a writer does: the session on what is read.
use Rattle.std.specs.Prelude.{◌≡◌, ◌≢◌, ℕ, ◌+◌, ◌⊎◌, Bool, false, List, [], ◌∷◌, ◌++◌, Option, Some, None, IfSome, fold, length}
use Rattle.std.specs.Io.KnownBytes.{Consumes, Appends, IsAtEnd}
use Rattle.prt_refusals.specs.declared.refusal.Refusal.{Refusal}
use Rattle.prt_refusals.specs.declared.refusal.Refusal.TheVariants.{WriteFault}
use Rattle.prt_replies.specs.ScriptEnd.{refused_after, fault_after}
use Rattle.prt_session.specs.Form.{replies_in, reply_in}
use Rattle.prt_replies.specs.Input.{Input, end_of_input, read_fault}
use Rattle.prt_session.specs.Session.{TurnsOf, Mishaps, Path, Session, session, replies}
use Rattle.prt_session.specs.declared.form.Form.{Form}
use Rattle.prt_session.specs.declared.form.Form.TheVariants.{Plain}
use Rattle.prt_replies.specs.declared.reply.Reply.{Reply}
use Rattle.prt_replies.specs.declared.reply.Reply.TheVariants.{Silent}
use Rattle.prt_refusals.specs.declared.on_refusal.OnRefusal.{OnRefusal}
use Rattle.prt_replies.specs.declared.script_end.ScriptEnd.{ScriptEnd}

-- whether a refusal that is no fault is among the replies, or had come before them
unfoldable pub refused_in : Bool → List Reply → Bool
refused_in had replies = fold refused_after had replies

-- the last fault among the replies, or the one before them
unfoldable pub fault_in : Option Refusal → List Reply → Option Refusal
fault_in last replies = fold fault_after last replies

-- The writer got all replies of the session, in this form, on all that the reader had, up to its fault if one came; what the
-- session leaves unread is still to be read.
pub record RanWhole {D M : Type 0} (form : Form) (input : Input) (session : Session D M) (reader0 reader writer0 writer : Option (List ℕ))
    (fault : Option Refusal) : Type 0 where
  pub beyond : List ℕ
  pub bytes_before : IfSome reader0 (λ bytes. bytes ≡ input.bytes ++ beyond)
  pub whole : input.ending ≡ end_of_input → beyond ≡ []
  pub bytes_left : IfSome reader0 (λ _. reader ≡ Some (session.unread ++ beyond))
  pub wrote : Appends writer0 writer (replies_in form (replies session))
  pub fault_is : fault ≡ fault_in None (replies session)

-- After a fault of the writer: of the last reply of the session on what was read a part was written, perhaps none or all of it.
-- The other session is the one in which the reader fails at that place.
pub record Cut {D M : Type 0} (form : Form) (input : Input) (session faulty : Session D M) (reader0 reader writer0 writer : Option (List ℕ))
    (fault : Option Refusal) : Type 0 where
  pub told : List Reply
  pub last : Reply
  pub part : List ℕ
  pub cut_off : List ℕ
  pub read : Consumes reader0 reader input.bytes
  pub all_read : session.unread ≡ []
  pub are : replies session ≡ told ++ last ∷ []
  -- the last reply is one that has to be written
  pub is_written : last ≢ Silent
  -- it was due by then: the input was at its end, or a fault of the reader there would not have changed it
  pub is_due : IsAtEnd reader ⊎ ((more : List Reply) × (replies faulty ≡ told ++ last ∷ more))
  pub last_text : reply_in form (length told + 1) last ≡ part ++ cut_off
  pub wrote : Appends writer0 writer (replies_in form told ++ part)
  pub fault_is : fault ≡ Some WriteFault

-- A run is the session on what was read, with its replies in this form. What befell each line may befall it. The run went on to
-- the session's end or was cut off by a fault of the writer.
pub record RunsIn {D M : Type 0} (form : Form) (turn : TurnsOf D M) (may : Mishaps D M) (mode : OnRefusal) (desk0 desk : D)
    (reader0 reader writer0 writer : Option (List ℕ)) (end : ScriptEnd) : Type 0 where
  pub input : Input
  pub mishaps : List (Option M)
  pub leaves : desk ≡ (session turn desk0 input mode mishaps).desk
  pub path : Path turn may desk0 (session turn desk0 input mode mishaps).exchanges desk
  pub refused_is : end.refused ≡ refused_in false (replies (session turn desk0 input mode mishaps))
  pub ended : RanWhole form input (session turn desk0 input mode mishaps) reader0 reader writer0 writer end.fault
      ⊎ Cut form input (session turn desk0 input mode mishaps)
      (session turn desk0 (record input { ending = read_fault }) mode mishaps) reader0 reader writer0 writer end.fault

-- a run whose replies are written as they are
abbrev pub RunIs : {D M : Type 0} → TurnsOf D M → Mishaps D M → OnRefusal → D → D → (reader0 reader writer0 writer : Option (List ℕ)) → ScriptEnd → Type 0
RunIs {D} {M} turn may mode desk0 desk reader0 reader writer0 writer end = RunsIn Plain turn may mode desk0 desk reader0 reader writer0 writer end
