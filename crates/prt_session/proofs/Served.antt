-- What a run keeps from line to line, and what follows of the whole run when it ends.
use Rattle.std.proofs.Common.{◌≡◌, ◌≢◌, ◌⊎◌, inl, inr, ℕ, ◌+◌, Bool, false, List, [], ◌∷◌, ◌++◌, Option, Some, None, length, refl, sym, ◌∙◌, ap, arith}
use Rattle.std.proofs.lemmas.List.{append-nil}
use Rattle.std.specs.Io.KnownBytes.{Consumes, Appends, IsAtEnd}
use Rattle.prt_refusals.specs.declared.refusal.Refusal.{Refusal}
use Rattle.prt_refusals.specs.declared.refusal.Refusal.TheVariants.{WriteFault}
use Rattle.prt_command.specs.Lines.{limits, lines_of}
use Rattle.prt_replies.proofs.Known.{Gives, gives_had, gives_has, gives_all, consumes_more, consumes_nothing, appends_more}
use Rattle.prt_session.proofs.Paths.{mishaps_of, path_append}
use Rattle.prt_session.proofs.Replies.{after_exchanges, replies_after, refused_append, fault_append, one_more_in, one_refused, one_fault, no_text, no_refused, no_fault}
use Rattle.prt_session.specs.Form.{replies_in, reply_in}
use Rattle.prt_replies.specs.ScriptEnd.{refused_after, fault_after}
use Rattle.prt_session.specs.Run.{RunsIn, refused_in, fault_in}
use Rattle.prt_replies.specs.Input.{Ending, end_of_input, read_fault}
use Rattle.prt_session.specs.Session.{TurnsOf, Mishaps, Exchange, Path, Session, session, session_lines, replies, replies_of}
use Rattle.prt_replies.specs.Written.{Written}
use Rattle.prt_session.specs.declared.form.Form.{Form}
use Rattle.prt_replies.specs.declared.reply.Reply.{Reply}
use Rattle.prt_replies.specs.declared.reply.Reply.TheVariants.{Silent}
use Rattle.prt_refusals.specs.declared.on_refusal.OnRefusal.{OnRefusal}
use Rattle.prt_replies.specs.declared.script_end.ScriptEnd.{ScriptEnd}

-- A moment of a run: the desk, and what the reader has left and the writer holds, if that is known.
pub record Moment (D : Type 0) : Type 0 where
  pub desk : D
  pub reader : Option (List ℕ)
  pub writer : Option (List ℕ)

abbrev pub moment : {D : Type 0} → D → Option (List ℕ) → Option (List ℕ) → Moment D
moment {D} desk reader writer = record { desk = desk; reader = reader; writer = writer }

-- After these bytes and exchanges the session goes on from this desk, whatever comes.
pub record GoesOn {D M : Type 0} (turn : TurnsOf D M) (mode : OnRefusal) (desk0 desk : D) (bytes : List ℕ) (exchanges : List (Exchange M)) (left : ℕ) : Type 0 where
  pub law : (ending : Ending) (rest : List ℕ) (later : List (Option M)) →
      session_lines turn limits mode ending limits.lines (lines_of (bytes ++ rest)) (mishaps_of exchanges ++ later) desk0 ≡ after_exchanges exchanges (session_lines turn limits mode ending left (lines_of rest) later desk)

-- From the start up to now whole lines were read and replied to, and the session goes on.
pub record Served {D M : Type 0} (form : Form) (turn : TurnsOf D M) (may : Mishaps D M) (mode : OnRefusal) (start now : Moment D) (left : ℕ) (end : ScriptEnd) : Type 0 where
  pub bytes : List ℕ
  pub exchanges : List (Exchange M)
  pub read : Consumes start.reader now.reader bytes
  pub wrote : Appends start.writer now.writer (replies_in form (replies_of exchanges))
  pub counted : length (replies_of exchanges) + left ≡ limits.lines
  pub goes_on : GoesOn turn mode start.desk now.desk bytes exchanges left
  pub path : Path turn may start.desk exchanges now.desk
  pub refused_is : end.refused ≡ refused_in false (replies_of exchanges)
  pub fault_is : end.fault ≡ fault_in None (replies_of exchanges)

-- The session on what is read last, and on what comes after it, yields these replies and ends.
pub record Closes {D M : Type 0} (turn : TurnsOf D M) (may : Mishaps D M) (mode : OnRefusal) (left : ℕ) (now later : Moment D) (told : List Reply) : Type 0 where
  pub more : List ℕ
  pub ending : Ending
  pub exchanges : List (Exchange M)
  pub last : List Reply
  pub unread : List ℕ
  pub beyond : List ℕ
  pub law : session_lines turn limits mode ending left (lines_of more) (mishaps_of exchanges) now.desk ≡ record { exchanges = exchanges; last = last; desk = later.desk; unread = unread }
  pub are : replies_of exchanges ++ last ≡ told
  pub path : Path turn may now.desk exchanges later.desk
  pub gives : Gives now.reader later.reader more unread beyond
  pub whole : ending ≡ end_of_input → beyond ≡ []

-- The reader is at its end, or had it failed there the reply would be the same.
abbrev pub IsDue : {D M : Type 0} → TurnsOf D M → OnRefusal → ℕ → Moment D → Moment D → List ℕ → List (Exchange M) → Reply → Type 0
IsDue {D} {M} turn mode left now later more exchanges reply =
    IsAtEnd later.reader ⊎ ((rest : List Reply) × (replies (session_lines turn limits mode read_fault left (lines_of more) (mishaps_of exchanges) now.desk) ≡ reply ∷ rest))

-- The session on no more than what is read last yields this reply and ends.
pub record ClosesAlone {D M : Type 0} (turn : TurnsOf D M) (may : Mishaps D M) (mode : OnRefusal) (left : ℕ) (now later : Moment D) (reply : Reply) : Type 0 where
  pub more : List ℕ
  pub ending : Ending
  pub exchanges : List (Exchange M)
  pub last : List Reply
  pub law : session_lines turn limits mode ending left (lines_of more) (mishaps_of exchanges) now.desk ≡ record { exchanges = exchanges; last = last; desk = later.desk; unread = [] }
  pub are : replies_of exchanges ++ last ≡ reply ∷ []
  pub path : Path turn may now.desk exchanges later.desk
  pub is_due : IsDue turn mode left now later more exchanges reply
  pub read : Consumes now.reader later.reader more

-- nothing is read yet
pub served_at_first : {D M : Type 0} (form : Form) (turn : TurnsOf D M) (may : Mishaps D M) (mode : OnRefusal) (start : Moment D) → Served form turn may mode start start limits.lines (record { refused = false; fault = None })
served_at_first {D} {M} form turn may mode start = record {
  bytes = [];
  exchanges = [];
  read = consumes_nothing start.reader;
  wrote = no_text form start.writer;
  counted = refl;
  goes_on = record { law = λ ending rest later. refl };
  path = refl;
  refused_is = no_refused false;
  fault_is = no_fault None;
}

module _ {D M : Type 0} (form : Form) (turn : TurnsOf D M) (may : Mishaps D M) (mode : OnRefusal) (start now later : Moment D) (left : ℕ) (end : ScriptEnd) (served : Served form turn may mode start now left end) where
  session_by : (more : List ℕ) (ending : Ending) (mishaps : List (Option M)) (rest : Session D M) → session_lines turn limits mode ending left (lines_of more) mishaps now.desk ≡ rest →
      session turn start.desk (record { bytes = served.bytes ++ more; ending = ending }) mode (mishaps_of served.exchanges ++ mishaps) ≡ after_exchanges served.exchanges rest
  unfolding session
  session_by more ending mishaps rest law = served.goes_on.law ending more mishaps ∙ ap (after_exchanges served.exchanges) law

  replies_by : (whole rest : Session D M) (told : List Reply) → whole ≡ after_exchanges served.exchanges rest → replies rest ≡ told → replies whole ≡ replies_of served.exchanges ++ told
  replies_by whole rest told e are = ap (λ (s : Session D M). replies s) e ∙ replies_after served.exchanges rest ∙ ap (λ rs. replies_of served.exchanges ++ rs) are

  refused_by : (refused : Bool) (told : List Reply) → refused ≡ refused_in end.refused told → refused ≡ refused_in false (replies_of served.exchanges ++ told)
  refused_by refused told e = e ∙ ap (λ had. refused_in had told) served.refused_is ∙ sym (refused_append (replies_of served.exchanges) told false)

  fault_by : (fault : Option Refusal) (told : List Reply) → fault ≡ fault_in end.fault told → fault ≡ fault_in None (replies_of served.exchanges ++ told)
  fault_by fault told e = e ∙ ap (λ last. fault_in last told) served.fault_is ∙ sym (fault_append (replies_of served.exchanges) told None)

  -- the reply to the next line
  reply_next : (line : ℕ) (reply : Reply) → line + left ≡ limits.lines + 1 → reply_in form line reply ≡ reply_in form (length (replies_of served.exchanges) + 1) reply
  reply_next line reply next = let counted = served.counted in let is : line ≡ length (replies_of served.exchanges) + 1 = omega arith in ap (λ n. reply_in form n reply) is

  -- all replies are written if that to the next line is
  pub reply_written : (line : ℕ) (reply : Reply) → line + left ≡ limits.lines + 1 → Appends now.writer later.writer (reply_in form line reply) → Appends start.writer later.writer (replies_in form (replies_of served.exchanges ++ reply ∷ []))
  reply_written line reply next wrote =
      let told = replies_of served.exchanges in
      rw (one_more_in form told reply) (appends_more start.writer now.writer later.writer (replies_in form told) (reply_in form (length told + 1) reply) served.wrote (rw (reply_next line reply next) at wrote))

  -- a run whose last replies were written
  ran_by : (end' : ScriptEnd) (told : List Reply) → Closes turn may mode left now later told → Appends start.writer later.writer (replies_in form (replies_of served.exchanges ++ told)) → end'.refused ≡ refused_in end.refused told → end'.fault ≡ fault_in end.fault told →
      RunsIn form turn may mode start.desk later.desk start.reader later.reader start.writer later.writer end'
  ran_by end' told closes wrote refused_is fault_is =
      let rest : Session D M = record { exchanges = closes.exchanges; last = closes.last; desk = later.desk; unread = closes.unread } in
      let e = session_by closes.more closes.ending (mishaps_of closes.exchanges) rest closes.law in
      let all = replies_by (session turn start.desk (record { bytes = served.bytes ++ closes.more; ending = closes.ending }) mode (mishaps_of served.exchanges ++ mishaps_of closes.exchanges)) rest told e closes.are in
      record {
        input = record { bytes = served.bytes ++ closes.more; ending = closes.ending };
        mishaps = mishaps_of served.exchanges ++ mishaps_of closes.exchanges;
        leaves = rw e;
        path = rw e (path_append turn may start.desk now.desk later.desk served.exchanges closes.exchanges served.path closes.path);
        refused_is = rw all (refused_by end'.refused told refused_is);
        ended = inl (record {
          beyond = closes.beyond;
          bytes_before = gives_had start.reader now.reader later.reader served.bytes closes.more closes.unread closes.beyond served.read closes.gives;
          whole = closes.whole;
          bytes_left = rw e (gives_has start.reader now.reader later.reader served.bytes closes.more closes.unread closes.beyond served.read closes.gives);
          wrote = rw all wrote;
          fault_is = rw all (fault_by end'.fault told fault_is);
        });
      }

  -- a run whose last reply was written
  pub ran_from : (end' : ScriptEnd) (line : ℕ) (reply : Reply) → line + left ≡ limits.lines + 1 → Closes turn may mode left now later (reply ∷ []) → Appends now.writer later.writer (reply_in form line reply) → end'.refused ≡ refused_after end.refused reply → end'.fault ≡ fault_after end.fault reply →
      RunsIn form turn may mode start.desk later.desk start.reader later.reader start.writer later.writer end'
  ran_from end' line reply next closes wrote refused_is fault_is = ran_by end' (reply ∷ []) closes (reply_written line reply next wrote) (refused_is ∙ sym (one_refused end.refused reply)) (fault_is ∙ sym (one_fault end.fault reply))

  due_by : (more : List ℕ) (exchanges : List (Exchange M)) (reply : Reply) → IsDue turn mode left now later more exchanges reply →
      IsAtEnd later.reader ⊎ ((rest : List Reply) × (replies (session turn start.desk (record { bytes = served.bytes ++ more; ending = read_fault }) mode (mishaps_of served.exchanges ++ mishaps_of exchanges)) ≡ replies_of served.exchanges ++ (reply ∷ rest)))
  due_by more exchanges reply (inl at_end) = inl at_end
  due_by more exchanges reply (inr due) =
      let faulty : Session D M = session_lines turn limits mode read_fault left (lines_of more) (mishaps_of exchanges) now.desk in
      inr (due.0, replies_by (session turn start.desk (record { bytes = served.bytes ++ more; ending = read_fault }) mode (mishaps_of served.exchanges ++ mishaps_of exchanges)) faulty (reply ∷ due.0) (session_by more read_fault (mishaps_of exchanges) faulty refl) due.1)

  -- a run of whose last reply only a part was written
  pub cut_from : (end' : ScriptEnd) (line : ℕ) (reply : Reply) → line + left ≡ limits.lines + 1 → ClosesAlone turn may mode left now later reply → reply ≢ Silent → Written false now.writer later.writer (reply_in form line reply) → end'.refused ≡ refused_after end.refused reply → end'.fault ≡ Some WriteFault →
      RunsIn form turn may mode start.desk later.desk start.reader later.reader start.writer later.writer end'
  cut_from end' line reply next closes told written refused_is fault_is =
      let rest : Session D M = record { exchanges = closes.exchanges; last = closes.last; desk = later.desk; unread = [] } in
      let e = session_by closes.more closes.ending (mishaps_of closes.exchanges) rest closes.law in
      let all = replies_by (session turn start.desk (record { bytes = served.bytes ++ closes.more; ending = closes.ending }) mode (mishaps_of served.exchanges ++ mishaps_of closes.exchanges)) rest (reply ∷ []) e closes.are in
      record {
        input = record { bytes = served.bytes ++ closes.more; ending = closes.ending };
        mishaps = mishaps_of served.exchanges ++ mishaps_of closes.exchanges;
        leaves = rw e;
        path = rw e (path_append turn may start.desk now.desk later.desk served.exchanges closes.exchanges served.path closes.path);
        refused_is = rw all (refused_by end'.refused (reply ∷ []) (refused_is ∙ sym (one_refused end.refused reply)));
        ended = inr (record {
          told = replies_of served.exchanges;
          last = reply;
          part = written.0;
          cut_off = written.1;
          read = consumes_more start.reader now.reader later.reader served.bytes closes.more served.read closes.read;
          all_read = rw e;
          are = all;
          is_written = told;
          is_due = due_by closes.more closes.exchanges reply closes.is_due;
          last_text = sym (reply_next line reply next) ∙ written.2;
          wrote = appends_more start.writer now.writer later.writer (replies_in form (replies_of served.exchanges)) written.0 served.wrote written.3;
          fault_is = fault_is;
        });
      }

closes_empty : {D M : Type 0} (turn : TurnsOf D M) (may : Mishaps D M) (mode : OnRefusal) (left : ℕ) (now : Moment D) (reader : Option (List ℕ)) → Consumes now.reader reader [] → IsAtEnd reader → Closes turn may mode left now (moment now.desk reader now.writer) []
unfolding session_lines lines_of
closes_empty {D} {M} turn may mode left now reader read at_end = record { more = []; ending = end_of_input; exchanges = []; last = []; unread = []; beyond = []; law = refl; are = refl; path = refl; gives = gives_all now.reader reader [] read at_end; whole = λ _. refl }

-- the input ends where a line would begin
pub ran_to_end : {D M : Type 0} (form : Form) (turn : TurnsOf D M) (may : Mishaps D M) (mode : OnRefusal) (start now : Moment D) (left : ℕ) (end : ScriptEnd) (reader : Option (List ℕ)) → Served form turn may mode start now left end → Consumes now.reader reader [] → IsAtEnd reader →
    RunsIn form turn may mode start.desk now.desk start.reader reader start.writer now.writer end
ran_to_end {D} {M} form turn may mode start now left end reader served read at_end =
    ran_by form turn may mode start now (moment now.desk reader now.writer) left end served end [] (closes_empty turn may mode left now reader read at_end)
    (rw (append-nil (replies_of served.exchanges)) served.wrote) (no_refused end.refused) (no_fault end.fault)
