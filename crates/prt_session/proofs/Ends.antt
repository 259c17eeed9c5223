-- A line that was read and answered: how the session ends with it, or goes on.
use Rattle.std.proofs.Common.{◌≡◌, ◌≢◌, ℕ, ◌+◌, ◌-◌, ◌<◌, ◌≤◌, Bool, true, false, List, [], ◌∷◌, ◌++◌, length, Option, None, Some, inl, inr, refl, sym, ◌∙◌, ap, arith, append_assoc, length-append}
use Rattle.std.proofs.lemmas.Bool.Decides.{nat_tests}
use Rattle.std.proofs.lemmas.List.{map-append}
use Rattle.std.specs.Io.KnownBytes.{Consumes, Appends, IsAtEnd}
use Rattle.std.specs.Prelude.{if◌then◌else◌}
use Rattle.prt_refusals.specs.declared.refusal.Refusal.TheVariants.{LineTooLong, ReadFault, TooManyLines, WriteFault}
use Rattle.prt_command.specs.Lines.{limits, lines_of}
use Rattle.prt_replies.proofs.Known.{append_none, left_of, consumes_more, gives_rest, gives_beyond, gives_all}
use Rattle.prt_session.proofs.Paths.{mishaps_of, path_append}
use Rattle.prt_session.proofs.Replies.{after_exchanges, refused_append, fault_append, one_refused, one_fault}
use Rattle.prt_session.proofs.Served.{Moment, moment, GoesOn, Served, Closes, ClosesAlone, cut_from, ran_from, ran_to_end, reply_written}
use Rattle.prt_session.proofs.SessionSteps.{too_many, goes_on_after, stops_there, ends_endless, ends_in_fault, ends_unended}
use Rattle.prt_session.specs.Form.{reply_in}
use Rattle.prt_replies.specs.ScriptEnd.{refused_after, fault_after}
use Rattle.prt_session.specs.Run.{RunsIn, refused_in, fault_in}
use Rattle.prt_replies.specs.Input.{end_of_input, read_fault}
use Rattle.prt_session.specs.Session.{TurnsOf, Mishaps, LineMay, Exchange, Session, ends, after_exchange, exchange_of, session_lines, line_turn, stops_after, replies, replies_of}
use Rattle.prt_replies.specs.Written.{Written}
use Rattle.prt_session.specs.Steps.{ByteIs, EndsBy, EndsAfterLast, HasNoNewline, LineIs, AnswerIs, StopIs, newline_read, is_nothing, is_nothing_by, ends_after}
use Rattle.prt_session.specs.declared.form.Form.{Form}
use Rattle.prt_session.specs.declared.input.ByteRead.{ByteRead}
use Rattle.prt_session.specs.declared.input.ByteRead.TheVariants as bytes
use Rattle.prt_session.specs.declared.input.LineRead.{LineRead}
use Rattle.prt_session.specs.declared.input.Stop.{Stop}
use Rattle.prt_session.specs.declared.input.Stop.TheVariants as stops
use Rattle.prt_replies.specs.declared.reply.Reply.{Reply}
use Rattle.prt_replies.specs.declared.reply.Reply.TheVariants.{Refused, Silent}
use Rattle.prt_refusals.specs.declared.on_refusal.OnRefusal.{OnRefusal}
use Rattle.prt_replies.specs.declared.script_end.ScriptEnd.{ScriptEnd}

-- From now to later a line was read to there, and answered.
pub record LineAnswered {D M : Type 0} (turn : TurnsOf D M) (may : Mishaps D M) (now later : Moment D) (stop : Stop) (content : List ℕ) (reply : Reply) : Type 0 where
  pub bare : HasNoNewline content
  pub read : Consumes now.reader later.reader (content ++ newline_read stop)
  pub stopped : StopIs stop (length content) later.reader
  pub something : is_nothing_by stop (length content) ≡ false
  pub answer : AnswerIs turn may now.desk stop content reply later.desk

answered_line : {D M : Type 0} (turn : TurnsOf D M) (may : Mishaps D M) (now later : Moment D) (kept : List ℕ) (line : LineRead) (reply : Reply) (is : LineIs now.reader later.reader kept line) → is_nothing line ≡ false → AnswerIs turn may now.desk line.stop is.content reply later.desk → LineAnswered turn may now later line.stop is.content reply
answered_line turn may now later kept line reply is something answer = record { bare = is.bare; read = is.read; stopped = rw is.count is.stopped; something = rw is.count something; answer = answer }

empty_list : (xs : List ℕ) → length xs ≡ 0 → xs ≡ []
empty_list [] h = refl
empty_list (x ∷ xs) h = absurd (omega arith)

nothing_read_by : (reader0 reader : Option (List ℕ)) (content : List ℕ) (stop : Stop) (count : ℕ) → Consumes reader0 reader (content ++ newline_read stop) → length content ≡ count → StopIs stop count reader → is_nothing_by stop count ≡ true → Consumes reader0 reader [] × IsAtEnd reader
nothing_read_by reader0 reader content stops.Newline count read counted stopped e = absurd (cc)
nothing_read_by reader0 reader content stops.Fault count read counted stopped e = absurd (cc)
nothing_read_by reader0 reader content stops.Endless count read counted stopped e = absurd (cc)
nothing_read_by reader0 reader content stops.End count read counted stopped e =
    let z : count ≡ 0 = grind (arith, nat_tests) in
    let k : content ≡ [] = empty_list content (counted ∙ z) in
    (rw (ap (λ (xs : List ℕ). xs ++ []) k) at read, stopped.1)

-- if there is no line, the reader is at its end
pub nothing_read : (reader0 reader : Option (List ℕ)) (kept : List ℕ) (line : LineRead) → LineIs reader0 reader kept line → is_nothing line ≡ true → Consumes reader0 reader [] × IsAtEnd reader
nothing_read reader0 reader kept line is e = nothing_read_by reader0 reader is.content line.stop line.length is.read is.count is.stopped e

fault_is_no_end : (beyond : List ℕ) → read_fault ≡ end_of_input → beyond ≡ []
fault_is_no_end beyond e = absurd (cc)

module _ {D M : Type 0} (turn : TurnsOf D M) (may : Mishaps D M) (mode : OnRefusal) (left : ℕ) (some_left : 0 < left) (now later : Moment D) (reply : Reply) where
  -- one line, whether the session goes on after it or not
  one_alone : (content : List ℕ) (mishap : Option M) (rest : List Reply) → LineAnswered turn may now later stops.Newline content reply → LineMay may now.desk content mishap → reply ≡ (line_turn turn now.desk content mishap).reply → later.desk ≡ (line_turn turn now.desk content mishap).desk →
      session_lines turn limits mode end_of_input left (lines_of (content ++ (10 ∷ []))) (mishap ∷ []) now.desk ≡ after_exchange (exchange_of turn now.desk content mishap) (ends [] (line_turn turn now.desk content mishap).desk []) →
      replies (session_lines turn limits mode read_fault left (lines_of (content ++ (10 ∷ []))) (mishap ∷ []) now.desk) ≡ (line_turn turn now.desk content mishap).reply ∷ rest →
      ClosesAlone turn may mode left now later reply
  one_alone content mishap rest line befell e k law faulty = record {
    more = content ++ (10 ∷ []);
    ending = end_of_input;
    exchanges = exchange_of turn now.desk content mishap ∷ [];
    last = [];
    law = rw k law;
    are = ap (λ r. r ∷ []) (sym e);
    path = (befell, refl, k);
    is_due = inr (rest, rw e faulty);
    read = line.read;
  }

  whole_alone : (content : List ℕ) (mishap : Option M) (stops_it : Bool) → LineAnswered turn may now later stops.Newline content reply → LineMay may now.desk content mishap → reply ≡ (line_turn turn now.desk content mishap).reply → later.desk ≡ (line_turn turn now.desk content mishap).desk → stops_after mode (line_turn turn now.desk content mishap).reply ≡ stops_it → ClosesAlone turn may mode left now later reply
  unfolding session_lines lines_of
  whole_alone content mishap true line befell e k st =
      one_alone content mishap [] line befell e k
      (stops_there turn limits mode end_of_input left now.desk some_left content [] mishap [] line.bare line.stopped st)
      (ap (λ (s : Session D M). replies s) (stops_there turn limits mode read_fault left now.desk some_left content [] mishap [] line.bare line.stopped st))
  whole_alone content mishap false line befell e k st =
      one_alone content mishap (Refused ReadFault ∷ []) line befell e k
      (goes_on_after turn limits mode end_of_input left now.desk some_left content [] mishap [] line.bare line.stopped st)
      (ap (λ (s : Session D M). replies s) (goes_on_after turn limits mode read_fault left now.desk some_left content [] mishap [] line.bare line.stopped st))

  -- the last line, with nothing after it
  pub closes_alone : (stop : Stop) (content : List ℕ) → LineAnswered turn may now later stop content reply → ClosesAlone turn may mode left now later reply
  unfolding session_lines lines_of
  closes_alone stops.Newline content line = whole_alone content line.answer.0 (stops_after mode (line_turn turn now.desk content line.answer.0).reply) line line.answer.1 line.answer.2 line.answer.3 refl
  closes_alone stops.End [] line = let h = line.something in absurd (cc)
  closes_alone stops.End (b ∷ bs) line = record {
    more = (b ∷ bs) ++ [];
    ending = end_of_input;
    exchanges = exchange_of turn now.desk (b ∷ bs) line.answer.0 ∷ [];
    last = [];
    law = rw (append_none bs, line.answer.3) (ends_unended turn limits mode end_of_input left now.desk some_left b bs line.answer.0 [] line.bare line.stopped.0);
    are = ap (λ r. r ∷ []) (sym line.answer.2);
    path = (line.answer.1, refl, line.answer.3);
    is_due = inl line.stopped.1;
    read = line.read;
  }
  closes_alone stops.Fault [] line = record { more = []; ending = read_fault; exchanges = []; last = Refused ReadFault ∷ []; law = rw line.answer.1; are = ap (λ r. r ∷ []) (sym line.answer.0); path = line.answer.1; is_due = inr ([], rw line.answer.0); read = line.read }
  closes_alone stops.Fault (b ∷ bs) line = record {
    more = (b ∷ bs) ++ [];
    ending = read_fault;
    exchanges = [];
    last = Refused ReadFault ∷ [];
    law = rw (append_none bs, line.answer.1) (ends_in_fault turn limits mode read_fault left now.desk some_left b bs [] line.bare line.stopped);
    are = ap (λ r. r ∷ []) (sym line.answer.0);
    path = line.answer.1;
    is_due = inr ([], rw (append_none bs, line.answer.0) (ap (λ (s : Session D M). replies s) (ends_in_fault turn limits mode read_fault left now.desk some_left b bs [] line.bare line.stopped)));
    read = line.read;
  }
  closes_alone stops.Endless [] line = let h = line.stopped in absurd (omega arith)
  closes_alone stops.Endless (b ∷ bs) line = record {
    more = (b ∷ bs) ++ [];
    ending = end_of_input;
    exchanges = [];
    last = Refused LineTooLong ∷ [];
    law = rw line.answer.1 (ends_endless turn limits mode end_of_input left now.desk some_left b bs [] [] line.bare line.stopped);
    are = ap (λ r. r ∷ []) (sym line.answer.0);
    path = line.answer.1;
    is_due = inr ([], rw line.answer.0 (ap (λ (s : Session D M). replies s) (ends_endless turn limits mode read_fault left now.desk some_left b bs [] [] line.bare line.stopped)));
    read = line.read;
  }

  -- the last line, and what comes after it
  pub closes : (stop : Stop) (content : List ℕ) → LineAnswered turn may now later stop content reply → ends_after mode stop reply ≡ true → Closes turn may mode left now later (reply ∷ [])
  unfolding session_lines lines_of
  closes stops.Newline content line over = record {
    more = (content ++ (10 ∷ [])) ++ left_of later.reader;
    ending = end_of_input;
    exchanges = exchange_of turn now.desk content line.answer.0 ∷ [];
    last = [];
    unread = left_of later.reader;
    beyond = [];
    law = rw (append_assoc content (10 ∷ []) (left_of later.reader), line.answer.3) (stops_there turn limits mode end_of_input left now.desk some_left content (left_of later.reader) line.answer.0 [] line.bare line.stopped (ap (stops_after mode) (sym line.answer.2) ∙ over));
    are = ap (λ r. r ∷ []) (sym line.answer.2);
    path = (line.answer.1, refl, line.answer.3);
    gives = gives_rest now.reader later.reader (content ++ (10 ∷ [])) line.read;
    whole = λ _. refl;
  }
  closes stops.End [] line over = let h = line.something in absurd (cc)
  closes stops.End (b ∷ bs) line over = record {
    more = (b ∷ bs) ++ [];
    ending = end_of_input;
    exchanges = exchange_of turn now.desk (b ∷ bs) line.answer.0 ∷ [];
    last = [];
    unread = [];
    beyond = [];
    law = rw (append_none bs, line.answer.3) (ends_unended turn limits mode end_of_input left now.desk some_left b bs line.answer.0 [] line.bare line.stopped.0);
    are = ap (λ r. r ∷ []) (sym line.answer.2);
    path = (line.answer.1, refl, line.answer.3);
    gives = gives_all now.reader later.reader ((b ∷ bs) ++ []) line.read line.stopped.1;
    whole = λ _. refl;
  }
  closes stops.Fault [] line over = record { more = []; ending = read_fault; exchanges = []; last = Refused ReadFault ∷ []; unread = []; beyond = left_of later.reader; law = rw line.answer.1; are = ap (λ r. r ∷ []) (sym line.answer.0); path = line.answer.1; gives = gives_beyond now.reader later.reader [] line.read; whole = fault_is_no_end (left_of later.reader) }
  closes stops.Fault (b ∷ bs) line over = record {
    more = (b ∷ bs) ++ [];
    ending = read_fault;
    exchanges = [];
    last = Refused ReadFault ∷ [];
    unread = [];
    beyond = left_of later.reader;
    law = rw (append_none bs, line.answer.1) (ends_in_fault turn limits mode read_fault left now.desk some_left b bs [] line.bare line.stopped);
    are = ap (λ r. r ∷ []) (sym line.answer.0);
    path = line.answer.1;
    gives = gives_beyond now.reader later.reader ((b ∷ bs) ++ []) line.read;
    whole = fault_is_no_end (left_of later.reader);
  }
  closes stops.Endless [] line over = let h = line.stopped in absurd (omega arith)
  closes stops.Endless (b ∷ bs) line over = record {
    more = ((b ∷ bs) ++ []) ++ left_of later.reader;
    ending = end_of_input;
    exchanges = [];
    last = Refused LineTooLong ∷ [];
    unread = left_of later.reader;
    beyond = [];
    law = rw (append_none bs, line.answer.1) (ends_endless turn limits mode end_of_input left now.desk some_left b bs (left_of later.reader) [] line.bare line.stopped);
    are = ap (λ r. r ∷ []) (sym line.answer.0);
    path = line.answer.1;
    gives = gives_rest now.reader later.reader ((b ∷ bs) ++ []) line.read;
    whole = λ _. refl;
  }

-- ---- after the last line

module _ {D M : Type 0} (turn : TurnsOf D M) (may : Mishaps D M) (mode : OnRefusal) (now later : Moment D) (same : later.desk ≡ now.desk) where
  -- one more byte is read if no line is left
  pub too_many_alone : (b : ℕ) → Consumes now.reader later.reader (b ∷ []) → ClosesAlone turn may mode 0 now later (Refused TooManyLines)
  too_many_alone b read = record { more = b ∷ []; ending = end_of_input; exchanges = []; last = Refused TooManyLines ∷ []; law = rw same (too_many turn limits mode end_of_input now.desk [] b [] (lines_of (b ∷ [])) refl); are = refl; path = same; is_due = inr ([], ap (λ (s : Session D M). replies s) (too_many turn limits mode read_fault now.desk [] b [] (lines_of (b ∷ [])) refl)); read = read }

  pub too_many_closes : (b : ℕ) → Consumes now.reader later.reader (b ∷ []) → Closes turn may mode 0 now later (Refused TooManyLines ∷ [])
  too_many_closes b read = record { more = (b ∷ []) ++ left_of later.reader; ending = end_of_input; exchanges = []; last = Refused TooManyLines ∷ []; unread = left_of later.reader; beyond = []; law = rw same (too_many turn limits mode end_of_input now.desk [] b (left_of later.reader) (lines_of (b ∷ left_of later.reader)) refl); are = refl; path = same; gives = gives_rest now.reader later.reader (b ∷ []) read; whole = λ _. refl }

  -- the reader fails where a line would begin
  pub fault_alone : (left : ℕ) → Consumes now.reader later.reader [] → ClosesAlone turn may mode left now later (Refused ReadFault)
  unfolding session_lines lines_of
  fault_alone left read = record { more = []; ending = read_fault; exchanges = []; last = Refused ReadFault ∷ []; law = rw same; are = refl; path = same; is_due = inr ([], refl); read = read }

  pub fault_closes : (left : ℕ) → Consumes now.reader later.reader [] → Closes turn may mode left now later (Refused ReadFault ∷ [])
  unfolding session_lines lines_of
  fault_closes left read = record { more = []; ending = read_fault; exchanges = []; last = Refused ReadFault ∷ []; unread = []; beyond = left_of later.reader; law = rw same; are = refl; path = same; gives = gives_beyond now.reader later.reader [] read; whole = fault_is_no_end (left_of later.reader) }

module _ {D M : Type 0} (form : Form) (turn : TurnsOf D M) (may : Mishaps D M) (mode : OnRefusal) (start now : Moment D) (end : ScriptEnd) (served : Served form turn may mode start now 0 end) (reader writer : Option (List ℕ)) (end' : ScriptEnd) where
  abbrev later : Moment D
  later = moment now.desk reader writer

  ends_with : (reply : Reply) (whole : Bool) → Closes turn may mode 0 now later (reply ∷ []) → ClosesAlone turn may mode 0 now later reply → reply ≢ Silent → Written whole now.writer writer (reply_in form (limits.lines + 1) reply) → end'.refused ≡ refused_after end.refused reply → end'.fault ≡ (if whole then fault_after end.fault reply else Some WriteFault) →
      RunsIn form turn may mode start.desk now.desk start.reader reader start.writer writer end'
  ends_with reply true closes alone told wrote refused_is fault_is = ran_from form turn may mode start now later 0 end served end' (limits.lines + 1) reply refl closes wrote refused_is fault_is
  ends_with reply false closes alone told wrote refused_is fault_is = cut_from form turn may mode start now later 0 end served end' (limits.lines + 1) reply refl alone told wrote refused_is fault_is

  ends_by : (byte : ByteRead) → ByteIs byte now.reader reader → EndsBy form byte now.writer writer end end' → RunsIn form turn may mode start.desk now.desk start.reader reader start.writer writer end'
  ends_by (bytes.Byte b) read over = ends_with (Refused TooManyLines) over.whole (too_many_closes turn may mode now later refl b read) (too_many_alone turn may mode now later refl b read) (λ e. cc) over.wrote over.refused_is over.fault_is
  ends_by bytes.End read over = rw (over.0, over.1) (ran_to_end form turn may mode start now 0 end reader served read.0 read.1)
  ends_by bytes.Fault read over = ends_with (Refused ReadFault) over.whole (fault_closes turn may mode now later refl 0 read) (fault_alone turn may mode now later refl 0 read) (λ e. cc) over.wrote over.refused_is over.fault_is

  -- where no line may follow
  pub after_last : EndsAfterLast form now.reader reader now.writer writer end end' → RunsIn form turn may mode start.desk now.desk start.reader reader start.writer writer end'
  after_last over = ends_by over.byte over.read over.ends

-- ---- a line after which the session goes on

goes_on_more : {D M : Type 0} (turn : TurnsOf D M) (mode : OnRefusal) (left : ℕ) (desk0 desk desk' : D) (bytes : List ℕ) (exchanges : List (Exchange M)) (content : List ℕ) (mishap : Option M) → 0 < left → GoesOn turn mode desk0 desk bytes exchanges left → HasNoNewline content → length content ≤ limits.unended → desk' ≡ (line_turn turn desk content mishap).desk → stops_after mode (line_turn turn desk content mishap).reply ≡ false →
    GoesOn turn mode desk0 desk' (bytes ++ (content ++ (10 ∷ []))) (exchanges ++ (exchange_of turn desk content mishap ∷ [])) (left - 1)
goes_on_more {D} {M} turn mode left desk0 desk desk' bytes exchanges content mishap some_left g bare short k st = record {
  law = λ ending rest later.
      let x : Exchange M = exchange_of turn desk content mishap in
      let p : (bytes ++ (content ++ (10 ∷ []))) ++ rest ≡ bytes ++ (content ++ (10 ∷ rest)) = append_assoc bytes (content ++ (10 ∷ [])) rest ∙ ap (λ xs. bytes ++ xs) (append_assoc content (10 ∷ []) rest) in
      let q : mishaps_of (exchanges ++ (x ∷ [])) ++ later ≡ mishaps_of exchanges ++ (mishap ∷ later) = ap (λ ms. ms ++ later) (map-append (λ (y : Exchange M). y.mishap) exchanges (x ∷ [])) ∙ append_assoc (mishaps_of exchanges) (mishap ∷ []) later in
      let o : Session D M = session_lines turn limits mode ending (left - 1) (lines_of rest) later desk' in
      let one : session_lines turn limits mode ending left (lines_of (content ++ (10 ∷ rest))) (mishap ∷ later) desk ≡ after_exchanges (x ∷ []) o = rw k (goes_on_after turn limits mode ending left desk some_left content rest mishap later bare short st) in
      let joined : after_exchanges exchanges (after_exchanges (x ∷ []) o) ≡ after_exchanges (exchanges ++ (x ∷ [])) o = ap (λ (xs : List (Exchange M)). record o { exchanges = xs }) (sym (append_assoc exchanges (x ∷ []) o.exchanges)) in
      rw (p, q) (g.law ending (content ++ (10 ∷ rest)) (mishap ∷ later) ∙ ap (after_exchanges exchanges) one ∙ joined);
}

-- one more reply
replies_more : {M : Type 0} (exchanges : List (Exchange M)) (x : Exchange M) (reply : Reply) → reply ≡ x.reply → replies_of (exchanges ++ (x ∷ [])) ≡ replies_of exchanges ++ (reply ∷ [])
replies_more {M} exchanges x reply e = map-append (λ (y : Exchange M). y.reply) exchanges (x ∷ []) ∙ ap (λ r. replies_of exchanges ++ (r ∷ [])) (sym e)

-- one more line is served
pub line_served : {D M : Type 0} (form : Form) (turn : TurnsOf D M) (may : Mishaps D M) (mode : OnRefusal) (left : ℕ) (start now later : Moment D) (end end' : ScriptEnd) (line : ℕ) (reply : Reply) (stop : Stop) (content : List ℕ) → 0 < left → line + left ≡ limits.lines + 1 → Served form turn may mode start now left end → LineAnswered turn may now later stop content reply → ends_after mode stop reply ≡ false → Appends now.writer later.writer (reply_in form line reply) →
    end'.refused ≡ refused_after end.refused reply → end'.fault ≡ fault_after end.fault reply → Served form turn may mode start later (left - 1) end'
line_served form turn may mode left start now later end end' number reply stops.End content some_left next s line over wrote refused_is fault_is = absurd (cc)
line_served form turn may mode left start now later end end' number reply stops.Fault content some_left next s line over wrote refused_is fault_is = absurd (cc)
line_served form turn may mode left start now later end end' number reply stops.Endless content some_left next s line over wrote refused_is fault_is = absurd (cc)
line_served {D} {M} form turn may mode left start now later end end' number reply stops.Newline content some_left next s line over wrote refused_is fault_is =
    let x : Exchange M = exchange_of turn now.desk content line.answer.0 in
    let told = replies_of s.exchanges in
    let all = replies_more s.exchanges x reply line.answer.2 in
    record {
      bytes = s.bytes ++ (content ++ (10 ∷ []));
      exchanges = s.exchanges ++ (x ∷ []);
      read = consumes_more start.reader now.reader later.reader s.bytes (content ++ (10 ∷ [])) s.read line.read;
      wrote = rw all (reply_written form turn may mode start now later left end s number reply next wrote);
      counted = let before = s.counted in rw all (simp length-append (omega arith));
      goes_on = goes_on_more turn mode left start.desk now.desk later.desk s.bytes s.exchanges content line.answer.0 some_left s.goes_on line.bare line.stopped line.answer.3 (ap (stops_after mode) (sym line.answer.2) ∙ over);
      path = path_append turn may start.desk now.desk later.desk s.exchanges (x ∷ []) s.path (line.answer.1, refl, line.answer.3);
      refused_is = rw all (refused_is ∙ ap (λ had. refused_after had reply) s.refused_is ∙ sym (one_refused (refused_in false told) reply) ∙ sym (refused_append told (reply ∷ []) false));
      fault_is = rw all (fault_is ∙ ap (λ last. fault_after last reply) s.fault_is ∙ sym (one_fault (fault_in None told) reply) ∙ sym (fault_append told (reply ∷ []) None));
    }

-- ---- the desks that may be there before and after a line

-- from a desk that may have been there at first, lines were served up to this one
abbrev pub ServedTo : {D M : Type 0} → Form → TurnsOf D M → Mishaps D M → OnRefusal → (D → Type 0) → (reader0 reader writer0 writer : Option (List ℕ)) → ℕ → ScriptEnd → D → Type 0
ServedTo {D} {M} form turn may mode stood reader0 reader writer0 writer left end desk = (first : D) × stood first × Served form turn may mode (moment first reader0 writer0) (moment desk reader writer) left end

-- the run is one from a desk that may have been there at first
abbrev pub RunTo : {D M : Type 0} → Form → TurnsOf D M → Mishaps D M → OnRefusal → (D → Type 0) → (reader0 reader writer0 writer : Option (List ℕ)) → ScriptEnd → D → Type 0
RunTo {D} {M} form turn may mode stood reader0 reader writer0 writer end desk = (first : D) × stood first × RunsIn form turn may mode first desk reader0 reader writer0 writer end

module _ {D M : Type 0} (form : Form) (turn : TurnsOf D M) (may : Mishaps D M) (mode : OnRefusal) (stood stands : D → Type 0) (reader0 reader reader' writer0 writer writer' : Option (List ℕ)) (left : ℕ) (some_left : 0 < left) (number : ℕ) (next : number + left ≡ limits.lines + 1) (end : ScriptEnd)
    (served : (desk : D) → stands desk → ServedTo form turn may mode stood reader0 reader writer0 writer left end desk)
    (kept : List ℕ) (line : LineRead) (is : LineIs reader reader' kept line) (something : is_nothing line ≡ false) (reply : Reply) (after : D)
    (answer : (before : D) × stands before × AnswerIs turn may before line.stop is.content reply after) (end' : ScriptEnd) where
  abbrev first_moment : D → Moment D
  first_moment first = moment first reader0 writer0

  abbrev this_moment : Moment D
  this_moment = moment answer.0 reader writer

  abbrev next_moment : Moment D
  next_moment = moment after reader' writer'

  answered : LineAnswered turn may this_moment next_moment line.stop is.content reply
  answered = answered_line turn may this_moment next_moment kept line reply is something answer.2

  -- if the reply could not be written
  pub ends_cut : reply ≢ Silent → Written false writer writer' (reply_in form number reply) → end'.refused ≡ refused_after end.refused reply → end'.fault ≡ Some WriteFault → RunTo form turn may mode stood reader0 reader' writer0 writer' end' after
  ends_cut told written refused_is fault_is =
      let before = served answer.0 answer.1 in
      let alone = closes_alone turn may mode left some_left this_moment next_moment reply line.stop is.content answered in
      (before.0, before.1, cut_from form turn may mode (first_moment before.0) this_moment next_moment left end before.2 end' number reply next alone told written refused_is fault_is)

  -- if the session ends with the reply
  pub ends_there : ends_after mode line.stop reply ≡ true → Appends writer writer' (reply_in form number reply) → end'.refused ≡ refused_after end.refused reply → end'.fault ≡ fault_after end.fault reply → RunTo form turn may mode stood reader0 reader' writer0 writer' end' after
  ends_there over wrote refused_is fault_is =
      let before = served answer.0 answer.1 in
      let last = closes turn may mode left some_left this_moment next_moment reply line.stop is.content answered over in
      (before.0, before.1, ran_from form turn may mode (first_moment before.0) this_moment next_moment left end before.2 end' number reply next last wrote refused_is fault_is)

  -- if it goes on
  pub goes_on : ends_after mode line.stop reply ≡ false → Appends writer writer' (reply_in form number reply) → end'.refused ≡ refused_after end.refused reply → end'.fault ≡ fault_after end.fault reply → ServedTo form turn may mode stood reader0 reader' writer0 writer' (left - 1) end' after
  goes_on over wrote refused_is fault_is =
      let before = served answer.0 answer.1 in
      (before.0, before.1, line_served form turn may mode left (first_moment before.0) this_moment next_moment end end' number reply line.stop is.content some_left next before.2 answered over wrote refused_is fault_is)
