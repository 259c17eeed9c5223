-- A session over the lines of a dump.
use Rattle.std.proofs.Common.{◌≡◌, ◌≢◌, ℕ, suc, ◌+◌, ◌-◌, ◌<◌, ◌≤◌, true, false, List, [], ◌∷◌, ◌++◌, None, length, map, refl, sym, ap, ◌∙◌, subst, append_assoc, arith}
use Rattle.std.specs.Prelude.{codes, ◌==◌, is_none, is_some, nat_lt}
use Rattle.std.specs.List.{list_all, AllByRecursion as Each}
use Rattle.std.proofs.lemmas.Bool.Decides.{nat_tests}
use Rattle.std.proofs.lemmas.List.{length-append, map-append}
use Rattle.prt_refusals.specs.declared.on_refusal.OnRefusal.{OnRefusal}
use Rattle.prt_refusals.specs.declared.on_refusal.OnRefusal.TheVariants.{GoOn, Stop}
use Rattle.prt_addr.proofs.Each.{each_append, each_filtered}
use Rattle.prt_route.specs.declared.route.Route.{Route}
use Rattle.prt_command.specs.Lines.{Limits, limits, lines_of}
use Rattle.prt_command.specs.declared.request.Command.{Command}
use Rattle.prt_command.specs.declared.request.Command.TheVariants.{RuleDel}
use Rattle.prt_listing.specs.QueryText.{lines_text}
use Rattle.prt_version.specs.Accepted.{IsAccepted}
use Rattle.prt_version.specs.Change.{apply, fold, refusal}
use Rattle.prt_version.specs.Sound.{IsSound}
use Rattle.prt_version.specs.State.{State, opening_state}
use Rattle.prt_version.proofs.Folds.{apply_count}
use Rattle.prt_session.specs.Desk.{DeskState, Mishap, command_or_refusal, request_turn, settled}
use Rattle.prt_replies.specs.Input.{Ending, end_of_input}
use Rattle.prt_session.specs.Session.{Exchange, Session, Turn, TurnsOf, after_exchange, exchange_of, line_turn, replies, session, session_lines, stops_after, turn_on}
use Rattle.prt_session.specs.Steps.{HasNoNewline}
use Rattle.prt_replies.specs.declared.reply.Reply.TheVariants.{Accepted}
use Rattle.prt_session.proofs.Lines.{whole_line}
use Rattle.prt_spelling.specs.Fits.{CommandFits}
use Rattle.prt_spelling.specs.Line.{command_line}
use Rattle.prt_spelling.specs.Spelled.{is_spelled}
use Rattle.prt_spelling.proofs.Lines.{line_read}
use Rattle.prt_spelling.proofs.Reading.{IsReadAs}
use Rattle.prt_spelling.proofs.Texts.{is_line_byte}
use Rattle.prt_dump.specs.Dump.{add_route, add_rule, dump_commands, dump_lines, first_rule, gateways_last}
use Rattle.prt_dump.specs.PutBack.{IsPlainState, IsPutBack, StateFits, acceptances, dump_text, session_of}
use Rattle.prt_dump.proofs.Remade.{dump_remade, length_moved, lists_same, remade, remade_same}
use Rattle.prt_spelling.proofs.Words.{both_true}

-- ---- one line

no_newline_by : (b : ℕ) → is_line_byte b ≡ true → b ≢ 10
no_newline_by b plain same = let h : is_line_byte 10 ≡ true = ap is_line_byte (sym same) ∙ plain in absurd cc

no_newline : (line : List ℕ) → list_all is_line_byte line ≡ true → HasNoNewline line
no_newline [] plain = tt
no_newline (b ∷ line) plain = let each = both_true (is_line_byte b) (list_all is_line_byte line) plain in (no_newline_by b each.0, no_newline line each.1)

some_left : (n : ℕ) → 0 < n → (n == 0) ≡ false
some_left n h = grind (arith, nat_tests)

not_endless : (m n : ℕ) → n ≤ m → nat_lt m n ≡ false
not_endless m n h = grind (arith, nat_tests)

module _ {D M : Type 0} (turn : TurnsOf D M) (limit : Limits) (mode : OnRefusal) (ending : Ending) (left : ℕ) (desk : D) (more : 0 < left) where
  goes_on : (content rest : List ℕ) → HasNoNewline content → length content ≤ limit.unended → stops_after mode (line_turn turn desk content None).reply ≡ false →
      session_lines turn limit mode ending left (lines_of (content ++ (10 ∷ rest))) [] desk ≡ after_exchange (exchange_of turn desk content None) (session_lines turn limit mode ending (left - 1) (lines_of rest) [] (line_turn turn desk content None).desk)
  unfolding session_lines
  goes_on content rest bare short goes = rw (whole_line content rest bare) (rw (some_left left more, not_endless limit.unended (length content) short, goes))

abbrev accepted_turn : State → Turn DeskState
accepted_turn state = record { reply = Accepted state.count; desk = settled state }

turn_is : (state : State) (line : List ℕ) (command : Command) → IsReadAs line command → refusal state command ≡ None → line_turn request_turn (settled state) line None ≡ accepted_turn (apply state command)
unfolding line_turn
turn_is state line command read allowed =
    ap (λ r. turn_on request_turn (settled state) r None) read.reads ∙ ap (λ o. command_or_refusal (settled state) command false o None) allowed

goes_by : (mode : OnRefusal) (n : ℕ) → stops_after mode (Accepted n) ≡ false
unfolding stops_after
goes_by Stop n = refl
goes_by GoOn n = refl

-- ---- the lines, one after another

-- each line asks for the command beside it
abbrev pub AreReadAs : List (List ℕ) → List Command → Type 0
AreReadAs [] [] = Unit {0}
AreReadAs (line ∷ lines) (command ∷ commands) = IsReadAs line command × AreReadAs lines commands
AreReadAs lines commands = ⊥

-- What a session over the lines does, from the state before them on.
record IsAcceptedBy (state after : State) (lines : List (List ℕ)) (session : Session DeskState Mishap) : Type 0 where
  desk : session.desk ≡ settled after
  replies_are : replies session ≡ acceptances state.count lines
  unread : session.unread ≡ []

abbrev with_desk : Exchange Mishap → Session DeskState Mishap → Session DeskState Mishap
with_desk x session = after_exchange x session

one_accepted : (state next after : State) (line : List ℕ) (lines : List (List ℕ)) (x : Exchange Mishap) (session : Session DeskState Mishap) → x.reply ≡ Accepted next.count → next.count ≡ state.count + 1 → IsAcceptedBy next after lines session → IsAcceptedBy state after (line ∷ lines) (after_exchange x session)
one_accepted state next after line lines x session reply count rest = record {
  desk = rest.desk;
  replies_are =
      ap (λ r. r ∷ replies session) (reply ∙ ap (λ n. Accepted n) count)
      ∙ ap (λ rs. Accepted (state.count + 1) ∷ rs) (rest.replies_are ∙ ap (λ n. acceptances n lines) count);
  unread = rest.unread;
}

abbrev run : OnRefusal → ℕ → List ℕ → DeskState → Session DeskState Mishap
run mode left bytes desk = session_lines request_turn limits mode end_of_input left (lines_of bytes) [] desk

lines_go : (mode : OnRefusal) (lines : List (List ℕ)) (commands : List Command) (state : State) (left : ℕ) → AreReadAs lines commands → IsAccepted state commands → length lines ≤ left → IsAcceptedBy state (fold state commands) lines (run mode left (lines_text lines) (settled state))
unfolding session_lines lines_of
lines_go mode [] [] state left read accepted room = record { desk = refl; replies_are = refl; unread = refl }
lines_go mode [] (command ∷ commands) state left read accepted room = absurd read
lines_go mode (line ∷ lines) [] state left read accepted room = absurd read
lines_go mode (line ∷ lines) (command ∷ commands) state left read accepted room =
    let next : State = apply state command in
    let turn : line_turn request_turn (settled state) line None ≡ accepted_turn next = turn_is state line command read.0 accepted.0 in
    let goes : stops_after mode (line_turn request_turn (settled state) line None).reply ≡ false = ap (λ (t : Turn DeskState). stops_after mode t.reply) turn ∙ goes_by mode next.count in
    let rest : IsAcceptedBy next (fold next commands) lines (run mode (left - 1) (lines_text lines) (settled next)) = lines_go mode lines commands next (left - 1) read.1 accepted.1 (omega (arith, room)) in
    let step : run mode left (lines_text (line ∷ lines)) (settled state) ≡ after_exchange (exchange_of request_turn (settled state) line None) (run mode (left - 1) (lines_text lines) (settled next)) =
    ap (λ bytes. run mode left bytes (settled state)) (append_assoc line (codes "\n") (lines_text lines))
    ∙ goes_on request_turn limits mode end_of_input left (settled state) (omega (arith, room)) line (lines_text lines) (no_newline line read.0.plain) (omega (arith, read.0.short)) goes
    ∙ ap (λ (t : Turn DeskState). after_exchange (exchange_of request_turn (settled state) line None) (run mode (left - 1) (lines_text lines) t.desk)) turn in
    subst (IsAcceptedBy state (fold next commands) (line ∷ lines)) (sym step)
    (one_accepted state next (fold next commands) line lines (exchange_of request_turn (settled state) line None) (run mode (left - 1) (lines_text lines) (settled next)) (ap (λ (t : Turn DeskState). t.reply) turn) (apply_count state command accepted.0) rest)

-- ---- all lines of a dump

read_both : (lines others : List (List ℕ)) (commands more : List Command) → AreReadAs lines commands → AreReadAs others more → AreReadAs (lines ++ others) (commands ++ more)
read_both [] others [] more first second = second
read_both [] others (command ∷ commands) more first second = absurd first
read_both (line ∷ lines) others [] more first second = absurd first
read_both (line ∷ lines) others (command ∷ commands) more first second = (first.0, read_both lines others commands more first.1 second)

commands_read : {X : Type 0} (f : X → Command) (xs : List X) → Each (λ x. CommandFits (f x)) xs → Each (λ x. is_spelled (f x) ≡ true) xs → AreReadAs (map command_line (map f xs)) (map f xs)
commands_read f [] fits spelled = tt
commands_read f (x ∷ xs) fits spelled = (line_read (f x) fits.0 spelled.0, commands_read f xs fits.1 spelled.1)

-- what holds of each route holds of each in the order of a dump
each_moved : (P : Route → Type 0) (routes : List Route) → Each P routes → Each P (gateways_last routes)
each_moved P routes each = each_append P _ _ (each_filtered P (λ route. is_none route.via) routes each) (each_filtered P (λ route. is_some route.via) routes each)

pub lines_read : (state : State) → StateFits state → IsPlainState state → AreReadAs (dump_lines state) (dump_commands state)
lines_read state fits plain =
    let moved : List Route = gateways_last state.routes in (
      record { plain = refl; short = omega arith; reads = refl },
      (
        line_read (RuleDel first_rule) (record { priority = omega arith; from = tt; to = tt; mark = tt; action = tt }) refl,
        subst (λ lines. AreReadAs lines (map add_rule state.rules ++ map add_route moved)) (sym (map-append command_line (map add_rule state.rules) (map add_route moved)))
            (read_both (map command_line (map add_rule state.rules)) (map command_line (map add_route moved)) (map add_rule state.rules) (map add_route moved)
            (commands_read add_rule state.rules fits.rules plain.rules)
            (commands_read add_route moved (each_moved (λ route. CommandFits (add_route route)) state.routes fits.routes) (each_moved (λ route. is_spelled (add_route route) ≡ true) state.routes plain.routes))),
      ),
    )

length_mapped : {X Y : Type 0} (f : X → Y) (xs : List X) → length (map f xs) ≡ length xs
length_mapped f [] = refl
length_mapped f (x ∷ xs) = ap suc (length_mapped f xs)

few_lines : (state : State) → IsSound state → length (dump_lines state) ≤ 1000000
few_lines state sound =
    let moved : List Route = gateways_last state.routes in
    let rest : List Command = map add_rule state.rules ++ map add_route moved in
    let a = length-append (map add_rule state.rules) (map add_route moved) in
    let b = length_mapped add_rule state.rules in
    let c = length_mapped add_route moved in
    let d = length_moved state.routes in
    let e = length_mapped command_line rest in
    omega (arith, a, b, c, d, e, sound.rules_fit, sound.routes_fit)

pub put_back : (state : State) (mode : OnRefusal) → IsSound state → StateFits state → IsPlainState state → IsPutBack state (session_of mode (dump_text state))
unfolding session
put_back state mode sound fits plain =
    let made = dump_remade state sound in
    let run_is = lines_go mode (dump_lines state) (dump_commands state) opening_state 1000000 (lines_read state fits plain) made.accepted (few_lines state sound) in
    record {
      remade = remade state;
      same = remade_same state;
      lists = lists_same (remade state) state (remade_same state);
      desk_is = run_is.desk ∙ ap settled made.makes;
      replies_are = run_is.replies_are;
      unread = run_is.unread;
    }
