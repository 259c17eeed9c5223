-- What a feed sent is what a client reads.
use Rattle.std.proofs.Common.{◌≡◌, ◌≢◌, ◌⊎◌, inl, inr, ℕ, ◌<◌, ◌≤◌, ◌^◌, Bool, true, false, List, [], ◌∷◌, ◌++◌, length, map, Option, Some, None, refl, sym, ap, ◌∙◌, subst, append_assoc, arith, length-append, nat_lt}
use Rattle.std.specs.Prelude.{codes, decimal, ◌==◌}
use Rattle.std.specs.List.{AllByRecursion as Each}
use Rattle.std.proofs.lemmas.Bool.Decides.{nat_tests}
use Rattle.std.proofs.lemmas.Fmt.{decimal_injective}
use Rattle.std.proofs.lemmas.List.{append-nil, length-map}
use Rattle.prt_addr.proofs.Each.{each_fails}
use Rattle.prt_refusals.specs.declared.refusal.Refusal.{Refusal}
use Rattle.prt_command.specs.declared.request.Command.{Command}
use Rattle.prt_version.specs.Sound.{IsSound}
use Rattle.prt_version.specs.State.{State, opening_state}
use Rattle.prt_lines.specs.Chunk.{AreAccepted, lines_state, whole_lines}
use Rattle.prt_lines.specs.Lines.{line_refusal, line_state}
use Rattle.prt_listing.specs.QueryText.{lines_text}
use Rattle.prt_dump.specs.Dump.{add_route, add_rule, dump_commands, dump_lines, gateways_last}
use Rattle.prt_dump.specs.PutBack.{IsPlainState, IsSameButForIds, StateFits}
use Rattle.prt_dump.proofs.Remade.{length_moved}
use Rattle.prt_dump.proofs.Sessions.{AreReadAs, lines_read}
use Rattle.prt_spelling.specs.Line.{command_line}
use Rattle.prt_feed.specs.Feed.{opening_text}
use Rattle.prt_feed.specs.Following.{LeadTo, now_line, state_line}
use Rattle.prt_feed.specs.Reading.{AreTables, AreTaken, IsOpening, IsReadBack, IsTaken, IsWhyNotRead, IsWhyRefused}
use Rattle.prt_feed.specs.declared.opening.OpeningError.{OpeningError}
use Rattle.prt_feed.specs.declared.opening.OpeningError.TheVariants as reasons
use Rattle.prt_feed.specs.declared.opening.Opening.{Opening}
use Rattle.prt_feed.proofs.Lines.{opening_leads}
use Rattle.prt_feed.proofs.Taking.{short_state_line}
use Rattle.prt_feed.proofs.Texts.{AreSameParts, Bare, read_bare, read_not_now, same_parts, state_line_bare, whole-append, whole_is}

abbrev NoNewline : List ℕ → Type 0
NoNewline line = Each (λ b. (b == 10) ≡ false) line

bytes_of : (line : List ℕ) → Bare line → NoNewline line
bytes_of line bare = each_fails (λ b. b == 10) line bare

-- ---- one line

-- a line without a newline doesn't go on after the newline of the text
not_longer : (whole rest line others : List ℕ) → whole ++ 10 ∷ rest ≡ line ++ others → NoNewline line → length whole < length line → ⊥
not_longer whole rest [] others same bare long = absurd (omega (arith, long))
not_longer [] rest (c ∷ line) others same bare long =
    let e : 10 ≡ c = cc in
    let h : (10 == 10) ≡ false = subst (λ b. (b == 10) ≡ false) (sym e) bare.0 in
    absurd cc
not_longer (b ∷ whole) rest (c ∷ line) others same bare long =
    let tail : whole ++ 10 ∷ rest ≡ line ++ others = cc in
    not_longer whole rest line others tail bare.1 (omega (arith, long))

-- The line that was read is the first one of the text, and this is left.
record IsFirst (whole rest line : List ℕ) (reader : Option (List ℕ)) : Type 0 where
  line_is : line ≡ whole
  left : reader ≡ Some rest

first_by : (whole rest line newline left : List ℕ) (b : Bool) → nat_lt 1024 (length line) ≡ b → Bare whole → length whole ≤ 1024 → Bare line → (length line ≤ 1024 → newline ≡ 10 ∷ []) → whole ++ 10 ∷ rest ≡ (line ++ newline) ++ left → IsFirst whole rest line (Some left)
first_by whole rest line newline left true is whole_bare short bare ended same =
    absurd (not_longer whole rest line (newline ++ left) (same ∙ append_assoc line newline left) (bytes_of line bare) (grind (arith, nat_tests)))
first_by whole rest line newline left false is whole_bare short bare ended same =
    let e : newline ≡ 10 ∷ [] = ended (grind (arith, nat_tests)) in
    let parts : AreSameParts whole line rest left = same_parts whole line rest left (bytes_of whole whole_bare) (bytes_of line bare) (same ∙ append_assoc line newline left ∙ ap (λ n. line ++ (n ++ left)) e) in
    record { line_is = sym parts.line; left = ap (λ xs. Some xs) (sym parts.rest) }

first_line : (whole rest line : List ℕ) (reader : Option (List ℕ)) → Bare whole → length whole ≤ 1024 → IsTaken (Some (whole ++ 10 ∷ rest)) reader line → IsFirst whole rest line reader
first_line whole rest line None whole_bare short taken = absurd taken.read
first_line whole rest line (Some left) whole_bare short taken = first_by whole rest line taken.newline left (nat_lt 1024 (length line)) refl whole_bare short taken.bare taken.ended taken.read

-- ---- lines of a dump

-- lines up to `now`, and what follows it
abbrev up_to_now : List (List ℕ) → List ℕ → List ℕ
up_to_now lines more = whole_lines (lines ++ now_line ∷ []) ++ more

-- Lines that were read are the first ones of the dump, and its later ones are left.
record AreFirst (dump lines : List (List ℕ)) (more left : List ℕ) : Type 0 where
  later : List (List ℕ)
  parts : dump ≡ lines ++ later
  left_is : left ≡ up_to_now later more

first_lines : (dump lines : List (List ℕ)) (more left : List ℕ) → Each Bare dump → Each Bare lines → Each (λ line. line ≢ now_line) lines → up_to_now dump more ≡ whole_lines lines ++ left → AreFirst dump lines more left
first_lines dump [] more left dump_bare bare other same = record { later = dump; parts = refl; left_is = sym same }
first_lines [] (line ∷ lines) more left dump_bare bare other same =
    let parts : AreSameParts now_line line more (whole_lines lines ++ left) = same_parts now_line line more (whole_lines lines ++ left) (bytes_of now_line refl) (bytes_of line bare.0) (same ∙ append_assoc line (10 ∷ whole_lines lines) left) in
    absurd (other.0 (sym parts.line))
first_lines (first ∷ dump) (line ∷ lines) more left dump_bare bare other same =
    let parts : AreSameParts first line (up_to_now dump more) (whole_lines lines ++ left) =
    same_parts first line (up_to_now dump more) (whole_lines lines ++ left) (bytes_of first dump_bare.0) (bytes_of line bare.0)
    (sym (append_assoc first (10 ∷ whole_lines (dump ++ now_line ∷ [])) more) ∙ same ∙ append_assoc line (10 ∷ whole_lines lines) left) in
    let rest = first_lines dump lines more left dump_bare.1 bare.1 other.1 parts.rest in
    record {
      later = rest.later;
      parts = ap (λ others. first ∷ others) rest.parts ∙ ap (λ l. l ∷ (lines ++ rest.later)) parts.line;
      left_is = rest.left_is;
    }

-- of lines that are accepted one after the other, the next one is not refused
next_allowed : (state : State) (lines : List (List ℕ)) (line : List ℕ) (later : List (List ℕ)) → AreAccepted state (lines ++ line ∷ later) → line_refusal (lines_state state lines) line ≡ None
next_allowed state [] line later accepted = accepted.0
next_allowed state (first ∷ lines) line later accepted = next_allowed (line_state state first) lines line later accepted.1

each_later : (P : List ℕ → Type 0) (lines later : List (List ℕ)) → Each P (lines ++ later) → Each P later
each_later P [] later each = each
each_later P (line ∷ lines) later each = each_later P lines later each.1

read_short : (lines : List (List ℕ)) (commands : List Command) → AreReadAs lines commands → Each (λ line. length line ≤ 1024) lines
read_short [] [] read = tt
read_short [] (command ∷ commands) read = absurd read
read_short (line ∷ lines) [] read = absurd read
read_short (line ∷ lines) (command ∷ commands) read = (read.0.short, read_short lines commands read.1)

few_lines : (state : State) → IsSound state → length (dump_lines state) < 1000000
few_lines state sound =
    let moved = gateways_last state.routes in
    let all = length-append (map add_rule state.rules) (map add_route moved) in
    let rules = length-map state.rules add_rule in
    let routes = length-map moved add_route in
    let each = length-map (map add_rule state.rules ++ map add_route moved) command_line in
    omega (arith, all, rules, routes, each, length_moved state.routes, sound.rules_fit, sound.routes_fit)

-- ---- an opening that was sent

-- What is known of the lines of a dump.
record AreSent (state : State) : Type 0 where
  bare : Each Bare (dump_lines state)
  short : Each (λ line. length line ≤ 1024) (dump_lines state)
  other : Each (λ line. line ≢ now_line) (dump_lines state)
  leads : LeadTo opening_state (dump_lines state) state
  few : length (dump_lines state) < 1000000
  number : state.count < 2 ^ 64

are_sent : (state : State) → IsSound state → StateFits state → IsPlainState state → AreSent state
are_sent state sound fits plain =
    let read : AreReadAs (dump_lines state) (dump_commands state) = lines_read state fits plain in
    record {
      bare = read_bare (dump_lines state) (dump_commands state) read;
      short = read_short (dump_lines state) (dump_commands state) read;
      other = read_not_now (dump_lines state) (dump_commands state) read;
      leads = opening_leads state sound fits plain;
      few = few_lines state sound;
      number = omega (arith, sound.count_fits);
    }

up_split : (lines : List (List ℕ)) (more : List ℕ) → up_to_now lines more ≡ whole_lines lines ++ (codes "now\n" ++ more)
up_split lines more = ap (λ t. t ++ more) (whole-append lines (now_line ∷ [])) ∙ append_assoc (whole_lines lines) (codes "now\n") more

-- the first line, and what follows it
sent_parts : (state : State) (more : List ℕ) → opening_text state ++ more ≡ state_line state.count ++ 10 ∷ up_to_now (dump_lines state) more
sent_parts state more =
    let first : List ℕ = state_line state.count in
    let dump : List ℕ = lines_text (dump_lines state) in
    append_assoc (first ++ codes "\n" ++ dump) (codes "now\n") more
    ∙ append_assoc (first ++ codes "\n") dump (codes "now\n" ++ more)
    ∙ append_assoc first (codes "\n") (dump ++ (codes "now\n" ++ more))
    ∙ ap (λ t. first ++ 10 ∷ (t ++ (codes "now\n" ++ more))) (whole_is (dump_lines state))
    ∙ ap (λ t. first ++ 10 ∷ t) (sym (up_split (dump_lines state) more))

same_number : (m n : ℕ) → m < 2 ^ 64 → n < 2 ^ 64 → state_line m ≡ state_line n → m ≡ n
same_number m n m_fits n_fits same = let digits : decimal m ≡ decimal n = cc in decimal_injective m n m_fits n_fits digits

-- the first line was read, whichever number is in it
after_first : (state : State) (more left : List ℕ) (number : ℕ) (lines : List (List ℕ)) → AreSent state → Bare (state_line number) → opening_text state ++ more ≡ whole_lines (state_line number ∷ lines) ++ left → AreSameParts (state_line state.count) (state_line number) (up_to_now (dump_lines state) more) (whole_lines lines ++ left)
after_first state more left number lines sent bare same =
    same_parts (state_line state.count) (state_line number) (up_to_now (dump_lines state) more) (whole_lines lines ++ left) (bytes_of (state_line state.count) (state_line_bare state.count sent.number)) (bytes_of (state_line number) bare)
    (sym (sent_parts state more) ∙ same ∙ append_assoc (state_line number) (10 ∷ whole_lines lines) left)

-- ---- an opening that is read

-- No line is left but `now`.
record IsWhole (later : List (List ℕ)) (more left : List ℕ) : Type 0 where
  none : later ≡ []
  left_is : left ≡ more

is_whole : (later : List (List ℕ)) (more left : List ℕ) → Each Bare later → Each (λ line. line ≢ now_line) later → now_line ++ 10 ∷ left ≡ up_to_now later more → IsWhole later more left
is_whole [] more left bare other same = record { none = refl; left_is = cc }
is_whole (line ∷ later) more left bare other same =
    let parts : AreSameParts now_line line left (up_to_now later more) = same_parts now_line line left (up_to_now later more) (bytes_of now_line refl) (bytes_of line bare.0) (same ∙ append_assoc line (10 ∷ whole_lines (later ++ now_line ∷ [])) more) in
    absurd (other.0 (sym parts.line))

each_earlier : (P : List ℕ → Type 0) (lines later : List (List ℕ)) → Each P (lines ++ later) → Each P lines
each_earlier P [] later each = tt
each_earlier P (line ∷ lines) later each = (each.0, each_earlier P lines later each.1)

read_back_by : (state : State) (more left : List ℕ) (opening : Opening) (lines : List (List ℕ)) → AreSent state → opening.number < 2 ^ 64 → AreTables opening.version lines → Each Bare lines → AreSameParts (state_line state.count) (state_line opening.number) (up_to_now (dump_lines state) more) (up_to_now lines left) → IsReadBack state more (Some left) opening
read_back_by state more left opening lines sent fits tables bare first =
    let begun : AreFirst (dump_lines state) lines more (now_line ++ 10 ∷ left) = first_lines (dump_lines state) lines more (now_line ++ 10 ∷ left) sent.bare bare tables.now (first.rest ∙ up_split lines left) in
    let later_bare : Each Bare begun.later = each_later Bare lines begun.later (subst (Each Bare) begun.parts sent.bare) in
    let later_other : Each (λ line. line ≢ now_line) begun.later = each_later (λ line. line ≢ now_line) lines begun.later (subst (Each (λ line. line ≢ now_line)) begun.parts sent.other) in
    let whole : IsWhole begun.later more left = is_whole begun.later more left later_bare later_other begun.left_is in
    let all : dump_lines state ≡ lines = begun.parts ∙ ap (λ later. lines ++ later) whole.none ∙ append-nil lines in
    record {
      number = sym (same_number state.count opening.number sent.number fits first.line);
      same = subst (λ s. IsSameButForIds s state) (ap (lines_state opening_state) all ∙ sym tables.made) sent.leads.same;
      left = ap (λ xs. Some xs) whole.left_is;
    }

pub reads_back : (state : State) (more : List ℕ) (reader : Option (List ℕ)) (opening : Opening) → IsSound state → StateFits state → IsPlainState state → opening.number < 2 ^ 64 → IsOpening (Some (opening_text state ++ more)) reader opening → IsReadBack state more reader opening
reads_back state more None opening sound fits plain number_fits is = absurd is.taken.read
reads_back state more (Some left) opening sound fits plain number_fits is =
    let sent : AreSent state = are_sent state sound fits plain in
    read_back_by state more left opening is.lines sent number_fits is.tables (each_earlier Bare is.lines (now_line ∷ []) is.taken.whole.1)
    (after_first state more left opening.number (is.lines ++ now_line ∷ []) sent is.taken.whole.0 is.taken.read)

-- ---- no line is refused

-- the line that was read next is the next one of the dump, or `now`
next_is_allowed : (state : State) (more : List ℕ) (reader : Option (List ℕ)) (lines later : List (List ℕ)) (line : List ℕ) → AreSent state → dump_lines state ≡ lines ++ later → IsTaken (Some (up_to_now later more)) reader line → line ≢ now_line → line_refusal (lines_state opening_state lines) line ≡ None
next_is_allowed state more reader lines [] line sent parts taken other = absurd (other (first_line now_line more line reader refl (omega arith) taken).line_is)
next_is_allowed state more reader lines (next ∷ later) line sent parts taken other =
    let rest : List ℕ = up_to_now later more in
    let bare : Each Bare (next ∷ later) = each_later Bare lines (next ∷ later) (subst (Each Bare) parts sent.bare) in
    let short : Each (λ line. length line ≤ 1024) (next ∷ later) = each_later (λ line. length line ≤ 1024) lines (next ∷ later) (subst (Each (λ line. length line ≤ 1024)) parts sent.short) in
    let taken_first : IsTaken (Some (next ++ 10 ∷ rest)) reader line = subst (λ t. IsTaken (Some t) reader line) (append_assoc next (10 ∷ whole_lines (later ++ now_line ∷ [])) more) taken in
    let first : IsFirst next rest line reader = first_line next rest line reader bare.0 short.0 taken_first in
    ap (line_refusal (lines_state opening_state lines)) first.line_is ∙ next_allowed opening_state lines next later (subst (AreAccepted opening_state) parts sent.leads.accepted)

not_refused_by : (state : State) (more : List ℕ) (tables : State) (lines : List (List ℕ)) (between reader : Option (List ℕ)) (line : List ℕ) (reason : Refusal) → AreSent state → AreTables tables lines → AreTaken (Some (up_to_now (dump_lines state) more)) between lines → IsTaken between reader line → line ≢ now_line → line_refusal tables line ≡ Some reason → ⊥
not_refused_by state more tables lines None reader line reason sent made taken next other refused = absurd taken.read
not_refused_by state more tables lines (Some left) reader line reason sent made taken next other refused =
    let begun : AreFirst (dump_lines state) lines more left = first_lines (dump_lines state) lines more left sent.bare taken.whole made.now taken.read in
    let next_taken : IsTaken (Some (up_to_now begun.later more)) reader line = subst (λ t. IsTaken (Some t) reader line) begun.left_is next in
    let allowed : line_refusal (lines_state opening_state lines) line ≡ None = next_is_allowed state more reader lines begun.later line sent begun.parts next_taken other in
    let here : line_refusal tables line ≡ None = ap (λ s. line_refusal s line) made.made ∙ allowed in
    absurd (cc (here, refused))

not_endless : (state : State) (more : List ℕ) (reader : Option (List ℕ)) (tables : State) (lines : List (List ℕ)) → AreSent state → AreTables tables lines → AreTaken (Some (up_to_now (dump_lines state) more)) reader lines → length lines ≡ 1000000 → ⊥
not_endless state more None tables lines sent made taken count = absurd taken.read
not_endless state more (Some left) tables lines sent made taken count =
    let begun : AreFirst (dump_lines state) lines more left = first_lines (dump_lines state) lines more left sent.bare taken.whole made.now taken.read in
    let long = ap length begun.parts ∙ length-append lines begun.later in
    absurd (omega (arith, long, count, sent.few))

not_refused : (state : State) (more : List ℕ) (reader : Option (List ℕ)) (reason : Refusal) → AreSent state → IsWhyRefused (Some (up_to_now (dump_lines state) more)) reader reason → ⊥
not_refused state more reader reason sent (inl is) = not_refused_by state more is.tables is.lines is.between reader is.line reason sent is.made is.taken is.next is.other is.refused
not_refused state more reader reason sent (inr is) = not_endless state more reader is.1.tables is.1.lines sent is.1.made is.1.taken is.1.count

refused_by : (state : State) (more : List ℕ) (number : ℕ) (between reader : Option (List ℕ)) (reason : Refusal) → AreSent state → AreTaken (Some (opening_text state ++ more)) between (state_line number ∷ []) → IsWhyRefused between reader reason → ⊥
refused_by state more number None reader reason sent first why = absurd first.read
refused_by state more number (Some left) reader reason sent first why =
    let parts = after_first state more left number [] sent first.whole.0 first.read in
    not_refused state more reader reason sent (subst (λ t. IsWhyRefused (Some t) reader reason) (sym parts.rest) why)

pub fails_only : (state : State) (more : List ℕ) (reader : Option (List ℕ)) (reason : OpeningError) → IsSound state → StateFits state → IsPlainState state → IsWhyNotRead (Some (opening_text state ++ more)) reader reason → (reason ≡ reasons.CutOff) ⊎ (reason ≡ reasons.NoMemory)
fails_only state more reader reasons.CutOff sound fits plain why = inl refl
fails_only state more reader reasons.NoFeed sound fits plain why =
    let sent : AreSent state = are_sent state sound fits plain in
    let taken : IsTaken (Some (state_line state.count ++ 10 ∷ up_to_now (dump_lines state) more)) reader why.0 = subst (λ t. IsTaken (Some t) reader why.0) (sent_parts state more) why.1 in
    let first = first_line (state_line state.count) (up_to_now (dump_lines state) more) why.0 reader (state_line_bare state.count sent.number) (short_state_line state.count sent.number) taken in
    absurd (why.2 state.count sent.number first.line_is)
fails_only state more reader (reasons.Refused reason) sound fits plain why = absurd (refused_by state more why.0 why.1 reader reason (are_sent state sound fits plain) why.2 why.3)
fails_only state more reader reasons.NoMemory sound fits plain why = inr refl
