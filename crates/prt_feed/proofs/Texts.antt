-- The text of a feed, line by line.
use Rattle.std.proofs.Common.{◌≡◌, ◌≢◌, ℕ, zero, suc, ◌+◌, ◌^◌, ◌<◌, ◌≤◌, Bool, true, false, not, ◌||◌, List, [], ◌∷◌, ◌++◌, Some, Ok, Err, length, map, drop, refl, sym, ap, ◌∙◌, subst, append_assoc, arith, cond}
use Rattle.std.specs.Prelude.{codes, decimal, ◌==◌, option_map, slice_get}
use Rattle.std.specs.List.{after_first, list_all, position_or_len, AllByRecursion as Each}
use Rattle.std.proofs.lemmas.Bool.Decides.{nat_tests}
use Rattle.std.proofs.lemmas.List.Folds.{list_any-append}
use Rattle.prt_addr.proofs.Each.{any_none, each_append, each_fails, each_implies}
use Rattle.prt_refusals.specs.declared.refusal.Refusal.TheVariants.{UnknownObject}
use Rattle.prt_command.specs.Reading.{reading}
use Rattle.prt_command.specs.declared.request.Command.{Command}
use Rattle.prt_command.specs.declared.request.Request.TheVariants as requests
use Rattle.prt_listing.specs.QueryText.{lines_text}
use Rattle.prt_version.specs.Accepted.{IsAccepted}
use Rattle.prt_version.specs.Change.{fold}
use Rattle.prt_version.specs.Sound.{IsSound}
use Rattle.prt_version.specs.State.{State, opening_state}
use Rattle.prt_version.specs.declared.limits.TheConstants.{MOST_COMMANDS}
use Rattle.prt_version.proofs.Folds.{count_fold}
use Rattle.prt_lines.specs.Chunk.{has_newline, whole_lines}
use Rattle.prt_spelling.specs.Line.{command_line}
use Rattle.prt_spelling.proofs.Digits.{IsDigit, decimal_is}
use Rattle.prt_spelling.proofs.Lines.{line_read}
use Rattle.prt_spelling.proofs.Reading.{IsReadAs}
use Rattle.prt_spelling.proofs.Texts.{is_line_byte}
use Rattle.prt_spelling.proofs.Words.{both_true}
use Rattle.prt_dump.specs.Dump.{dump_commands, dump_lines}
use Rattle.prt_dump.specs.PutBack.{IsPlainState, StateFits}
use Rattle.prt_dump.proofs.Sessions.{AreReadAs, lines_read}
use Rattle.prt_feed.specs.Feed.{change_line, change_lines, feed_text}
use Rattle.prt_feed.specs.Following.{AreLinesOf, HasLine, IsFollowed, LeadTo, after_number, feed_lines, now_line, state_line}
use Rattle.prt_feed.proofs.Lines.{feed_leads}
use Rattle.prt_feed.proofs.Steps.{fold_sound}

abbrev pub Bare : List ℕ → Type 0
Bare line = has_newline line ≡ false

-- ---- no line has a newline

pub is_not : (b k : ℕ) → b ≢ k → (b == k) ≡ false
is_not b k h = grind (arith, nat_tests)

plain_byte : (b : ℕ) → is_line_byte b ≡ true → (b == 10) ≡ false
plain_byte b plain = is_not b 10 (λ same. let h : is_line_byte 10 ≡ true = ap is_line_byte (sym same) ∙ plain in absurd cc)

plain_bare : (line : List ℕ) → list_all is_line_byte line ≡ true → Bare line
plain_bare [] plain = refl
plain_bare (b ∷ line) plain =
    let each = both_true (is_line_byte b) (list_all is_line_byte line) plain in
    ap (λ t. t || has_newline line) (plain_byte b each.0) ∙ plain_bare line each.1

pub bare_both : (first second : List ℕ) → Bare first → Bare second → Bare (first ++ second)
bare_both first second one two = list_any-append (λ b. b == 10) first second ∙ ap (λ t. t || has_newline second) one ∙ two

digit_is_not : (k b : ℕ) → k < 48 → IsDigit b → (b == k) ≡ false
digit_is_not k b below digit = is_not b k (λ same. absurd (let low = digit.low in omega (arith, low, same)))

-- digits have no such byte
digits_lack : (k n : ℕ) → k < 48 → n < 2 ^ 64 → Each (λ b. (b == k) ≡ false) (decimal n)
digits_lack k n below fits = each_implies IsDigit (λ b. (b == k) ≡ false) (λ b digit. digit_is_not k b below digit) (decimal n) (decimal_is n fits).digits

digits_bare : (n : ℕ) → n < 2 ^ 64 → Bare (decimal n)
digits_bare n fits = any_none (λ b. b == 10) (decimal n) (digits_lack 10 n (omega arith) fits)

pub state_line_bare : (n : ℕ) → n < 2 ^ 64 → Bare (state_line n)
state_line_bare n fits = bare_both (codes "state ") (decimal n) refl (digits_bare n fits)

change_line_bare : (n : ℕ) (command : Command) → n < 2 ^ 64 → IsReadAs (command_line command) command → Bare (change_line n command)
change_line_bare n command fits read = bare_both (decimal n ++ codes " ") (command_line command) (bare_both (decimal n) (codes " ") (digits_bare n fits) refl) (plain_bare (command_line command) read.plain)

change_lines_bare : (number : ℕ) (commands : List Command) → number + length commands < 2 ^ 64 → Each HasLine commands → Each Bare (change_lines number commands)
change_lines_bare number [] fits spelled = tt
change_lines_bare number (command ∷ commands) fits spelled =
    (change_line_bare (number + 1) command (omega (arith, fits)) (line_read command spelled.0.fits spelled.0.spelled), change_lines_bare (number + 1) commands (omega (arith, fits)) spelled.1)

pub read_bare : (lines : List (List ℕ)) (commands : List Command) → AreReadAs lines commands → Each Bare lines
read_bare [] [] read = tt
read_bare [] (command ∷ commands) read = absurd read
read_bare (line ∷ lines) [] read = absurd read
read_bare (line ∷ lines) (command ∷ commands) read = (plain_bare line read.0.plain, read_bare lines commands read.1)

-- ---- `now` asks for no command

now_refused : reading now_line ≡ Err UnknownObject
now_refused = refl

not_now : (line : List ℕ) (command : Command) → IsReadAs line command → line ≢ now_line
not_now line command read same = let h : reading now_line ≡ Ok (Some (requests.Command command)) = ap reading (sym same) ∙ read.reads in absurd (cc (h, now_refused))

pub read_not_now : (lines : List (List ℕ)) (commands : List Command) → AreReadAs lines commands → Each (λ line. line ≢ now_line) lines
read_not_now [] [] read = tt
read_not_now [] (command ∷ commands) read = absurd read
read_not_now (line ∷ lines) [] read = absurd read
read_not_now (line ∷ lines) (command ∷ commands) read = (not_now line command read.0, read_not_now lines commands read.1)

-- ---- the text is its lines

pub whole_is : (lines : List (List ℕ)) → lines_text lines ≡ whole_lines lines
whole_is [] = refl
whole_is (line ∷ lines) = append_assoc line (codes "\n") (lines_text lines) ∙ ap (λ t. line ++ 10 ∷ t) (whole_is lines)

pub whole-append : (lines more : List (List ℕ)) → whole_lines (lines ++ more) ≡ whole_lines lines ++ whole_lines more
whole-append [] more = refl
whole-append (line ∷ lines) more = ap (λ t. line ++ 10 ∷ t) (whole-append lines more) ∙ sym (append_assoc line (10 ∷ whole_lines lines) (whole_lines more))

feed_parts : (state : State) (commands : List Command) → feed_text state commands ≡ whole_lines (feed_lines state commands)
feed_parts state commands =
    let first : List ℕ = state_line state.count in
    let dump : List ℕ = lines_text (dump_lines state) in
    let changes : List (List ℕ) = change_lines state.count commands in
    append_assoc (first ++ codes "\n" ++ dump) (codes "now\n") (lines_text changes)
    ∙ append_assoc (first ++ codes "\n") dump (codes "now\n" ++ lines_text changes)
    ∙ append_assoc first (codes "\n") (dump ++ (codes "now\n" ++ lines_text changes))
    ∙ ap (λ t. first ++ 10 ∷ (t ++ (codes "now\n" ++ lines_text changes))) (whole_is (dump_lines state))
    ∙ ap (λ t. first ++ 10 ∷ (whole_lines (dump_lines state) ++ (codes "now\n" ++ t))) (whole_is changes)
    ∙ ap (λ t. first ++ 10 ∷ t) (sym (whole-append (dump_lines state) (now_line ∷ changes)))

-- ---- a text has one row of lines

-- The parts of the same text round its first newline.
pub record AreSameParts (first second : List ℕ) (after other : List ℕ) : Type 0 where
  pub line : first ≡ second
  pub rest : after ≡ other

newline_first : (bs x y : List ℕ) (b : ℕ) → (b == 10) ≡ false → 10 ∷ x ≡ b ∷ y → ⊥
newline_first bs x y b other same = let e : 10 ≡ b = cc in let h : (10 == 10) ≡ false = subst (λ c. (c == 10) ≡ false) (sym e) other in absurd cc

pub same_parts : (first second after other : List ℕ) → Each (λ b. (b == 10) ≡ false) first → Each (λ b. (b == 10) ≡ false) second → first ++ 10 ∷ after ≡ second ++ 10 ∷ other → AreSameParts first second after other
same_parts [] [] after other one two same = record { line = refl; rest = cc }
same_parts [] (b ∷ second) after other one two same = absurd (newline_first second after (second ++ 10 ∷ other) b two.0 same)
same_parts (b ∷ first) [] after other one two same = absurd (newline_first first other (first ++ 10 ∷ after) b one.0 (sym same))
same_parts (b ∷ first) (c ∷ second) after other one two same =
    let head : b ≡ c = cc in
    let tail : first ++ 10 ∷ after ≡ second ++ 10 ∷ other = cc in
    let parts = same_parts first second after other one.1 two.1 tail in
    record { line = ap (λ x. x ∷ first) head ∙ ap (λ xs. c ∷ xs) parts.line; rest = parts.rest }

some_text : (line rest : List ℕ) → [] ≡ line ++ 10 ∷ rest → ⊥
some_text [] rest same = absurd cc
some_text (b ∷ line) rest same = absurd cc

same_lines : (lines others : List (List ℕ)) → Each Bare lines → Each Bare others → whole_lines lines ≡ whole_lines others → lines ≡ others
same_lines [] [] one two same = refl
same_lines [] (line ∷ others) one two same = absurd (some_text line (whole_lines others) same)
same_lines (line ∷ lines) [] one two same = absurd (some_text line (whole_lines lines) (sym same))
same_lines (line ∷ lines) (other ∷ others) one two same =
    let parts = same_parts line other (whole_lines lines) (whole_lines others) (each_fails (λ b. b == 10) line one.0) (each_fails (λ b. b == 10) other two.0) same in
    ap (λ l. l ∷ lines) parts.line ∙ ap (λ ls. other ∷ ls) (same_lines lines others one.1 two.1 parts.rest)

pub one_reading : (text : List ℕ) (lines others : List (List ℕ)) → AreLinesOf text lines → AreLinesOf text others → lines ≡ others
one_reading text lines others is are = same_lines lines others is.whole are.whole (sym is.parts ∙ are.parts)

-- ---- the lines of changes

after_by : (p : ℕ → Bool) (front : List ℕ) (b : ℕ) (back : List ℕ) → Each (λ c. p c ≡ false) front → p b ≡ true → after_first p (front ++ b ∷ back) ≡ back
after_by p [] b back none is = ap (λ t. drop (cond (not t) (1 + position_or_len p back) 0 + 1) (b ∷ back)) is
after_by p (c ∷ front) b back none is =
    let rest : List ℕ = front ++ b ∷ back in
    ap (λ t. drop (cond (not t) (1 + position_or_len p rest) 0 + 1) (c ∷ rest)) none.0
    ∙ ap (λ n. drop n (c ∷ rest)) {x = 1 + position_or_len p rest + 1} {y = suc (position_or_len p rest + 1)} (omega arith)
    ∙ after_by p front b back none.1 is

without_number : (n : ℕ) (command : Command) → n < 2 ^ 64 → after_number (change_line n command) ≡ command_line command
without_number n command fits =
    ap after_number (append_assoc (decimal n) (codes " ") (command_line command))
    ∙ after_by (λ b. b == 32) (decimal n) 32 (command_line command) (digits_lack 32 n (omega arith) fits) refl

without_numbers : (number : ℕ) (commands : List Command) → number + length commands < 2 ^ 64 → map after_number (change_lines number commands) ≡ map command_line commands
without_numbers number [] fits = refl
without_numbers number (command ∷ commands) fits =
    ap (λ line. line ∷ map after_number (change_lines (number + 1) commands)) (without_number (number + 1) command (omega (arith, fits)))
    ∙ ap (λ lines. command_line command ∷ lines) (without_numbers (number + 1) commands (omega (arith, fits)))

numbered : (number : ℕ) (commands : List Command) (k : ℕ) → slice_get (change_lines number commands) k ≡ option_map (change_line (number + k + 1)) (slice_get commands k)
numbered number [] k = refl
numbered number (command ∷ commands) zero = ap (λ n. Some (change_line n command)) {x = number + 1} {y = number + 0 + 1} (omega arith)
numbered number (command ∷ commands) (suc k) =
    numbered (number + 1) commands k ∙ ap (λ n. option_map (change_line n) (slice_get commands k)) {x = number + 1 + k + 1} {y = number + suc k + 1} (omega arith)

-- ---- all of it

lines_are : (state : State) (commands : List Command) → state.count + length commands < 2 ^ 64 → StateFits state → IsPlainState state → Each HasLine commands → AreLinesOf (feed_text state commands) (feed_lines state commands)
lines_are state commands fits state_fits plain spelled = record {
  parts = feed_parts state commands;
  whole = (
    state_line_bare state.count (omega (arith, fits)),
    each_append Bare (dump_lines state) (now_line ∷ change_lines state.count commands) (read_bare (dump_lines state) (dump_commands state) (lines_read state state_fits plain))
        (refl, change_lines_bare state.count commands fits spelled),
  );
}

pub is_followed : (state : State) (commands : List Command) → IsSound state → StateFits state → IsPlainState state → IsAccepted state commands → Each HasLine commands → length (dump_lines state) + length commands ≤ MOST_COMMANDS → IsFollowed state commands
is_followed state commands sound fits plain accepted spelled room =
    let count : (fold state commands).count ≡ state.count + length commands = count_fold state commands accepted in
    let most : (fold state commands).count ≤ MOST_COMMANDS = (fold_sound state commands sound accepted).count_fits in
    let below : state.count + length commands < 2 ^ 64 = omega (arith, count, most) in
    let cut = without_numbers state.count commands below in
    record {
      lines = lines_are state commands below fits plain spelled;
      now = read_not_now (dump_lines state) (dump_commands state) (lines_read state fits plain);
      changes = cut;
      numbers = numbered state.count commands;
      number = count;
      leads = subst (λ lines. LeadTo opening_state (dump_lines state ++ lines) (fold state commands)) (sym cut) (feed_leads state commands sound fits plain accepted spelled room);
    }
