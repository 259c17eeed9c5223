-- What a client has read of a feed.
use Rattle.std.proofs.Common.{◌≡◌, ◌≢◌, inl, inr, ℕ, ◌+◌, ◌<◌, ◌≤◌, ◌^◌, Bool, true, false, not, ◌||◌, List, [], ◌∷◌, ◌++◌, length, take, drop, Option, Some, None, Result, Ok, Err, refl, sym, ap, ◌∙◌, subst, arith, length-append, take-append-drop, nat_lt}
use Rattle.std.specs.Prelude.{codes, decimal, nat_eq}
use Rattle.std.specs.Io.KnownBytes.{Consumes}
use Rattle.std.specs.Cmp.Lexicographic.{pointwise, same_text}
use Rattle.std.specs.List.{list_all}
use Rattle.std.specs.Str.{IsUtf8}
use Rattle.std.specs.Str.Parse.{ParsesUnsigned}
use Rattle.std.proofs.KnownBytes.{Consumes-trans, Consumes-nil}
use Rattle.std.proofs.lemmas.Bool.Decides.{nat_tests}
use Rattle.std.proofs.lemmas.Fmt.{IsAscii-decimal, length-decimal-le, parse-decimal}
use Rattle.std.proofs.lemmas.List.{append-nil}
use Rattle.std.proofs.lemmas.Str.{IsUtf8-from_ascii}
use Rattle.prt_addr.proofs.Each.{each_append}
use Rattle.prt_refusals.specs.declared.refusal.Refusal.TheVariants.{LineTooLong, NotAscii, TooManyLines}
use Rattle.prt_command.specs.Lines.{longest_line}
use Rattle.prt_command.specs.Reading.{before_comment, is_text_byte, words, words_request}
use Rattle.prt_command.specs.Requests.{refuse_if}
use Rattle.prt_command.specs.Then.{◌>>=◌}
use Rattle.prt_version.specs.State.{State, opening_state}
use Rattle.prt_lines.specs.Chunk.{has_newline, whole_lines}
use Rattle.prt_lines.specs.Lines.{line_refusal, line_state, read_refusal}
use Rattle.prt_feed.specs.Following.{now_line, state_line}
use Rattle.prt_feed.specs.Reading.{AreTables, AreTaken, IsNoState, IsOpening, IsTaken, IsWhyNotRead}
use Rattle.prt_feed.specs.Steps.{AreTablesRead, IsWhyNoNumber, IsWhyNoTables, IsWhyNotExecuted}
use Rattle.prt_feed.specs.declared.opening.OpeningError.{OpeningError}
use Rattle.prt_feed.specs.declared.opening.OpeningError.TheVariants as reasons
use Rattle.prt_feed.specs.declared.opening.Opening.{Opening}
use Rattle.prt_feed.proofs.Lines.{accepted_both, state_both}
use Rattle.prt_feed.proofs.Texts.{Bare, bare_both, is_not, whole-append}

-- ---- one line

-- What was read of a line so far.
pub record LineSoFar (reader0 reader : Option (List ℕ)) (line : List ℕ) (count : ℕ) : Type 0 where
  pub read : Consumes reader0 reader line
  pub bare : has_newline line ≡ false
  pub counted : length line ≡ count

pub no_byte : (reader : Option (List ℕ)) (line : List ℕ) → line ≡ [] → LineSoFar reader reader line 0
no_byte reader line is = subst (λ l. LineSoFar reader reader l 0) (sym is) (record { read = Consumes-nil reader; bare = refl; counted = refl })

-- one byte more
pub line_more : (reader0 reader1 reader2 : Option (List ℕ)) (line longer : List ℕ) (count b : ℕ) → LineSoFar reader0 reader1 line count → Consumes reader1 reader2 (b ∷ []) → b ≢ 10 → longer ≡ line ++ b ∷ [] → LineSoFar reader0 reader2 longer (count + 1)
line_more reader0 reader1 reader2 line longer count b so_far read other is =
    subst (λ l. LineSoFar reader0 reader2 l (count + 1)) (sym is) (record {
      read = Consumes-trans reader0 reader1 reader2 line (b ∷ []) so_far.read read;
      bare = bare_both line (b ∷ []) so_far.bare (ap (λ t. t || false) (is_not b 10 other));
      counted = length-append line (b ∷ []) ∙ ap (λ n. n + 1) so_far.counted;
    })

-- the newline after it
pub line_ends : (reader0 reader1 reader2 : Option (List ℕ)) (line : List ℕ) (count b : ℕ) → LineSoFar reader0 reader1 line count → Consumes reader1 reader2 (b ∷ []) → b ≡ 10 → IsTaken reader0 reader2 line
line_ends reader0 reader1 reader2 line count b so_far read is = record {
  newline = 10 ∷ [];
  read = Consumes-trans reader0 reader1 reader2 line (10 ∷ []) so_far.read (subst (λ c. Consumes reader1 reader2 (c ∷ [])) is read);
  bare = so_far.bare;
  ended = λ h. refl;
}

-- no room for more
pub line_cut : (reader0 reader : Option (List ℕ)) (line : List ℕ) (count : ℕ) → LineSoFar reader0 reader line count → 1025 ≤ count → IsTaken reader0 reader line
line_cut reader0 reader line count so_far long = record {
  newline = [];
  read = subst (Consumes reader0 reader) (sym (append-nil line)) so_far.read;
  bare = so_far.bare;
  ended = λ h. absurd (let e = so_far.counted in omega arith);
}

-- ---- numbers

-- digits that are no text are not those of a number
pub no_text : (digits : List ℕ) → (IsUtf8 digits → ⊥) → (number : ℕ) → number < 2 ^ 64 → digits ≢ decimal number
no_text digits broken number fits is = broken (subst IsUtf8 (sym is) (IsUtf8-from_ascii (decimal number) (IsAscii-decimal number fits)))

-- what can't be read is not what a number is written as
pub no_number : {E : Type 0} (digits text : List ℕ) (r : Result ℕ E) (e : E) → text ≡ digits → ParsesUnsigned 64 10 text r → r ≡ Err e → (number : ℕ) → number < 2 ^ 64 → digits ≢ decimal number
no_number digits text r e same parses failed number fits is = let h : r ≡ Ok number = parse-decimal 64 number text r fits fits (same ∙ is) parses in absurd cc

-- a number that is not written so
pub not_written : {E : Type 0} (digits text : List ℕ) (r : Result ℕ E) (n : ℕ) → text ≡ digits → ParsesUnsigned 64 10 text r → r ≡ Ok n → digits ≢ decimal n → (number : ℕ) → number < 2 ^ 64 → digits ≢ decimal number
not_written digits text r n same parses read other number fits is =
    let h : r ≡ Ok number = parse-decimal 64 number text r fits fits (same ∙ is) parses in
    let same_number : number ≡ n = cc in
    other (is ∙ ap decimal same_number)

-- ---- the first line

abbrev state_word : List ℕ
state_word = codes "state "

-- a line that doesn't begin with the word
pub no_state_word : (line : List ℕ) → pointwise nat_eq (take 6 line) state_word ≡ false → IsNoState line
no_state_word line differs number fits is =
    let h : pointwise nat_eq (take 6 (state_word ++ decimal number)) state_word ≡ false = subst (λ l. pointwise nat_eq (take 6 l) state_word ≡ false) is differs in absurd cc

pub begins_with_word : (line digits : List ℕ) → pointwise nat_eq (take 6 line) state_word ≡ true → digits ≡ drop 6 line → line ≡ state_word ++ digits
begins_with_word line digits same is = sym (take-append-drop 6 line) ∙ ap (λ w. w ++ drop 6 line) (same_text (take 6 line) state_word (sym same)) ∙ ap (λ ds. state_word ++ ds) (sym is)

-- digits of no number after it
pub no_state_number : (line digits : List ℕ) → line ≡ state_word ++ digits → ((number : ℕ) → number < 2 ^ 64 → digits ≢ decimal number) → IsNoState line
no_state_number line digits begins none number fits is =
    let h : state_word ++ digits ≡ state_word ++ decimal number = sym begins ∙ is in none number fits (cc)

-- the first line of a feed is short
pub short_state_line : (number : ℕ) → number < 2 ^ 64 → length (state_line number) ≤ 1024
short_state_line number fits =
    let l = length-append state_word (decimal number) in
    let d = length-decimal-le 20 number (omega arith) (omega arith) fits in
    omega (arith, l, d)

-- a line that was read with its newline
pub taken_one : (reader0 reader : Option (List ℕ)) (line : List ℕ) → IsTaken reader0 reader line → length line ≤ 1024 → AreTaken reader0 reader (line ∷ [])
taken_one reader0 reader line taken short = record {
  read = subst (λ newline. Consumes reader0 reader (line ++ newline)) (taken.ended short) taken.read;
  whole = (taken.bare, tt);
}

pub first_taken : (reader0 reader : Option (List ℕ)) (line : List ℕ) (number : ℕ) → IsTaken reader0 reader line → line ≡ state_line number → number < 2 ^ 64 → AreTaken reader0 reader (state_line number ∷ [])
first_taken reader0 reader line number taken is fits = taken_one reader0 reader (state_line number) (subst (IsTaken reader0 reader) is taken) (short_state_line number fits)

-- ---- the lines of the tables

-- lines after lines
taken_both : (a b c : Option (List ℕ)) (lines more : List (List ℕ)) → AreTaken a b lines → AreTaken b c more → AreTaken a c (lines ++ more)
taken_both a b c lines more first second = record {
  read = subst (Consumes a c) (sym (whole-append lines more)) (Consumes-trans a b c (whole_lines lines) (whole_lines more) first.read second.read);
  whole = each_append Bare lines more first.whole second.whole;
}

-- What was executed so far.
pub record TablesSoFar (reader0 reader : Option (List ℕ)) (tables : State) (count : ℕ) : Type 0 where
  pub lines : List (List ℕ)
  pub made : AreTables tables lines
  pub taken : AreTaken reader0 reader lines
  pub counted : length lines ≡ count

pub no_line : (reader : Option (List ℕ)) (tables : State) → tables ≡ opening_state → TablesSoFar reader reader tables 0
no_line reader tables is = record {
  lines = [];
  made = record { now = tt; accepted = tt; made = is };
  taken = record { read = Consumes-nil reader; whole = tt };
  counted = refl;
}

too_long_by : (tables : State) (line : List ℕ) (b : Bool) → nat_lt longest_line (length line) ≡ b → line_refusal tables line ≡ None → length line ≤ 1024
too_long_by tables line true is allowed =
    let refused : line_refusal tables line ≡ Some LineTooLong =
    ap (λ t. read_refusal tables ((refuse_if t LineTooLong >>= λ _. refuse_if (not (list_all is_text_byte (before_comment line))) NotAscii >>= λ _. Ok (words (before_comment line))) >>= words_request)) is in
    absurd (cc (refused, allowed))
too_long_by tables line false is allowed = grind (arith, nat_tests, is)

-- a line that is accepted is not too long
not_too_long : (tables : State) (line : List ℕ) → line_refusal tables line ≡ None → length line ≤ 1024
not_too_long tables line allowed = too_long_by tables line (nat_lt longest_line (length line)) refl allowed

-- one line more
pub table_line : (reader0 reader1 reader2 : Option (List ℕ)) (tables next : State) (line : List ℕ) (count : ℕ) → TablesSoFar reader0 reader1 tables count → IsTaken reader1 reader2 line → line ≢ now_line → line_refusal tables line ≡ None → next ≡ line_state tables line → TablesSoFar reader0 reader2 next (count + 1)
table_line reader0 reader1 reader2 tables next line count so_far taken other allowed is =
    let lines : List (List ℕ) = so_far.lines in
    record {
      lines = lines ++ line ∷ [];
      made = record {
        now = each_append (λ l. l ≢ now_line) lines (line ∷ []) so_far.made.now (other, tt);
        accepted = accepted_both opening_state lines (line ∷ []) so_far.made.accepted (subst (λ s. line_refusal s line ≡ None) so_far.made.made allowed, tt);
        made = is ∙ ap (λ s. line_state s line) so_far.made.made ∙ sym (state_both opening_state lines (line ∷ []));
      };
      taken = taken_both reader0 reader1 reader2 lines (line ∷ []) so_far.taken (taken_one reader1 reader2 line taken (not_too_long tables line allowed));
      counted = length-append lines (line ∷ []) ∙ ap (λ n. n + 1) so_far.counted;
    }

-- `now`
pub now_read : (reader0 reader1 reader2 : Option (List ℕ)) (tables : State) (line : List ℕ) (count : ℕ) → TablesSoFar reader0 reader1 tables count → IsTaken reader1 reader2 line → line ≡ now_line → AreTablesRead reader0 reader2 tables
now_read reader0 reader1 reader2 tables line count so_far taken is = record {
  lines = so_far.lines;
  made = so_far.made;
  taken = taken_both reader0 reader1 reader2 so_far.lines (now_line ∷ []) so_far.taken (taken_one reader1 reader2 now_line (subst (IsTaken reader1 reader2) is taken) (omega arith));
}

-- a line that is refused
pub line_not_executed : (reader0 reader1 reader2 : Option (List ℕ)) (tables : State) (line : List ℕ) (count : ℕ) (reason : OpeningError) → TablesSoFar reader0 reader1 tables count → IsTaken reader1 reader2 line → line ≢ now_line → IsWhyNotExecuted tables line reason → IsWhyNoTables reader0 reader2 reason
line_not_executed reader0 reader1 reader2 tables line count reasons.CutOff so_far taken other why = tt
line_not_executed reader0 reader1 reader2 tables line count reasons.NoFeed so_far taken other why = why
line_not_executed reader0 reader1 reader2 tables line count (reasons.Refused reason) so_far taken other why = inl (record {
  tables = tables;
  lines = so_far.lines;
  between = reader1;
  line = line;
  made = so_far.made;
  taken = so_far.taken;
  next = taken;
  other = other;
  refused = why;
})
line_not_executed reader0 reader1 reader2 tables line count reasons.NoMemory so_far taken other why = tt

-- too many lines
pub too_many : (reader0 reader : Option (List ℕ)) (tables : State) (count : ℕ) → TablesSoFar reader0 reader tables count → count ≡ 1000000 → IsWhyNoTables reader0 reader (reasons.Refused TooManyLines)
too_many reader0 reader tables count so_far all = inr (refl, record { tables = tables; lines = so_far.lines; made = so_far.made; taken = so_far.taken; count = so_far.counted ∙ all })

-- ---- all of it

pub opening_read : (reader0 between reader : Option (List ℕ)) (opening : Opening) (number : ℕ) (tables : State) → opening.number ≡ number → opening.version ≡ tables → AreTaken reader0 between (state_line number ∷ []) → AreTablesRead between reader tables → IsOpening reader0 reader opening
opening_read reader0 between reader opening number tables number_is version_is first rest = record {
  lines = rest.lines;
  tables = subst (λ s. AreTables s rest.lines) (sym version_is) rest.made;
  taken = subst (λ n. AreTaken reader0 reader (state_line n ∷ (rest.lines ++ (now_line ∷ [])))) (sym number_is) (taken_both reader0 between reader (state_line number ∷ []) (rest.lines ++ (now_line ∷ [])) first rest.taken);
}

pub no_number_read : (reader0 reader : Option (List ℕ)) (reason : OpeningError) → IsWhyNoNumber reader0 reader reason → IsWhyNotRead reader0 reader reason
no_number_read reader0 reader reasons.CutOff why = tt
no_number_read reader0 reader reasons.NoFeed why = why
no_number_read reader0 reader (reasons.Refused reason) why = absurd why
no_number_read reader0 reader reasons.NoMemory why = tt

pub no_tables_read : (reader0 between reader : Option (List ℕ)) (number : ℕ) (reason : OpeningError) → AreTaken reader0 between (state_line number ∷ []) → IsWhyNoTables between reader reason → IsWhyNotRead reader0 reader reason
no_tables_read reader0 between reader number reasons.CutOff first why = tt
no_tables_read reader0 between reader number reasons.NoFeed first why = absurd why
no_tables_read reader0 between reader number (reasons.Refused reason) first why = (number, between, first, why)
no_tables_read reader0 between reader number reasons.NoMemory first why = tt
