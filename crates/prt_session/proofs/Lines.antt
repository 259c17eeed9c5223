-- The lines of an input.
use Rattle.std.proofs.Common.{◌≡◌, ℕ, ◌+◌, ◌<◌, ◌≤◌, ◌≢◌, ◌==◌, Bool, true, false, cond, List, [], ◌∷◌, ◌++◌, length, Option, refl, ◌∙◌, ap, arith, length-append}
use Rattle.std.proofs.lemmas.Bool.Decides.{nat_tests}
use Rattle.std.specs.Io.KnownBytes.{Consumes}
use Rattle.prt_replies.proofs.Known.{consumes_more}
use Rattle.prt_command.specs.Lines.{Line, lines_of, onto_line, bytes_of}
use Rattle.prt_session.specs.Steps.{HasNoNewline}

not_newline : (b : ℕ) → b ≢ 10 → (b == 10) ≡ false
not_newline b h = grind (arith, nat_tests)

-- a line with its newline is the first line
pub whole_line : (content rest : List ℕ) → HasNoNewline content → lines_of (content ++ (10 ∷ rest)) ≡ record { content = content; ended = true } ∷ lines_of rest
unfolding lines_of
whole_line [] rest h = refl
whole_line (b ∷ bs) rest h = rw (not_newline b h.0, whole_line bs rest h.1)

-- bytes without a newline are one line
pub unended_line : (b : ℕ) (bs : List ℕ) → HasNoNewline (b ∷ bs) → lines_of (b ∷ bs) ≡ record { content = b ∷ bs; ended = false } ∷ []
unfolding lines_of
unended_line b [] h = rw (not_newline b h.0)
unended_line b (c ∷ bs) h = rw (not_newline b h.0) (ap (onto_line b) (unended_line c bs h.1))

bytes_of_onto_line : (b : ℕ) (lines : List Line) → bytes_of (onto_line b lines) ≡ b ∷ bytes_of lines
bytes_of_onto_line b [] = refl
bytes_of_onto_line b (line ∷ lines) = refl

bytes_of_lines_by : (b : ℕ) (bs : List ℕ) (lines : List Line) (is_newline : Bool) → (b == 10) ≡ is_newline → bytes_of lines ≡ bs → bytes_of (cond is_newline (record { content = []; ended = true } ∷ lines) (onto_line b lines)) ≡ b ∷ bs
bytes_of_lines_by b bs lines true e h = let k : b ≡ 10 = grind (arith, nat_tests) in rw k (ap (λ xs. 10 ∷ xs) h)
bytes_of_lines_by b bs lines false e h = bytes_of_onto_line b lines ∙ ap (λ xs. b ∷ xs) h

-- the lines keep every byte
pub bytes_of_lines : (bytes : List ℕ) → bytes_of (lines_of bytes) ≡ bytes
unfolding lines_of
bytes_of_lines [] = refl
bytes_of_lines (b ∷ bs) = bytes_of_lines_by b bs (lines_of bs) (b == 10) refl (bytes_of_lines bs)

-- The first line has at least this many bytes.
pub record FirstHas (bytes : List ℕ) (count : ℕ) : Type 0 where
  pub line : Line
  pub others : List Line
  pub is : lines_of bytes ≡ line ∷ others
  pub long : count ≤ length line.content

first_has_one : (b : ℕ) (bs : List ℕ) (lines : List Line) → b ≢ 10 → lines_of bs ≡ lines → FirstHas (b ∷ bs) 1
unfolding lines_of
first_has_one b bs [] h e = record { line = record { content = b ∷ []; ended = false }; others = []; is = rw (not_newline b h, e); long = omega arith }
first_has_one b bs (line ∷ lines) h e = record { line = record { content = b ∷ line.content; ended = line.ended }; others = lines; is = rw (not_newline b h, e); long = omega arith }

first_has_more : (b : ℕ) (bs : List ℕ) (count : ℕ) → b ≢ 10 → FirstHas bs count → FirstHas (b ∷ bs) (count + 1)
unfolding lines_of
first_has_more b bs count h f = record { line = record { content = b ∷ f.line.content; ended = f.line.ended }; others = f.others; is = rw (not_newline b h, f.is); long = omega (arith, f.long) }

-- bytes without a newline are in the first line, whatever follows
pub first_has : (b : ℕ) (bs rest : List ℕ) → HasNoNewline (b ∷ bs) → FirstHas (b ∷ (bs ++ rest)) (length (b ∷ bs))
first_has b [] rest h = first_has_one b rest (lines_of rest) h.0 refl
first_has b (c ∷ bs) rest h = let f = first_has c bs rest h.1 in let e : length (c ∷ bs) + 1 ≡ length (b ∷ (c ∷ bs)) = omega arith in rw (← e) (first_has_more b (c ∷ (bs ++ rest)) (length (c ∷ bs)) h.0 f)

-- ---- the reading of a line

-- What was read of a line so far; it is kept if it is not too long.
pub record LineSoFar (reader0 reader : Option (List ℕ)) (kept : List ℕ) (count : ℕ) : Type 0 where
  pub content : List ℕ
  pub bare : HasNoNewline content
  pub read : Consumes reader0 reader content
  pub counted : length content ≡ count
  pub keeps : count ≤ 1024 → kept ≡ content

bare_more : (content : List ℕ) (b : ℕ) → HasNoNewline content → b ≢ 10 → HasNoNewline (content ++ (b ∷ []))
bare_more [] b h n = (n, tt)
bare_more (c ∷ content) b h n = (h.0, bare_more content b h.1 n)

-- one more byte of the line, which is kept while there is room
pub line_more : (reader0 reader1 reader2 : Option (List ℕ)) (kept kept' : List ℕ) (count b : ℕ) → LineSoFar reader0 reader1 kept count → Consumes reader1 reader2 (b ∷ []) → b ≢ 10 → (count < 1024 → kept' ≡ kept ++ (b ∷ [])) → LineSoFar reader0 reader2 kept' (count + 1)
line_more reader0 reader1 reader2 kept kept' count b s read n kept_is = record {
  content = s.content ++ (b ∷ []);
  bare = bare_more s.content b s.bare n;
  read = consumes_more reader0 reader1 reader2 s.content (b ∷ []) s.read read;
  counted = let e = s.counted in simp length-append (omega arith);
  keeps = λ h. let k : kept ≡ s.content = s.keeps (omega arith) in kept_is (omega arith) ∙ ap (λ xs. xs ++ (b ∷ [])) k;
}
