-- The first bytes of a connection, and the lines `at N` and `commands K`.
use Rattle.std.proofs.Common.{◌≡◌, ◌≢◌, ◌==◌, ◌+◌, ◌<◌, ◌≤◌, ◌^◌, ℕ, Bool, true, false, List, [], ◌∷◌, ◌++◌, Option, Some, None, IfSome, inl, inr, refl, sym, ap, subst, ◌∙◌, append_assoc, append-nil, arith, codes, length, length-append}
use Rattle.std.proofs.KnownBytes.{Consumes-nil, Consumes-trans, prepend_known-nil}
use Rattle.std.proofs.lemmas.Bool.Decides.{nat_tests}
use Rattle.std.proofs.lemmas.Fmt.{length-decimal-le}
use Rattle.std.specs.Prelude.{decimal}
use Rattle.std.specs.Io.KnownBytes.{Consumes, IsAtEnd, Keeps, prepend_known}
use Rattle.prt_serve.specs.ScriptHeader.{HeadIs, Opens, SaysNoNumber, first_line, said_line, word_of}
use Rattle.prt_serve.specs.declared.script_header.HeadEnd.TheVariants as ends
use Rattle.prt_serve.specs.declared.script_header.Saying.{Saying}
use Rattle.prt_serve.specs.declared.script_header.Saying.TheVariants.{At, Commands}
use Rattle.prt_session.specs.Steps.{HasNoNewline}

-- ---- reading them

-- The bytes that were read so far.
pub record HeadSoFar (reader0 reader : Option (List ℕ)) (head : List ℕ) (count : ℕ) : Type 0 where
  pub bare : HasNoNewline head
  pub read : Consumes reader0 reader head
  pub counted : length head ≡ count

pub no_head : (reader : Option (List ℕ)) (head : List ℕ) → head ≡ [] → HeadSoFar reader reader head 0
no_head reader head none = rw none (record { bare = tt; read = Consumes-nil reader; counted = refl })

bare_more : (head : List ℕ) (b : ℕ) → HasNoNewline head → b ≢ 10 → HasNoNewline (head ++ b ∷ [])
bare_more [] b h n = (n, tt)
bare_more (c ∷ head) b h n = (h.0, bare_more head b h.1 n)

module _ (reader0 reader1 reader2 : Option (List ℕ)) (head : List ℕ) (count : ℕ) (far : HeadSoFar reader0 reader1 head count) where
  pub head_more : (b : ℕ) (head' : List ℕ) → Consumes reader1 reader2 (b ∷ []) → b ≢ 10 → head' ≡ head ++ b ∷ [] → HeadSoFar reader0 reader2 head' (count + 1)
  head_more b head' read other is = rw is (record {
    bare = bare_more head b far.bare other;
    read = Consumes-trans reader0 reader1 reader2 head (b ∷ []) far.read read;
    counted = let e = far.counted in simp length-append (omega arith);
  })

  pub head_newline : (b : ℕ) → count < 32 → Consumes reader1 reader2 (b ∷ []) → b ≡ 10 → HeadIs reader0 reader2 head ends.Newline
  head_newline b room read is = record {
    bare = far.bare;
    read = Consumes-trans reader0 reader1 reader2 head (10 ∷ []) far.read (subst (λ (c : ℕ). Consumes reader1 reader2 (c ∷ [])) is read);
    stopped = omega (arith, far.counted);
  }

  pub head_end : Consumes reader1 reader2 [] → IsAtEnd reader2 → HeadIs reader0 reader2 head ends.End
  head_end read at_end = record { bare = far.bare; read = Consumes-trans reader0 reader1 reader2 head [] far.read read; stopped = at_end }

  pub head_fault : Consumes reader1 reader2 [] → HeadIs reader0 reader2 head ends.Fault
  head_fault read = record { bare = far.bare; read = Consumes-trans reader0 reader1 reader2 head [] far.read read; stopped = tt }

pub head_full : (reader0 reader : Option (List ℕ)) (head : List ℕ) (count : ℕ) → HeadSoFar reader0 reader head count → count ≡ 32 → HeadIs reader0 reader head ends.Full
head_full reader0 reader head count far full = record { bare = far.bare; read = Consumes-trans reader0 reader reader head [] far.read (Consumes-nil reader); stopped = omega (arith, far.counted) }

-- ---- the first line

not_newline : (b : ℕ) → b ≢ 10 → b == 10 ≡ false
not_newline b h = grind (arith, nat_tests)

first_of_head : (head rest : List ℕ) → HasNoNewline head → first_line (head ++ rest) ≡ head ++ first_line rest
first_of_head [] rest bare = refl
first_of_head (b ∷ head) rest bare = rw (not_newline b bare.0) (ap (λ (bs : List ℕ). b ∷ bs) (first_of_head head rest bare.1))

short_word : (saying : Saying) → length (word_of saying) ≤ 9
short_word At = omega arith
short_word Commands = omega arith

-- the longest line that says a number is not as long
short_line : (saying : Saying) (number : ℕ) → number < 2 ^ 64 → length (said_line saying number) < 32
short_line saying number fits =
    let digits : length (decimal number) ≤ 20 = length-decimal-le 20 number (omega arith) (omega arith) fits in
    omega (arith, length-append (word_of saying) (decimal number), digits, short_word saying)

module _ (saying : Saying) where
  -- this line says no number
  abbrev pub IsNoNumber : List ℕ → Type 0
  IsNoNumber line = (number : ℕ) → number < 2 ^ 64 → line ≢ said_line saying number

  says_newline : (head rest : List ℕ) → HasNoNewline head → IsNoNumber head → SaysNoNumber saying (head ++ 10 ∷ rest)
  says_newline head rest bare none = λ number fits is. none number fits (sym (append-nil head) ∙ sym (first_of_head head (10 ∷ rest) bare) ∙ is)

  says_end : (head : List ℕ) → HasNoNewline head → IsNoNumber head → SaysNoNumber saying head
  says_end head bare none = λ number fits is. none number fits (sym (append-nil head) ∙ sym (first_of_head head [] bare) ∙ ap first_line (append-nil head) ∙ is)

  says_full : (head rest : List ℕ) → HasNoNewline head → length head ≡ 32 → SaysNoNumber saying (head ++ rest)
  says_full head rest bare full = λ number fits is.
      let long = length-append head (first_line rest) in
      let same : length (head ++ first_line rest) ≡ length (said_line saying number) = ap length (sym (first_of_head head rest bare) ∙ is) in
      absurd (omega (arith, long, same, short_line saying number fits))

-- ---- what is given after it

pub given_all : (reader0 reader : Option (List ℕ)) (bytes : List ℕ) → Consumes reader0 reader bytes → Keeps reader0 (prepend_known bytes reader)
given_all None reader bytes read = tt
given_all (Some xs) None bytes read = absurd read
given_all (Some xs) (Some ys) bytes read = sym read

-- a line that says a number, with its newline or at the end
pub opens_newline : (saying : Saying) (reader0 reader : Option (List ℕ)) (head none : List ℕ) (number : ℕ) → HeadIs reader0 reader head ends.Newline → head ≡ said_line saying number → none ≡ [] → Opens saying (Some number) reader0 (prepend_known none reader)
opens_newline saying reader0 reader head none number is says empty =
    rw (empty, prepend_known-nil reader) (inl (subst (λ (line : List ℕ). Consumes reader0 reader (line ++ 10 ∷ [])) says is.read))

pub opens_end : (saying : Saying) (reader0 reader : Option (List ℕ)) (head none : List ℕ) (number : ℕ) → HeadIs reader0 reader head ends.End → head ≡ said_line saying number → none ≡ [] → Opens saying (Some number) reader0 (prepend_known none reader)
opens_end saying reader0 reader head none number is says empty =
    rw (empty, prepend_known-nil reader) (inr (subst (λ (line : List ℕ). Consumes reader0 reader line) (append-nil head ∙ says) is.read, is.stopped))

no_number_newline : (saying : Saying) (reader0 reader : Option (List ℕ)) (head : List ℕ) → HasNoNewline head → Consumes reader0 reader (head ++ 10 ∷ []) → IsNoNumber saying head → IfSome reader0 (SaysNoNumber saying)
no_number_newline saying None reader head bare read none = tt
no_number_newline saying (Some xs) None head bare read none = absurd read
no_number_newline saying (Some xs) (Some ys) head bare read none = subst (SaysNoNumber saying) (sym (read ∙ append_assoc head (10 ∷ []) ys)) (says_newline saying head ys bare none)

no_number_end : (saying : Saying) (reader0 reader : Option (List ℕ)) (head : List ℕ) → HasNoNewline head → Consumes reader0 reader head → IsAtEnd reader → IsNoNumber saying head → IfSome reader0 (SaysNoNumber saying)
no_number_end saying None reader head bare read at_end none = tt
no_number_end saying (Some xs) None head bare read at_end none = absurd read
no_number_end saying (Some xs) (Some ys) head bare read at_end none = subst (SaysNoNumber saying) (sym (read ∙ ap (λ (bs : List ℕ). head ++ bs) at_end ∙ append-nil head)) (says_end saying head bare none)

no_number_full : (saying : Saying) (reader0 reader : Option (List ℕ)) (head : List ℕ) → HasNoNewline head → Consumes reader0 reader head → length head ≡ 32 → IfSome reader0 (SaysNoNumber saying)
no_number_full saying None reader head bare read full = tt
no_number_full saying (Some xs) None head bare read full = absurd read
no_number_full saying (Some xs) (Some ys) head bare read full = subst (SaysNoNumber saying) (sym read) (says_full saying head ys bare full)

-- another line, of which what was read is still to be read
pub file_newline : (saying : Saying) (reader0 reader : Option (List ℕ)) (head head' : List ℕ) → HeadIs reader0 reader head ends.Newline → IsNoNumber saying head → head' ≡ head ++ 10 ∷ [] → Opens saying None reader0 (prepend_known head' reader)
file_newline saying reader0 reader head head' is none kept = rw kept (given_all reader0 reader (head ++ 10 ∷ []) is.read, no_number_newline saying reader0 reader head is.bare is.read none)

pub file_end : (saying : Saying) (reader0 reader : Option (List ℕ)) (head : List ℕ) → HeadIs reader0 reader head ends.End → IsNoNumber saying head → Opens saying None reader0 (prepend_known head reader)
file_end saying reader0 reader head is none =
    let read : Consumes reader0 reader head = subst (Consumes reader0 reader) (append-nil head) is.read in
    (given_all reader0 reader head read, no_number_end saying reader0 reader head is.bare read is.stopped none)

pub file_full : (saying : Saying) (reader0 reader : Option (List ℕ)) (head : List ℕ) → HeadIs reader0 reader head ends.Full → Opens saying None reader0 (prepend_known head reader)
file_full saying reader0 reader head is =
    let read : Consumes reader0 reader head = subst (Consumes reader0 reader) (append-nil head) is.read in
    (given_all reader0 reader head read, no_number_full saying reader0 reader head is.bare read is.stopped)

pub fault_read : (reader0 reader : Option (List ℕ)) (head : List ℕ) → HeadIs reader0 reader head ends.Fault → Consumes reader0 reader head
fault_read reader0 reader head is = subst (Consumes reader0 reader) (append-nil head) is.read
