-- Bytes that are read again.
use Rattle.std.proofs.Common.{◌≡◌, ◌+◌, ◌<◌, ◌≤◌, ℕ, List, [], ◌∷◌, ◌++◌, Option, Some, None, Result, codes, inl, inr, refl, sym, ap, ◌∙◌, drop, get_or, length, take, slice_set, arith}
use Rattle.std.proofs.KnownBytes.{Consumes-nil, Consumes-trans, Keeps-refl, prepend_known-nil, prepend_known-read}
use Rattle.std.proofs.lemmas.List.{drop_all, drop_more}
use Rattle.std.specs.Io.KnownBytes.{Consumes, Keeps, ReadConsumes, prepend_known}
use Rattle.prt_serve.specs.ScriptHeader.{HasDrained, Opens, said_line}
use Rattle.prt_serve.specs.declared.script_header.Saying.{Saying}

-- once the bytes before are given, a read is one of the reader
pub read_on : {E : Type 0} (head : List ℕ) (given : ℕ) (old new : Option (List ℕ)) (r : Result ℕ E) (buf : List ℕ) → length head ≤ given → ReadConsumes old new r buf → ReadConsumes (prepend_known (drop given head) old) (prepend_known (drop given head) new) r buf
read_on head given old new r buf all read = rw (drop_all given head all, prepend_known-nil old, prepend_known-nil new) read

-- and until then it gives the next of them
pub read_one : (head : List ℕ) (given byte : ℕ) (old : Option (List ℕ)) (front : List ℕ) → given < length head → byte ≡ get_or head given 0 → front ≡ byte ∷ [] → Consumes (prepend_known (drop given head) old) (prepend_known (drop (given + 1) head) old) front
read_one head given byte old front more is one =
    let rest : List ℕ = drop (given + 1) head in
    let next : drop given head ≡ front ++ rest = drop_more head given 0 more ∙ ap (λ (b : ℕ). b ∷ rest) (sym is) ∙ ap (λ (bs : List ℕ). bs ++ rest) (sym one) in
    (prepend_known-read (prepend_known (drop given head) old) old (drop given head) rest front ⊥ (Keeps-refl (prepend_known (drop given head) old)) next (λ no. absurd no)).0

-- a byte that is put first is what was read
pub front_one : (bs : List ℕ) (b : ℕ) → 0 < length bs → take 1 (slice_set bs 0 b) ≡ b ∷ []
front_one [] b more = absurd (omega arith)
front_one (c ∷ bs) b more = refl

-- ---- what is let go

pub none_gone : (reader : Option (List ℕ)) → HasDrained reader reader
none_gone reader = ([], Consumes-nil reader)

keeps_all : (a b : Option (List ℕ)) → Keeps a b → Consumes a b []
keeps_all None b keeps = tt
keeps_all (Some xs) None keeps = absurd keeps
keeps_all (Some xs) (Some ys) keeps = sym keeps

pub gone_kept : (a b c : Option (List ℕ)) → HasDrained a b → Keeps b c → HasDrained a c
gone_kept a b c gone keeps = (gone.0 ++ [], Consumes-trans a b c gone.0 [] gone.1 (keeps_all b c keeps))

pub gone_more : (a b c : Option (List ℕ)) (bytes : List ℕ) → HasDrained a b → Consumes b c bytes → HasDrained a c
gone_more a b c bytes gone read = (gone.0 ++ bytes, Consumes-trans a b c gone.0 bytes gone.1 read)

pub gone_then : (a b c : Option (List ℕ)) → HasDrained a b → HasDrained b c → HasDrained a c
gone_then a b c first next = (first.0 ++ next.0, Consumes-trans a b c first.0 next.0 first.1 next.1)

-- a line that says a number, or nothing
pub opened_gone : (saying : Saying) (said : Option ℕ) (reader0 given : Option (List ℕ)) → Opens saying said reader0 given → HasDrained reader0 given
opened_gone saying (Some number) reader0 given (inl line) = (said_line saying number ++ codes "\n", line)
opened_gone saying (Some number) reader0 given (inr line) = (said_line saying number, line.0)
opened_gone saying None reader0 given opens = ([], keeps_all reader0 given opens.0)

-- the bytes before the reader's own, and some of these
front_gone : (head : List ℕ) (a : Option (List ℕ)) → Consumes (prepend_known head a) a head
front_gone head None = tt
front_gone head (Some xs) = refl

pub all_gone : (head : List ℕ) (a b left : Option (List ℕ)) → left ≡ prepend_known head a → HasDrained a b → HasDrained left b
all_gone head a b left is gone = rw is (head ++ gone.0, Consumes-trans (prepend_known head a) a b head gone.0 (front_gone head a) gone.1)
