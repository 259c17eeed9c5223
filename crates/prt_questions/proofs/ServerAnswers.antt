-- What a reader of a connection that has read nothing yet gives.
use Rattle.std.proofs.Common.{◌≡◌, ◌≢◌, ◌∙◌, ◌∷◌, IfOk, IfSome, zero, suc, ℕ, List, [], Option, Some, None, Result, Ok, Err, ap, length, refl, sym, subst, take}
use Rattle.std.specs.Prelude.{◌==◌, if◌then◌else◌, ◌++◌, codes}
use Rattle.std.specs.Io.Buffered.{reader_buffer, reader_capacity, reader_inner, reader_remaining}
use Rattle.std.specs.Io.KnownBytes.{Consumes, Keeps, prepend_known}
use Rattle.std.specs.declared.io.buffered.BufReader.{BufReader}
use Rattle.prt_feed.specs.Reading.{IsOpening}
use Rattle.prt_feed.specs.declared.opening.Opening.{Opening}
use Rattle.prt_args.specs.declared.server_place.ServerPlace.{ServerPlace}
use Rattle.prt_questions.specs.ServerAnswers.{IsReached, IsToldBy, IsToldIn}
use Rattle.prt_machine.specs.declared.local.Socket.{Socket}
use Rattle.prt_questions.specs.declared.remote.ServerAnswer.{ServerAnswer}
use Rattle.prt_questions.specs.declared.remote.ServerAnswer.TheVariants.{Reply, Tables}

-- nothing goes before it
nothing_before : (known : Option (List ℕ)) → prepend_known [] known ≡ known
nothing_before None = refl
nothing_before (Some all) = refl

by_capacity : {T A : Type 0} (said : T → Option (List ℕ)) (reader : BufReader T A) → (known : Option (List ℕ)) → prepend_known (reader_buffer reader) (said reader.inner) ≡ known → (capacity : ℕ) → capacity ≡ 8192
    → (if capacity == 0 then None else prepend_known (reader_buffer reader) (said reader.inner)) ≡ known
by_capacity said reader known is capacity size = rw size is

pub fresh : {T A : Type 0} (said : T → Option (List ℕ)) (reader : BufReader T A) (inner : T) → reader_inner reader ≡ inner → reader_buffer reader ≡ [] → reader_capacity reader ≡ 8192 → reader_remaining said reader ≡ said inner
fresh said reader inner is empty size =
    by_capacity said reader (said inner) (ap (λ buffer. prepend_known buffer (said reader.inner)) empty ∙ nothing_before (said reader.inner) ∙ ap said is) (reader_capacity reader) size

-- what is kept is kept for longer
pub keeps_on : (a b c : Option (List ℕ)) → Keeps a b → Keeps b c → Keeps a c
keeps_on None b c first second = tt
keeps_on (Some xs) (Some ys) (Some zs) first second = second ∙ first
keeps_on (Some xs) (Some ys) None first second = absurd second
keeps_on (Some xs) None c first second = absurd first

consumed_of : (a b c : Option (List ℕ)) (text : List ℕ) → Keeps a b → Consumes b c text → Consumes a c text
consumed_of None b c text kept taken = tt
consumed_of (Some xs) (Some ys) (Some zs) text kept taken = sym kept ∙ taken
consumed_of (Some xs) (Some ys) None text kept taken = absurd taken
consumed_of (Some xs) None c text kept taken = absurd kept

-- the opening of what was kept
pub opening_of : (a b c : Option (List ℕ)) (opening : Opening) → Keeps a b → IsOpening b c opening → IsOpening a c opening
opening_of a b c opening kept read = record {
  lines = read.lines;
  tables = read.tables;
  taken = record { read = consumed_of a b c _ kept read.taken.read; whole = read.taken.whole };
}

-- all of what was kept
pub all_of : (a b : Option (List ℕ)) (P : List ℕ → Type 0) → Keeps a b → IfSome b P → IfSome a P
all_of None b P kept all = tt
all_of (Some xs) (Some ys) P kept all = subst P kept all
all_of (Some xs) None P kept all = absurd kept

-- what was read over a connection, over which a line was sent
told_in : {N Stream : Type 0} (reaches : N → ServerPlace → Socket → List ℕ → Stream → Type 0) (said : Stream → Option (List ℕ)) (net : N) (place : ServerPlace) (line : List ℕ) (stream : Stream) → IsReached reaches net place (line ++ codes "\n") stream
    → (known : Option (List ℕ)) → Keeps (said stream) known → (told : ServerAnswer) → IsToldIn known told → IsToldBy reaches said net place line told
told_in reaches said net place line stream reached known kept (Tables version) read = record {
  socket = reached.0;
  sent = line ++ codes "\n";
  stream = stream;
  reached = reached.1;
  rest = read.0;
  opening = read.1.0;
  read = opening_of (said stream) known read.0 read.1.0 kept read.1.1;
  spelled = read.1.2;
}
told_in reaches said net place line stream reached known kept (Reply reply) read = (reached.0, stream, reached.1, all_of (said stream) known (λ all. reply.items ≡ all) kept read)

pub told_by : {N Stream E : Type 0} (reaches : N → ServerPlace → Socket → List ℕ → Stream → Type 0) (said : Stream → Option (List ℕ)) (net : N) (place : ServerPlace) (line : List ℕ) (stream : Stream) → IsReached reaches net place (line ++ codes "\n") stream
    → (first known : Option (List ℕ)) → first ≡ said stream → Keeps first known → (result : Result ServerAnswer E) → IfOk result (IsToldIn known) → IfOk result (IsToldBy reaches said net place line)
told_by reaches said net place line stream reached first known is kept (Ok told) read = told_in reaches said net place line stream reached known (subst (λ bytes. Keeps bytes known) is kept) told read
told_by reaches said net place line stream reached first known is kept (Err reason) read = tt

-- bytes that came were there
pub some_came : (a b : Option (List ℕ)) (count : ℕ) (buffer : List ℕ) → Consumes a b (take count buffer) → count ≢ 0 → length buffer ≡ 1 → IfSome a (λ all. all ≢ [])
some_came None b count buffer taken some one = tt
some_came (Some xs) None count buffer taken some one = absurd taken
some_came (Some xs) (Some ys) zero buffer taken some one = absurd (some refl)
some_came (Some xs) (Some ys) (suc n) [] taken some one = absurd (cc)
some_came (Some xs) (Some ys) (suc n) (byte ∷ bytes) taken some one = λ none. let empty = sym taken ∙ none in absurd (cc)
