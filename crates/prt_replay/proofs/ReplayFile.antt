-- What was found of a replay file that was read.
use Rattle.std.proofs.Common.{◌≡◌, ◌∙◌, ◌<◌, ◌≤◌, ℕ, Bool, true, false, List, [], ◌++◌, length, Option, Result, Ok, Err, refl, sym, ap, subst, arith, length-append, inl, inr, true≢false, ◌⊎◌}
use Rattle.std.proofs.lemmas.Bool.Decides.{nat_tests}
use Rattle.std.proofs.lemmas.List.{append-nil}
use Rattle.std.specs.Io.KnownBytes.{Consumes, IsAtEnd}
use Rattle.std.specs.Prelude.{nat_lt}
use Rattle.prt_refusals.specs.declared.refusal.Refusal.{Refusal}
use Rattle.prt_refusals.specs.declared.refusal.Refusal.TheVariants.{NoMemory, ReadFault, TooManyLines}
use Rattle.prt_command.specs.Lines.{limits}
use Rattle.prt_command.specs.Requests.{refuse_if}
use Rattle.prt_command.specs.Then.{◌>>=◌}
use Rattle.prt_replay.specs.Replay.{Finds, IsAllOf, input_events}
use Rattle.prt_replies.proofs.Known.{Gives, consumes_more, consumes_nothing, gives_all, gives_beyond, gives_had, gives_rest, left_of}
use Rattle.prt_replies.specs.Input.{Input, end_of_input, is_fault, read_fault}
use Rattle.prt_replay.specs.ReadEvents.{contents, events_of, events_of_lines, longest_replay, most_events}
use Rattle.prt_replay.specs.declared.event.Event.{Event}

-- what a reader gave is all that it had
all_of : (a b : Option (List ℕ)) (input : Input) (unread beyond : List ℕ) → (input.ending ≡ end_of_input → beyond ≡ []) → Gives a b input.bytes unread beyond → IsAllOf a input
all_of a b input unread beyond whole gives = record {
  beyond = beyond;
  bytes_before = gives_had a a b [] input.bytes unread beyond (consumes_nothing a) gives;
  whole = whole;
}

is_long : (bytes : List ℕ) → longest_replay < length bytes → nat_lt longest_replay (length bytes) ≡ true
is_long bytes long = grind (arith, nat_tests)

is_short : (bytes : List ℕ) → length bytes ≤ longest_replay → nat_lt longest_replay (length bytes) ≡ false
is_short bytes short = grind (arith, nat_tests)

-- a test that comes twice
asked_twice : {X : Type 0} (refused : Bool) (reason : Refusal) (r : Result X Refusal) → (refuse_if refused reason >>= λ _. r) ≡ (refuse_if refused reason >>= λ _. refuse_if refused reason >>= λ _. r)
asked_twice true reason r = refl
asked_twice false reason r = refl

events_at_end : (bytes : List ℕ) → events_of bytes ≡ input_events (record { bytes = bytes; ending = end_of_input })
unfolding events_of
events_at_end bytes = asked_twice (nat_lt longest_replay (length bytes)) TooManyLines (events_of_lines limits.lines most_events (contents bytes))

-- the file was read to its end: the last read gave nothing
pub read_whole : (a b c : Option (List ℕ)) (bytes : List ℕ) → Consumes a b bytes → Consumes b c [] → IsAtEnd c → Finds a (events_of bytes)
read_whole a b c bytes read nothing at_end =
    let all : Consumes a c bytes = subst (Consumes a c) (append-nil bytes) (consumes_more a b c bytes [] read nothing) in
    let input : Input = record { bytes = bytes; ending = end_of_input } in
    record { input = input; is_all = all_of a c input [] [] (λ _. refl) (gives_all a c bytes all at_end); found_is = inl (events_at_end bytes) }

longer : (bytes more : List ℕ) → longest_replay < length bytes → longest_replay < length (bytes ++ more)
longer bytes more long = let e = length-append bytes more in omega (arith, e)

no_events : (bytes : List ℕ) → longest_replay < length bytes → events_of bytes ≡ Err TooManyLines
unfolding events_of
no_events bytes long = rw (is_long bytes long) refl

too_long : (input : Input) → longest_replay < length input.bytes → input_events input ≡ Err TooManyLines
too_long input long = rw (is_long input.bytes long) refl

-- one byte too many was read
pub read_too_many : (a b : Option (List ℕ)) (bytes : List ℕ) → Consumes a b bytes → longest_replay < length bytes → Finds a (events_of bytes)
read_too_many a b bytes read long =
    let input : Input = record { bytes = bytes ++ left_of b; ending = end_of_input } in
    record {
      input = input;
      is_all = all_of a b input (left_of b) [] (λ _. refl) (gives_rest a b bytes read);
      found_is = inl (no_events bytes long ∙ sym (too_long input (longer bytes (left_of b) long)));
    }

faulty : (bytes : List ℕ) → length bytes ≤ longest_replay → input_events (record { bytes = bytes; ending = read_fault }) ≡ Err ReadFault
faulty bytes short = rw (is_short bytes short) refl

-- the reader failed
pub read_to_fault : (a b : Option (List ℕ)) (bytes : List ℕ) → Consumes a b bytes → length bytes ≤ longest_replay → Finds a (Err ReadFault)
read_to_fault a b bytes read short =
    let input : Input = record { bytes = bytes; ending = read_fault } in
    record {
      input = input;
      is_all = all_of a b input [] (left_of b) (λ e. absurd (true≢false (ap is_fault e))) (gives_beyond a b bytes read);
      found_is = inl (sym (faulty bytes short));
    }

-- memory was refused
pub no_memory : (a : Option (List ℕ)) → Finds a (Err NoMemory)
no_memory a =
    let input : Input = record { bytes = left_of a; ending = end_of_input } in
    record { input = input; is_all = all_of a a input (left_of a) [] (λ _. refl) (gives_rest a a [] (consumes_nothing a)); found_is = inr refl }

-- ---- the events of the bytes

-- the bytes have these events
pub has_events : (a : Option (List ℕ)) (found : Result (List Event) Refusal) (events : List Event) → found ≡ Ok events → Finds a found → Finds a (Ok events)
has_events a found events is = subst (Finds a) is

-- they have none
pub has_none : (a : Option (List ℕ)) (found : Result (List Event) Refusal) (reason : Refusal) → (found ≡ Err reason) ⊎ (reason ≡ NoMemory) → Finds a found → Finds a (Err reason)
has_none a found reason (inl is) finds = subst (Finds a) is finds
has_none a found reason (inr is) finds = rw is (no_memory a)
