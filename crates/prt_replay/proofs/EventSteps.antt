-- One line more of a replay file.
use Rattle.std.proofs.Common.{◌≡◌, ◌≤◌, ◌<◌, ◌+◌, ◌-◌, ℕ, true, false, List, [], ◌∷◌, ◌++◌, length, Option, Some, None, Result, Ok, Err, refl, sym, ap, ◌∙◌, arith, append_assoc, length-append, OnOk, IfErr, MatchResult, ◌⊎◌, inl, inr}
use Rattle.std.proofs.lemmas.Bool.Decides.{nat_tests}
use Rattle.std.proofs.lemmas.List.{append-nil}
use Rattle.std.specs.Prelude.{◌==◌, nat_lt}
use Rattle.prt_refusals.specs.declared.refusal.Refusal.{Refusal}
use Rattle.prt_refusals.specs.declared.refusal.Refusal.TheVariants.{NoMemory, TooManyLines}
use Rattle.prt_command.proofs.Results.{err_result, ok_result}
use Rattle.prt_command.specs.Lines.{limits}
use Rattle.prt_command.specs.Requests.{refuse_if}
use Rattle.prt_command.specs.Then.{◌>>=◌, map_ok}
use Rattle.prt_replay.specs.ReadEvents.{and_events, contents, events_of, events_of_lines, line_event, longest_replay, most_events}
use Rattle.prt_replay.specs.ReadSteps.{with_lines}
use Rattle.prt_replay.specs.declared.event.Event.{Event}

abbrev Events : Type 0
Events = Result (List Event) Refusal

some_left : (n : ℕ) → n + 1 == 0 ≡ false
some_left n = grind (arith, nat_tests)

some_room : (n m : ℕ) → n < m → m - n == 0 ≡ false
some_room n m h = grind (arith, nat_tests)

no_room : (n m : ℕ) → m ≤ n → m - n == 0 ≡ true
no_room n m h = grind (arith, nat_tests)

one_less : (n : ℕ) → n + 1 - 1 ≡ n
one_less n = omega arith

-- a line that may come
line_step : (left room : ℕ) (line : List ℕ) (others : List (List ℕ)) → events_of_lines (left + 1) room (line ∷ others) ≡ (line_event line >>= λ event. and_events room event (λ room. events_of_lines left room others))
unfolding events_of_lines
line_step left room line others = simp (some_left left, one_less left) refl

line_gives : (left room : ℕ) (line : List ℕ) (others : List (List ℕ)) (r : Result (Option Event) Refusal) → line_event line ≡ r → events_of_lines (left + 1) room (line ∷ others) ≡ (r >>= λ event. and_events room event (λ room. events_of_lines left room others))
line_gives left room line others r h = line_step left room line others ∙ ap (λ s. s >>= λ event. and_events room event (λ room. events_of_lines left room others)) h

-- a line without words
pub no_event : (read : List Event) (left : ℕ) (line : List ℕ) (others : List (List ℕ)) → line_event line ≡ Ok None → with_lines read (left + 1) (line ∷ others) ≡ with_lines read left others
no_event read left line others h = ap (map_ok (λ events. read ++ events)) (line_gives left (most_events - length read) line others (Ok None) h)

-- a refused line
pub refused_line : (read : List Event) (left : ℕ) (line : List ℕ) (others : List (List ℕ)) (e : Refusal) → line_event line ≡ Err e → with_lines read (left + 1) (line ∷ others) ≡ Err e
refused_line read left line others e h = ap (map_ok (λ events. read ++ events)) (line_gives left (most_events - length read) line others (Err e) h)

-- an event too many
pub event_too_many : (read : List Event) (left : ℕ) (line : List ℕ) (others : List (List ℕ)) (event : Event) → line_event line ≡ Ok (Some event) → most_events ≤ length read → with_lines read (left + 1) (line ∷ others) ≡ Err TooManyLines
event_too_many read left line others event h full =
    ap (map_ok (λ events. read ++ events)) (line_gives left (most_events - length read) line others (Ok (Some event)) h)
    ∙ ap (λ b. map_ok (λ events. read ++ events) (refuse_if b TooManyLines >>= λ _. map_ok (λ events. event ∷ events) (events_of_lines left (most_events - length read - 1) others))) (no_room (length read) most_events full)

joined : (read : List Event) (event : Event) (r : Events) → map_ok (λ events. read ++ events) (map_ok (λ events. event ∷ events) r) ≡ map_ok (λ events. (read ++ event ∷ []) ++ events) r
joined read event (Ok events) = ap (λ xs. ok_result xs) (sym (append_assoc read (event ∷ []) events))
joined read event (Err e) = refl

room_after : (read : List Event) (event : Event) → most_events - length read - 1 ≡ most_events - length (read ++ event ∷ [])
room_after read event = let e = length-append read (event ∷ []) in omega (arith, e)

-- one event more
pub one_event : (read : List Event) (left : ℕ) (line : List ℕ) (others : List (List ℕ)) (event : Event) → line_event line ≡ Ok (Some event) → length read < most_events → with_lines read (left + 1) (line ∷ others) ≡ with_lines (read ++ event ∷ []) left others
one_event read left line others event h room =
    ap (map_ok (λ events. read ++ events)) (line_gives left (most_events - length read) line others (Ok (Some event)) h)
    ∙ ap (λ b. map_ok (λ events. read ++ events) (refuse_if b TooManyLines >>= λ _. map_ok (λ events. event ∷ events) (events_of_lines left (most_events - length read - 1) others))) (some_room (length read) most_events room)
    ∙ joined read event (events_of_lines left (most_events - length read - 1) others)
    ∙ ap (λ n. map_ok (λ events. (read ++ event ∷ []) ++ events) (events_of_lines left n others)) (room_after read event)

-- a line too many
pub line_too_many : (read : List Event) (line : List ℕ) (others : List (List ℕ)) → with_lines read 0 (line ∷ others) ≡ Err TooManyLines
unfolding events_of_lines
line_too_many read line others = refl

-- the end of the file
pub no_lines_left : (read : List Event) (left : ℕ) → with_lines read left [] ≡ Ok read
unfolding events_of_lines
no_lines_left read left = ap (λ xs. ok_result xs) (append-nil read)

-- an event that was read, if memory may be refused
pub read_event : (r s : Result (Option Event) Refusal) (event : Option Event) → (r ≡ s) ⊎ (r ≡ Err NoMemory) → r ≡ Ok event → s ≡ Ok event
read_event r s event (inl same) is = sym same ∙ is
read_event r s event (inr memory) is = absurd cc

-- a line that is refused, or for which memory was
pub refused_by : (read : List Event) (line : List ℕ) (r : Result (Option Event) Refusal) (e : Refusal) → r ≡ Err e → (r ≡ line_event line) ⊎ (r ≡ Err NoMemory) → ((left : ℕ) (others : List (List ℕ)) → with_lines read (left + 1) (line ∷ others) ≡ Err e) ⊎ (e ≡ NoMemory)
refused_by read line r e is (inl same) = inl (λ left others. refused_line read left line others e (sym same ∙ is))
refused_by read line r e is (inr memory) = inr cc

-- why an event is not added: there is no room, or no memory
not_added : (read : List Event) (line : List ℕ) (event : Event) (e : Refusal) → line_event line ≡ Ok (Some event) → ((e ≡ TooManyLines) × (most_events ≤ length read)) ⊎ (e ≡ NoMemory) → ((left : ℕ) (others : List (List ℕ)) → with_lines read (left + 1) (line ∷ others) ≡ Err e) ⊎ (e ≡ NoMemory)
not_added read line event e h (inl full) = inl (λ left others. event_too_many read left line others event h full.1 ∙ ap (λ r. err_result r) (sym full.0))
not_added read line event e h (inr memory) = inr memory

-- an event is added, or isn't
pub added : (read after : List Event) (line : List ℕ) (event : Event) (r : Result (Unit {0}) Refusal) → line_event line ≡ Ok (Some event) → OnOk r (after ≡ read ++ event ∷ []) → OnOk r (length read < most_events) → IfErr r (λ e. ((e ≡ TooManyLines) × (most_events ≤ length read)) ⊎ (e ≡ NoMemory)) →
    MatchResult r (λ _. (left : ℕ) (others : List (List ℕ)) → with_lines read (left + 1) (line ∷ others) ≡ with_lines after left others) (λ e. ((left : ℕ) (others : List (List ℕ)) → with_lines read (left + 1) (line ∷ others) ≡ Err e) ⊎ (e ≡ NoMemory))
added read after line event (Ok u) h is room fault = λ left others. one_event read left line others event h room ∙ ap (λ events. with_lines events left others) (sym is)
added read after line event (Err e) h is room fault = not_added read line event e h fault

-- ---- the whole file

not_longer : (n m : ℕ) → n ≤ m → nat_lt m n ≡ false
not_longer n m h = grind (arith, nat_tests)

-- The lines read so far have yielded these events, and so many lines may come with the rest.
pub record HasRead (bytes : List ℕ) (read : List Event) (left : ℕ) (rest : List ℕ) : Type 0 where
  pub so_far : events_of_lines limits.lines most_events (contents bytes) ≡ with_lines read left (contents rest)

events_from : (bytes : List ℕ) (r : Events) → length bytes ≤ longest_replay → events_of_lines limits.lines most_events (contents bytes) ≡ r → events_of bytes ≡ r
unfolding events_of
events_from bytes r short h = simp (not_longer (length bytes) longest_replay short) h

-- a line too many
pub too_many_lines : (bytes rest line after : List ℕ) (read : List Event) (left : ℕ) → length bytes ≤ longest_replay → HasRead bytes read left rest → left ≡ 0 → contents rest ≡ line ∷ contents after → events_of bytes ≡ Err TooManyLines
too_many_lines bytes rest line after read left short has none is =
    events_from bytes (Err TooManyLines) short (has.so_far ∙ ap (λ n. with_lines read n (contents rest)) none ∙ ap (with_lines read 0) is ∙ line_too_many read line (contents after))

-- a line that is refused
pub line_refused : (bytes rest line after : List ℕ) (read : List Event) (left : ℕ) (e : Refusal) → length bytes ≤ longest_replay → HasRead bytes read left rest → (left ≡ 0 → ⊥) → contents rest ≡ line ∷ contents after →
    ((left : ℕ) (others : List (List ℕ)) → with_lines read (left + 1) (line ∷ others) ≡ Err e) ⊎ (e ≡ NoMemory) → (events_of bytes ≡ Err e) ⊎ (e ≡ NoMemory)
line_refused bytes rest line after read left e short has some is (inl refused) =
    let n : left ≡ (left - 1) + 1 = omega arith in
    inl (events_from bytes (Err e) short (has.so_far ∙ ap (λ n. with_lines read n (contents rest)) n ∙ ap (with_lines read (left - 1 + 1)) is ∙ refused (left - 1) (contents after)))
line_refused bytes rest line after read left e short has some is (inr memory) = inr memory

-- a line that has been read
pub line_read : (bytes rest line after : List ℕ) (read now : List Event) (left : ℕ) → HasRead bytes read left rest → (left ≡ 0 → ⊥) → contents rest ≡ line ∷ contents after →
    ((left : ℕ) (others : List (List ℕ)) → with_lines read (left + 1) (line ∷ others) ≡ with_lines now left others) → HasRead bytes now (left - 1) after
line_read bytes rest line after read now left has some is step = record {
  so_far =
      let n : left ≡ (left - 1) + 1 = omega arith in
      has.so_far ∙ ap (λ n. with_lines read n (contents rest)) n ∙ ap (with_lines read (left - 1 + 1)) is ∙ step (left - 1) (contents after);
}

-- the whole file
pub all_read : (bytes rest : List ℕ) (read : List Event) (left : ℕ) → length bytes ≤ longest_replay → HasRead bytes read left rest → contents rest ≡ [] → events_of bytes ≡ Ok read
all_read bytes rest read left short has is = events_from bytes (Ok read) short (has.so_far ∙ ap (with_lines read left) is ∙ no_lines_left read left)

same_events : (r : Events) → r ≡ map_ok (λ events. [] ++ events) r
same_events (Ok events) = refl
same_events (Err e) = refl

-- nothing has been read
pub none_read : (bytes : List ℕ) (read : List Event) → read ≡ [] → HasRead bytes read limits.lines bytes
none_read bytes read is = record { so_far = same_events (events_of_lines limits.lines most_events (contents bytes)) ∙ ap (λ events. with_lines events limits.lines (contents bytes)) (sym is) }
