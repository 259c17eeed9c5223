-- What was published, acknowledged and answered, and what lookers hold.
use Rattle.std.proofs.Common.{◌≡◌, ℕ, ◌+◌, ◌-◌, ◌<◌, ◌≤◌, Bool, true, false, not, ◌&&◌, ◌||◌, List, [], ◌∷◌, ◌++◌, Option, Some, None, length, take, replicate, refl, sym, ap, ◌∙◌, arith}
use Rattle.std.specs.Prelude.{map, nat_le, nat_lt, slice_get}
use Rattle.std.specs.List.{list_any, AllByRecursion as Each}
use Rattle.std.proofs.lemmas.Bool.Decides.{nat_tests}
use Rattle.std.proofs.lemmas.List.{append_assoc, length-append, take-take}
use Rattle.prt_addr.proofs.Each.{each_append, each_filtered, each_implies}
use Rattle.prt_command.specs.declared.request.Command.{Command}
use Rattle.prt_grace.specs.GracePeriod.{after_reclaim, is_reclaimable, may_hold}
use Rattle.prt_grace.specs.declared.limits.TheConstants.{PLACES}
use Rattle.prt_version.specs.Change.{fold}
use Rattle.prt_version.specs.Select.{select}
use Rattle.prt_version.specs.State.{State, opening_state}
use Rattle.prt_replay.specs.Durability.{state_after}
use Rattle.prt_replay.specs.World.{Ack, Lookup, LookerState, acks_after, announced_by, kept, offline, online}
use Rattle.prt_replay.proofs.KeptVersions.{each_replicate, kept_alone, kept_before, kept_filtered, kept_new, slice_get-middle, slice_get-take}

-- The command was accepted under the number, and is published.
pub record IsAcked (accepted : List Command) (top : ℕ) (ack : Ack) : Type 0 where
  pub counted : 1 ≤ ack.number
  pub within : ack.number ≤ top
  pub command : slice_get accepted (ack.number - 1) ≡ Some ack.command

-- The answer is that of a published version.
pub record IsAnswer (accepted : List Command) (top : ℕ) (lookup : Lookup) : Type 0 where
  pub within : lookup.answer.number ≤ top
  pub verdict : lookup.answer.verdict ≡ select (state_after accepted lookup.answer.number) lookup.packet

-- What a looker holds is kept, and it has announced that number or a lower one.
pub record IsHeld (accepted : List Command) (top : ℕ) (versions : List State) (announced held : ℕ) : Type 0 where
  pub low : announced ≤ held
  pub within : held ≤ top
  pub is_kept : kept versions held ≡ Some (state_after accepted held)

abbrev pub IsServed : List Command → ℕ → List State → LookerState → Type 0
IsServed accepted top versions offline = Unit {0}
IsServed accepted top versions (online announced None) = announced ≤ top
IsServed accepted top versions (online announced (Some held)) = IsHeld accepted top versions announced held

-- What was shown of the accepted commands, up to the number that was published last.
pub record IsHistory (accepted : List Command) (top : ℕ) (versions : List State) (lookers : List LookerState) (acks : List Ack) (answers : List Lookup) : Type 0 where
  pub bounded : Each (λ state. state.count ≤ top) versions
  pub top_kept : kept versions top ≡ Some (state_after accepted top)
  pub served : Each (IsServed accepted top versions) lookers
  pub acked : Each (IsAcked accepted top) acks
  pub answered : Each (IsAnswer accepted top) answers

-- ---- commands that are acknowledged together

-- each is acknowledged under its number, if these commands come after those before
pub acks_acked : (accepted before commands : List Command) (top n : ℕ) → n ≡ length before → accepted ≡ before ++ commands → length accepted ≡ top → Each (IsAcked accepted top) (acks_after n commands)
acks_acked accepted before [] top n after is all = tt
acks_acked accepted before (command ∷ commands) top n after is all =
    let long : length accepted ≡ length before + length (command ∷ commands) = ap length is ∙ length-append before (command ∷ commands) in
    let longer : length (before ++ command ∷ []) ≡ length before + 1 = length-append before (command ∷ []) in
    let here : slice_get accepted n ≡ Some command = ap (λ xs. slice_get xs n) is ∙ ap (slice_get (before ++ command ∷ commands)) after ∙ slice_get-middle before command commands in (
      record { counted = omega arith; within = omega arith; command = ap (slice_get accepted) (omega arith) ∙ here },
      acks_acked accepted (before ++ command ∷ []) commands top (n + 1) (omega arith) (is ∙ sym (append_assoc before (command ∷ []) commands)) all,
    )

-- ---- other commands after that number

-- the same commands up to the number
abbrev pub Agree : ℕ → List Command → List Command → Type 0
Agree top accepted others = (n : ℕ) → n ≤ top → take n others ≡ take n accepted

pub same_state : (top : ℕ) (accepted others : List Command) → Agree top accepted others → (n : ℕ) → n ≤ top → state_after others n ≡ state_after accepted n
same_state top accepted others agree n within = ap (fold opening_state) (agree n within)

acked_on : (top more : ℕ) (accepted others : List Command) → Agree top accepted others → top ≤ more → (ack : Ack) → IsAcked accepted top ack → IsAcked others more ack
acked_on top more accepted others agree up ack h = record {
  counted = h.counted;
  within = omega arith;
  command = sym (slice_get-take ack.number others (ack.number - 1) (omega arith)) ∙ ap (λ xs. slice_get xs (ack.number - 1)) (agree ack.number h.within) ∙ slice_get-take ack.number accepted (ack.number - 1) (omega arith) ∙ h.command;
}

answered_on : (top more : ℕ) (accepted others : List Command) → Agree top accepted others → top ≤ more → (lookup : Lookup) → IsAnswer accepted top lookup → IsAnswer others more lookup
answered_on top more accepted others agree up lookup h = record {
  within = omega arith;
  verdict = h.verdict ∙ ap (λ state. select state lookup.packet) (sym (same_state top accepted others agree lookup.answer.number h.within));
}

served_on : (top : ℕ) (accepted others : List Command) (versions : List State) → Agree top accepted others → (looker : LookerState) → IsServed accepted top versions looker → IsServed others top versions looker
served_on top accepted others versions agree offline h = tt
served_on top accepted others versions agree (online announced None) h = h
served_on top accepted others versions agree (online announced (Some held)) h = record { low = h.low; within = h.within; is_kept = h.is_kept ∙ ap Some (sym (same_state top accepted others agree held h.within)) }

pub history_on : (top : ℕ) (accepted others : List Command) (versions : List State) (lookers : List LookerState) (acks : List Ack) (answers : List Lookup) → Agree top accepted others → IsHistory accepted top versions lookers acks answers → IsHistory others top versions lookers acks answers
history_on top accepted others versions lookers acks answers agree h = record {
  bounded = h.bounded;
  top_kept = h.top_kept ∙ ap Some (sym (same_state top accepted others agree top (omega arith)));
  served = each_implies (IsServed accepted top versions) (IsServed others top versions) (served_on top accepted others versions agree) lookers h.served;
  acked = each_implies (IsAcked accepted top) (IsAcked others top) (acked_on top top accepted others agree (omega arith)) acks h.acked;
  answered = each_implies (IsAnswer accepted top) (IsAnswer others top) (answered_on top top accepted others agree (omega arith)) answers h.answered;
}

-- ---- one version more

served_by_more : (accepted : List Command) (top : ℕ) (versions : List State) (more : State) → top < more.count → (looker : LookerState) → IsServed accepted top versions looker → IsServed accepted more.count (versions ++ more ∷ []) looker
served_by_more accepted top versions more above offline h = tt
served_by_more accepted top versions more above (online announced None) h = omega arith
served_by_more accepted top versions more above (online announced (Some held)) h = record { low = h.low; within = omega arith; is_kept = kept_before versions (state_after accepted held) more held h.is_kept }

pub history_published : (accepted : List Command) (top : ℕ) (versions : List State) (lookers : List LookerState) (acks : List Ack) (answers : List Lookup) (more : State) → top < more.count → more ≡ state_after accepted more.count → IsHistory accepted top versions lookers acks answers → IsHistory accepted more.count (versions ++ more ∷ []) lookers acks answers
history_published accepted top versions lookers acks answers more above is h = record {
  bounded = each_append (λ state. state.count ≤ more.count) versions (more ∷ []) (each_implies (λ state. state.count ≤ top) (λ state. state.count ≤ more.count) (λ state low. omega arith) versions h.bounded) (omega arith, tt);
  top_kept = kept_new versions top more above h.bounded ∙ ap Some is;
  served = each_implies (IsServed accepted top versions) (IsServed accepted more.count (versions ++ more ∷ [])) (served_by_more accepted top versions more above) lookers h.served;
  acked = each_implies (IsAcked accepted top) (IsAcked accepted more.count) (acked_on top more.count accepted accepted (λ n within. refl) (omega arith)) acks h.acked;
  answered = each_implies (IsAnswer accepted top) (IsAnswer accepted more.count) (answered_on top more.count accepted accepted (λ n within. refl) (omega arith)) answers h.answered;
}

-- ---- opened again, with the durable commands alone

pub history_reopened : (accepted : List Command) (top : ℕ) (versions : List State) (lookers : List LookerState) (acks : List Ack) (answers : List Lookup) (disk : State) → top ≤ disk.count → disk ≡ state_after accepted disk.count → IsHistory accepted top versions lookers acks answers → IsHistory (take disk.count accepted) disk.count (disk ∷ []) (replicate PLACES offline) acks answers
history_reopened accepted top versions lookers acks answers disk low is h =
    let agree : Agree top accepted (take disk.count accepted) = λ n within. take-take n disk.count accepted (omega arith) in
    record {
      bounded = (omega arith, tt);
      top_kept = kept_alone disk ∙ ap Some (is ∙ ap (fold opening_state) (sym (take-take disk.count disk.count accepted (omega arith))));
      served = each_replicate (IsServed (take disk.count accepted) disk.count (disk ∷ [])) PLACES offline tt;
      acked = each_implies (IsAcked accepted top) (IsAcked (take disk.count accepted) disk.count) (acked_on top disk.count accepted (take disk.count accepted) agree low) acks h.acked;
      answered = each_implies (IsAnswer accepted top) (IsAnswer (take disk.count accepted) disk.count) (answered_on top disk.count accepted (take disk.count accepted) agree low) answers h.answered;
    }

-- ---- versions that are given up

-- the versions that stay
abbrev pub stays : ℕ → List (Option ℕ) → ℕ → Bool
stays noted announced n = not (is_reclaimable noted announced n)

pub not_retired : (noted n : ℕ) (announced : List (Option ℕ)) → noted ≤ n → stays noted announced n ≡ true
not_retired noted n announced up =
    let above : nat_lt n noted ≡ false = grind (arith, nat_tests) in
    ap (λ b. not (b && not (list_any (may_hold n) announced))) above

stays_by : (b : Bool) → not (b && false) ≡ true
stays_by true = refl
stays_by false = refl

pub held_back : (noted n : ℕ) (announced : List (Option ℕ)) → list_any (may_hold n) announced ≡ true → stays noted announced n ≡ true
held_back noted n announced held = ap (λ b. not (nat_lt n noted && not b)) held ∙ stays_by (nat_lt n noted)

pub or_later : (b c : Bool) → c ≡ true → (b || c) ≡ true
or_later true c h = refl
or_later false c h = h

served_reclaimed : (accepted : List Command) (top noted : ℕ) (versions : List State) (announced : List (Option ℕ)) (looker : LookerState) → ((n : ℕ) → may_hold n (announced_by looker) ≡ true → list_any (may_hold n) announced ≡ true) → IsServed accepted top versions looker → IsServed accepted top (after_reclaim (λ state. state.count) noted announced versions) looker
served_reclaimed accepted top noted versions announced offline among h = tt
served_reclaimed accepted top noted versions announced (online number None) among h = h
served_reclaimed accepted top noted versions announced (online number (Some held)) among h =
    let low : nat_le number held ≡ true = grind (arith, nat_tests, h.low) in
    record { low = h.low; within = h.within; is_kept = kept_filtered (stays noted announced) versions held (held_back noted held announced (among held low)) ∙ h.is_kept }

lookers_reclaimed : (accepted : List Command) (top noted : ℕ) (versions : List State) (announced : List (Option ℕ)) (lookers : List LookerState) → ((n : ℕ) → list_any (may_hold n) (map announced_by lookers) ≡ true → list_any (may_hold n) announced ≡ true) → Each (IsServed accepted top versions) lookers → Each (IsServed accepted top (after_reclaim (λ state. state.count) noted announced versions)) lookers
lookers_reclaimed accepted top noted versions announced [] among h = tt
lookers_reclaimed accepted top noted versions announced (looker ∷ lookers) among h = (
  served_reclaimed accepted top noted versions announced looker (λ n here. among n (ap (λ b. b || list_any (may_hold n) (map announced_by lookers)) here)) h.0,
  lookers_reclaimed accepted top noted versions announced lookers (λ n later. among n (or_later (may_hold n (announced_by looker)) (list_any (may_hold n) (map announced_by lookers)) later)) h.1,
)

pub history_reclaimed : (accepted : List Command) (top noted : ℕ) (versions : List State) (lookers : List LookerState) (acks : List Ack) (answers : List Lookup) → noted ≤ top → IsHistory accepted top versions lookers acks answers → IsHistory accepted top (after_reclaim (λ state. state.count) noted (map announced_by lookers) versions) lookers acks answers
history_reclaimed accepted top noted versions lookers acks answers low h = record {
  bounded = each_filtered (λ state. state.count ≤ top) (λ state. stays noted (map announced_by lookers) state.count) versions h.bounded;
  top_kept = kept_filtered (stays noted (map announced_by lookers)) versions top (not_retired noted top (map announced_by lookers) low) ∙ h.top_kept;
  served = lookers_reclaimed accepted top noted versions (map announced_by lookers) lookers (λ n among. among) h.served;
  acked = h.acked;
  answered = h.answered;
}
