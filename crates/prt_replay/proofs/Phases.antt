-- What every event keeps.
use Rattle.std.proofs.Common.{◌≡◌, ◌⊎◌, inl, inr, ℕ, ◌+◌, ◌-◌, ◌<◌, ◌≤◌, Bool, true, false, List, [], ◌∷◌, ◌++◌, Option, Some, None, length, take, refl, sym, ap, ◌∙◌, subst, arith, cond}
use Rattle.std.specs.Prelude.{nat_lt, unwrap_or}
use Rattle.std.specs.List.{AllByRecursion as Each}
use Rattle.std.proofs.lemmas.Bool.Decides.{nat_tests}
use Rattle.std.proofs.lemmas.List.{length-append, length-take-le, take-append-le, take_all}
use Rattle.prt_refusals.specs.declared.refusal.Refusal.{Refusal}
use Rattle.prt_refusals.specs.declared.refusal.StoreCall.TheVariants.{Begin, Write, Count, Commit}
use Rattle.prt_addr.proofs.Each.{each_append}
use Rattle.prt_command.specs.declared.request.Command.{Command}
use Rattle.prt_rule.specs.declared.packet.Packet.{Packet}
use Rattle.prt_version.specs.Accepted.{IsAccepted, refusal_all}
use Rattle.prt_version.specs.Change.{fold}
use Rattle.prt_version.specs.Select.{select}
use Rattle.prt_version.specs.State.{State, opening_state}
use Rattle.prt_version.proofs.Folds.{accepted_all, count_fold}
use Rattle.prt_replay.specs.Durability.{state_after}
use Rattle.prt_replay.specs.World as world
use Rattle.prt_replay.specs.World.{Ack, Lookup, LookerState, World, Phase, Ready, Prepared, Committed, Published, Noted, Closed, Stopped, acks_after, announced_by, kept, offline, online, published_version, start, step, stopped, run_from, version, with_count}
use Rattle.prt_replay.specs.declared.event.Event.{Event}
use Rattle.prt_replay.specs.declared.event.Event.TheVariants as events
use Rattle.prt_replay.specs.declared.event.Fate.{Fate}
use Rattle.prt_replay.specs.declared.event.Fate.TheVariants.{Kept}
use Rattle.prt_replay.proofs.Folds.{state_after_more, taken_before, written_whole}
use Rattle.prt_replay.proofs.History.{Agree, IsAcked, IsAnswer, IsHistory, IsServed, acks_acked, history_on, history_published, history_reclaimed, history_reopened, same_state}
use Rattle.prt_grace.specs.declared.limits.TheConstants.{PLACES}
use Rattle.prt_replay.proofs.KeptVersions.{each_get, each_replicate, each_set, kept_alone, kept_count}

-- ---- the invariant

-- How many commands were accepted, are durable, published and noted.
pub record IsCounted (accepted last : List Command) (disk : State) (published noted : ℕ) : Type 0 where
  pub published_low : published ≤ disk.count
  pub durable_low : disk.count ≤ length accepted
  pub all_or_none : (disk.count ≡ length accepted) ⊎ (accepted ≡ take disk.count accepted ++ last)
  pub noted_low : noted ≤ published
  pub all_noted : (published ≡ noted) ⊎ (published ≡ noted + length last)
  pub prefix : disk ≡ state_after accepted disk.count

-- all accepted commands are durable, published and noted
pub record IsSettled (accepted : List Command) (disk : State) (published noted : ℕ) : Type 0 where
  pub all : length accepted ≡ disk.count
  pub shown : published ≡ disk.count
  pub known : noted ≡ published

-- the transaction of the commands that were accepted last is open
pub record IsOpen (accepted last : List Command) (disk : State) (published noted : ℕ) (commands : List Command) : Type 0 where
  pub ends : accepted ≡ take disk.count accepted ++ commands
  pub more : length accepted ≡ disk.count + length commands
  pub shown : published ≡ disk.count
  pub known : noted ≡ published
  pub allowed : IsAccepted disk commands
  pub some : 1 ≤ length commands
  pub together : last ≡ commands

-- the commands that were accepted last are durable, and not published
pub record IsStored (accepted last : List Command) (disk : State) (published noted : ℕ) (commands : List Command) : Type 0 where
  pub all : length accepted ≡ disk.count
  pub next : disk.count ≡ published + length commands
  pub known : noted ≡ published
  pub after : disk ≡ fold (state_after accepted published) commands
  pub ends : accepted ≡ take published accepted ++ commands
  pub some : 1 ≤ length commands
  pub together : last ≡ commands

-- the commands that were accepted last are published
pub record IsShown (accepted last : List Command) (disk : State) (published : ℕ) (commands : List Command) : Type 0 where
  pub all : length accepted ≡ disk.count
  pub shown : published ≡ disk.count
  pub within : length commands ≤ published
  pub ends : accepted ≡ take (published - length commands) accepted ++ commands
  pub some : 1 ≤ length commands
  pub together : last ≡ commands

abbrev pub IsInPhase : List Command → List Command → State → State → ℕ → ℕ → Phase → Type 0
IsInPhase accepted last disk pending published noted Ready = IsSettled accepted disk published noted
IsInPhase accepted last disk pending published noted (Prepared commands done Begin) = IsSettled accepted disk published noted × IsAccepted disk commands × (1 ≤ length commands)
IsInPhase accepted last disk pending published noted (Prepared commands done Write) = IsOpen accepted last disk published noted commands × (done < length commands)
IsInPhase accepted last disk pending published noted (Prepared commands done Count) = IsOpen accepted last disk published noted commands × (done ≡ length commands) × (pending ≡ with_count disk.count (fold disk commands))
IsInPhase accepted last disk pending published noted (Prepared commands done Commit) = IsOpen accepted last disk published noted commands × (done ≡ length commands) × (pending ≡ fold disk commands)
IsInPhase accepted last disk pending published noted (Committed commands) = IsStored accepted last disk published noted commands
IsInPhase accepted last disk pending published noted (Published commands) = IsShown accepted last disk published commands × (published ≡ noted + length commands)
IsInPhase accepted last disk pending published noted (Noted commands) = IsShown accepted last disk published commands × (published ≡ noted)
IsInPhase accepted last disk pending published noted Closed = Unit {0}
IsInPhase accepted last disk pending published noted Stopped = Unit {0}

abbrev pub Phased : World → Phase → Type 0
Phased w phase = IsInPhase w.accepted w.last w.disk w.pending w.published w.noted phase

pub record Holds (w : World) : Type 0 where
  pub counts : IsCounted w.accepted w.last w.disk w.published w.noted
  pub history : IsHistory w.accepted w.published w.versions w.lookers w.acks w.answers
  pub phased : Phased w w.phase

-- ---- commands that are made together

pub shown_version : (w : World) → Holds w → published_version w ≡ state_after w.accepted w.published
shown_version w h = ap (λ found. unwrap_or found opening_state) h.history.top_kept

-- if all is settled, the published version is what is on disk
pub settled_version : (w : World) → Holds w → IsSettled w.accepted w.disk w.published w.noted → published_version w ≡ w.disk
settled_version w h settled = shown_version w h ∙ ap (state_after w.accepted) settled.shown ∙ sym h.counts.prefix

prepare_holds : (w : World) (commands : List Command) (reason : Option Refusal) (room : Bool) → 1 ≤ length commands → refusal_all (published_version w) commands ≡ reason → Holds w → IsSettled w.accepted w.disk w.published w.noted → Holds (world.prepare w commands reason room).world
prepare_holds w commands (Some reason) room some asked h settled = h
prepare_holds w commands None false some asked h settled = h
prepare_holds w commands None true some asked h settled = record { counts = h.counts; history = h.history; phased = (settled, accepted_all w.disk commands (ap (λ state. refusal_all state commands) (sym (settled_version w h settled)) ∙ asked), some) }

submit_holds : (w : World) (commands : List Command) (phase : Phase) → Holds w → Phased w phase → Holds (world.submit w commands phase).world
submit_holds w [] phase h phased = h
submit_holds w (first ∷ more) Ready h phased = prepare_holds w (first ∷ more) (refusal_all (published_version w) (first ∷ more)) (world.has_room w) (omega arith) refl h phased
submit_holds w (first ∷ more) Closed h phased = h
submit_holds w (first ∷ more) phase h phased = h

-- ---- a store call

-- the commands are accepted
pub begin_holds : (w : World) (commands : List Command) → Holds w → IsSettled w.accepted w.disk w.published w.noted → IsAccepted w.disk commands → 1 ≤ length commands → Holds (world.begun w commands)
begin_holds w commands h settled allowed some =
    let longer : length (w.accepted ++ commands) ≡ length w.accepted + length commands = length-append w.accepted commands in
    let all : length w.accepted ≡ w.disk.count = settled.all in
    let agree : Agree w.disk.count w.accepted (w.accepted ++ commands) = λ n within. take-append-le n w.accepted commands (omega arith) in
    let shown : w.published ≡ w.disk.count = settled.shown in
    let whole : take w.disk.count (w.accepted ++ commands) ≡ w.accepted = ap (λ n. take n (w.accepted ++ commands)) (sym all) ∙ taken_before w.accepted commands in
    let ends : w.accepted ++ commands ≡ take w.disk.count (w.accepted ++ commands) ++ commands = ap (λ xs. xs ++ commands) (sym whole) in
    record {
      counts = record {
        published_low = h.counts.published_low;
        durable_low = omega (arith, h.counts.durable_low);
        all_or_none = inr ends;
        noted_low = h.counts.noted_low;
        all_noted = inl (sym settled.known);
        prefix = h.counts.prefix ∙ sym (same_state w.disk.count w.accepted (w.accepted ++ commands) agree w.disk.count (omega arith));
      };
      history = history_on w.published w.accepted (w.accepted ++ commands) w.versions w.lookers w.acks w.answers (λ n within. agree n (omega arith)) h.history;
      phased = (record { ends = ends; more = omega arith; shown = settled.shown; known = settled.known; allowed = allowed; some = some; together = refl }, some);
    }

written_by : (w : World) (commands : List Command) (done : ℕ) (b : Bool) → nat_lt (done + 1) (length commands) ≡ b → IsOpen w.accepted w.last w.disk w.published w.noted commands → done < length commands → IsInPhase w.accepted w.last w.disk (with_count w.disk.count (fold w.disk (take (done + 1) commands))) w.published w.noted (Prepared commands (done + 1) (cond b Write Count))
written_by w commands done true asked opened within = (opened, grind (arith, nat_tests))
written_by w commands done false asked opened within =
    let last : length commands ≤ done + 1 = grind (arith, nat_tests) in
    (opened, omega arith, ap (λ xs. with_count w.disk.count (fold w.disk xs)) (take_all (done + 1) commands last))

-- the rows of one command more are written
write_holds : (w : World) (commands : List Command) (done : ℕ) → Holds w → IsOpen w.accepted w.last w.disk w.published w.noted commands → done < length commands → Holds (world.written w commands done)
write_holds w commands done h opened within = record { counts = h.counts; history = h.history; phased = written_by w commands done (nat_lt (done + 1) (length commands)) refl opened within }

-- the disk after the commit call
commit_counts : (w : World) (commands : List Command) → Holds w → IsOpen w.accepted w.last w.disk w.published w.noted commands → w.pending ≡ fold w.disk commands → IsCounted w.accepted w.last w.pending w.published w.noted
commit_counts w commands h opened made =
    let more : length w.accepted ≡ w.disk.count + length commands = opened.more in
    let shown : w.published ≡ w.disk.count = opened.shown in
    let counted : w.pending.count ≡ w.disk.count + length commands = ap (λ state. state.count) made ∙ count_fold w.disk commands opened.allowed in
    record {
      published_low = omega arith;
      durable_low = omega arith;
      all_or_none = inl (omega arith);
      noted_low = h.counts.noted_low;
      all_noted = h.counts.all_noted;
      prefix = made ∙ state_after_more w.disk w.accepted commands h.counts.prefix opened.ends more opened.allowed ∙ ap (λ state. state_after w.accepted state.count) (sym made);
    }

commit_holds : (w : World) (commands : List Command) → Holds w → IsOpen w.accepted w.last w.disk w.published w.noted commands → w.pending ≡ fold w.disk commands → Holds (world.committed w commands)
commit_holds w commands h opened made =
    let more : length w.accepted ≡ w.disk.count + length commands = opened.more in
    let counted : w.pending.count ≡ w.disk.count + length commands = ap (λ state. state.count) made ∙ count_fold w.disk commands opened.allowed in
    let shown : w.published ≡ w.disk.count = opened.shown in
    record {
      counts = commit_counts w commands h opened made;
      history = h.history;
      phased = record {
        all = omega arith;
        next = omega arith;
        known = opened.known;
        after = made ∙ ap (λ state. fold state commands) (h.counts.prefix ∙ ap (state_after w.accepted) (sym shown));
        ends = opened.ends ∙ ap (λ n. take n w.accepted ++ commands) (sym shown);
        some = opened.some;
        together = opened.together;
      };
    }

call_holds : (w : World) (phase : Phase) → Holds w → Phased w phase → Holds (world.call w phase).world
call_holds w (Prepared commands done Begin) h phased = begin_holds w commands h phased.0 phased.1 phased.2
call_holds w (Prepared commands done Write) h phased = write_holds w commands done h phased.0 phased.1
call_holds w (Prepared commands done Count) h phased = record { counts = h.counts; history = h.history; phased = (phased.0, refl, ap (with_count (w.disk.count + length commands)) phased.2 ∙ written_whole w.disk commands phased.0.allowed) }
call_holds w (Prepared commands done Commit) h phased = commit_holds w commands h phased.0 phased.2
call_holds w phase h phased = h

-- ---- a stop

stopped_counts : (w : World) (fate : Fate) (phase : Phase) → Holds w → Phased w phase → IsCounted w.accepted w.last (stopped w fate phase) w.published w.noted
stopped_counts w Kept (Prepared commands done Commit) h phased = commit_counts w commands h phased.0 phased.2
stopped_counts w fate phase h phased = h.counts

fail_holds : (w : World) (fate : Fate) (phase : Phase) → Holds w → Phased w phase → Holds (world.fail w fate phase).world
fail_holds w fate (Prepared commands done next) h phased = record { counts = stopped_counts w fate (Prepared commands done next) h phased; history = h.history; phased = tt }
fail_holds w fate phase h phased = h

stop_holds : (w : World) (fate : Fate) → Holds w → Holds (world.stop w fate).world
stop_holds w fate h = record { counts = stopped_counts w fate w.phase h h.phased; history = h.history; phased = tt }

pub reopened_holds : (w : World) → Holds w → Holds (world.reopened w)
reopened_holds w h =
    let long : length (take w.disk.count w.accepted) ≡ w.disk.count = length-take-le w.disk.count w.accepted h.counts.durable_low in
    let history : IsHistory (take w.disk.count w.accepted) w.disk.count (w.disk ∷ []) (world.reopened w).lookers w.acks w.answers = history_reopened w.accepted w.published w.versions w.lookers w.acks w.answers w.disk h.counts.published_low h.counts.prefix h.history in
    record {
      counts = record {
        published_low = omega arith;
        durable_low = omega arith;
        all_or_none = inl (sym long);
        noted_low = omega arith;
        all_noted = inl refl;
        prefix = some_same w.disk (state_after (take w.disk.count w.accepted) w.disk.count) (sym (kept_alone w.disk) ∙ history.top_kept);
      };
      history = history;
      phased = record { all = long; shown = refl; known = refl };
    }
  where
    some_same : (a b : State) → Some a ≡ Some b → a ≡ b
    some_same a b e = cc

reopen_holds : (w : World) (phase : Phase) → Holds w → Holds (world.reopen w phase).world
reopen_holds w Closed h = reopened_holds w h
reopen_holds w Stopped h = reopened_holds w h
reopen_holds w phase h = h

-- ---- the version of committed commands

publish_holds : (w : World) (phase : Phase) → Holds w → Phased w phase → Holds (world.publish w phase).world
publish_holds w (Committed commands) h phased =
    let all : length w.accepted ≡ w.disk.count = phased.all in
    let next : w.disk.count ≡ w.published + length commands = phased.next in
    let known : w.noted ≡ w.published = phased.known in
    let some : 1 ≤ length commands = phased.some in
    let long : length w.last ≡ length commands = ap length phased.together in
    let made : fold (published_version w) commands ≡ w.disk = ap (λ state. fold state commands) (shown_version w h) ∙ sym phased.after in
    let history : IsHistory w.accepted w.disk.count (w.versions ++ w.disk ∷ []) w.lookers w.acks w.answers = history_published w.accepted w.published w.versions w.lookers w.acks w.answers w.disk (omega arith) h.counts.prefix h.history in
    let before : w.published ≡ w.disk.count - length commands = omega arith in
    record {
      counts = record {
        published_low = omega arith;
        durable_low = h.counts.durable_low;
        all_or_none = h.counts.all_or_none;
        noted_low = omega arith;
        all_noted = inr (omega arith);
        prefix = h.counts.prefix;
      };
      history = subst (λ state. IsHistory w.accepted w.disk.count (w.versions ++ state ∷ []) w.lookers w.acks w.answers) (sym made) history;
      phased = (record { all = all; shown = refl; within = omega arith; ends = phased.ends ∙ ap (λ n. take n w.accepted ++ commands) before; some = some; together = phased.together }, omega arith);
    }
publish_holds w phase h phased = h

fail_publication_holds : (w : World) (phase : Phase) → Holds w → Holds (world.fail_publication w phase).world
fail_publication_holds w (Committed commands) h = record { counts = h.counts; history = h.history; phased = tt }
fail_publication_holds w phase h = h

note_holds : (w : World) (phase : Phase) → Holds w → Phased w phase → Holds (world.note w phase).world
note_holds w (Published commands) h phased = record {
  counts = record {
    published_low = h.counts.published_low;
    durable_low = h.counts.durable_low;
    all_or_none = h.counts.all_or_none;
    noted_low = omega arith;
    all_noted = inl refl;
    prefix = h.counts.prefix;
  };
  history = h.history;
  phased = (phased.0, refl);
}
note_holds w phase h phased = h

-- each of the commands is acknowledged under its number
shown_acks : (w : World) (commands : List Command) → IsShown w.accepted w.last w.disk w.published commands → Each (IsAcked w.accepted w.published) (acks_after (w.published - length commands) commands)
shown_acks w commands shown =
    let top : w.published ≡ length w.accepted = shown.shown ∙ sym shown.all in
    acks_acked w.accepted (take (w.published - length commands) w.accepted) commands w.published (w.published - length commands) (sym (length-take-le (w.published - length commands) w.accepted (omega arith))) shown.ends (sym top)

ack_holds : (w : World) (phase : Phase) → Holds w → Phased w phase → Holds (world.acknowledge w phase).world
ack_holds w (Noted commands) h phased = record {
  counts = h.counts;
  history = record {
    bounded = h.history.bounded;
    top_kept = h.history.top_kept;
    served = h.history.served;
    acked = each_append (IsAcked w.accepted w.published) w.acks (acks_after (w.published - length commands) commands) h.history.acked (shown_acks w commands phased.0);
    answered = h.history.answered;
  };
  phased = record { all = phased.0.all; shown = phased.0.shown; known = sym phased.1 };
}
ack_holds w phase h phased = h

-- ---- lookers

-- one looker changes
looker_holds : (w : World) (looker : ℕ) (state : LookerState) → Holds w → IsServed w.accepted w.published w.versions state → Holds (world.with_looker w looker state)
looker_holds w looker state h served = record {
  counts = h.counts;
  history = record {
    bounded = h.history.bounded;
    top_kept = h.history.top_kept;
    served = each_set (IsServed w.accepted w.published w.versions) w.lookers looker state served h.history.served;
    acked = h.history.acked;
    answered = h.history.answered;
  };
  phased = h.phased;
}

abbrev Served : World → LookerState → Type 0
Served w state = IsServed w.accepted w.published w.versions state

online_holds : (w : World) (looker : ℕ) (state : LookerState) → Holds w → Holds (world.go_online w looker state).world
online_holds w looker offline h = looker_holds w looker (online w.noted None) h h.counts.noted_low
online_holds w looker (online announced held) h = h

announced_low : (w : World) (announced : ℕ) (held : Option ℕ) → Served w (online announced held) → announced ≤ w.published
announced_low w announced None served = served
announced_low w announced (Some held) served = omega (arith, served.low, served.within)

fetch_holds : (w : World) (looker : ℕ) (state : LookerState) → Holds w → Served w state → Holds (world.fetch w looker state).world
fetch_holds w looker offline h served = h
fetch_holds w looker (online announced held) h served = looker_holds w looker (online announced (Some w.published)) h (record { low = announced_low w announced held served; within = omega arith; is_kept = h.history.top_kept })

announce_holds : (w : World) (looker : ℕ) (state : LookerState) → Holds w → Served w state → Holds (world.announce w looker state).world
announce_holds w looker offline h served = h
announce_holds w looker (online announced None) h served = h
announce_holds w looker (online announced (Some held)) h served = looker_holds w looker (online held (Some held)) h (record { low = omega arith; within = served.within; is_kept = served.is_kept })

offline_holds : (w : World) (looker : ℕ) (state : LookerState) → Holds w → Holds (world.go_offline w looker state).world
offline_holds w looker offline h = h
offline_holds w looker (online announced held) h = looker_holds w looker offline h tt

-- the version that is kept under a number
pub version_kept : (w : World) (number : ℕ) (state : State) → kept w.versions number ≡ Some state → version w number ≡ state
version_kept w number state is = ap (λ found. unwrap_or found opening_state) is

look_holds : (w : World) (packet : Packet) (state : LookerState) → Holds w → Served w state → Holds (world.look w packet state).world
look_holds w packet offline h served = h
look_holds w packet (online announced None) h served = h
look_holds w packet (online announced (Some held)) h served =
    let is : version w held ≡ state_after w.accepted held = version_kept w held (state_after w.accepted held) served.is_kept in
    let number : (version w held).count ≡ held = ap (λ state. state.count) is ∙ kept_count w.versions held (state_after w.accepted held) served.is_kept in
    let within : held ≤ w.published = served.within in
    record {
      counts = h.counts;
      history = record {
        bounded = h.history.bounded;
        top_kept = h.history.top_kept;
        served = h.history.served;
        acked = h.history.acked;
        answered = each_append (IsAnswer w.accepted w.published) w.answers (record { packet = packet; answer = world.answer_by (version w held) packet } ∷ []) h.history.answered (record { within = omega arith; verdict = ap (λ state. select state packet) (is ∙ ap (state_after w.accepted) (sym number)) }, tt);
      };
      phased = h.phased;
    }

reclaim_holds : (w : World) → Holds w → Holds (world.reclaim w).world
reclaim_holds w h = record { counts = h.counts; history = history_reclaimed w.accepted w.published w.noted w.versions w.lookers w.acks w.answers h.counts.noted_low h.history; phased = h.phased }

-- ---- one event, and many

unless_holds : (w : World) (after : world.Step) (b : Bool) → Holds w → Holds after.world → Holds (cond b (world.unmet w) after).world
unless_holds w after true h later = h
unless_holds w after false h later = later

pub looker_served : (w : World) (looker : ℕ) → Holds w → Served w (world.looker_state w looker)
looker_served w looker h = each_get (IsServed w.accepted w.published w.versions) w.lookers looker offline tt h.history.served

pub step_holds : (w : World) (event : Event) → Holds w → Holds (step w event).world
step_holds w (events.Submit command) h = submit_holds w (command ∷ []) w.phase h h.phased
step_holds w (events.SubmitAll commands) h = submit_holds w commands w.phase h h.phased
step_holds w events.Call h = call_holds w w.phase h h.phased
step_holds w (events.Fail fate) h = fail_holds w fate w.phase h h.phased
step_holds w events.Publish h = publish_holds w w.phase h h.phased
step_holds w events.PublishFail h = fail_publication_holds w w.phase h
step_holds w events.Note h = note_holds w w.phase h h.phased
step_holds w events.Ack h = ack_holds w w.phase h h.phased
step_holds w (events.Online looker) h = unless_holds w (world.go_online w looker (world.looker_state w looker)) (world.is_stopped w.phase) h (online_holds w looker (world.looker_state w looker) h)
step_holds w (events.Fetch looker) h = unless_holds w (world.fetch w looker (world.looker_state w looker)) (world.is_stopped w.phase) h (fetch_holds w looker (world.looker_state w looker) h (looker_served w looker h))
step_holds w (events.Announce looker) h = unless_holds w (world.announce w looker (world.looker_state w looker)) (world.is_stopped w.phase) h (announce_holds w looker (world.looker_state w looker) h (looker_served w looker h))
step_holds w (events.Offline looker) h = unless_holds w (world.go_offline w looker (world.looker_state w looker)) (world.is_stopped w.phase) h (offline_holds w looker (world.looker_state w looker) h)
step_holds w (events.Look looker packet) h = unless_holds w (world.look w packet (world.looker_state w looker)) (world.is_stopped w.phase) h (look_holds w packet (world.looker_state w looker) h (looker_served w looker h))
step_holds w events.Reclaim h = unless_holds w (world.reclaim w) (world.is_stopped w.phase) h (reclaim_holds w h)
step_holds w (events.Stop fate) h = unless_holds w (world.stop w fate) (world.is_stopped w.phase) h (stop_holds w fate h)
step_holds w events.Reopen h = reopen_holds w w.phase h

pub start_holds : Holds start
start_holds = record {
  counts = record { published_low = omega arith; durable_low = omega arith; all_or_none = inl refl; noted_low = omega arith; all_noted = inl refl; prefix = refl };
  history = record { bounded = (omega arith, tt); top_kept = refl; served = each_replicate (IsServed [] 0 (opening_state ∷ [])) PLACES offline tt; acked = tt; answered = tt };
  phased = record { all = refl; shown = refl; known = refl };
}

run_holds : (w : World) (events : List Event) → Holds w → Holds (run_from w events)
run_holds w [] h = h
run_holds w (event ∷ events) h = run_holds (step w event).world events (step_holds w event h)

pub every_run_holds : (events : List Event) → Holds (run_from start events)
every_run_holds events = run_holds start events start_holds
