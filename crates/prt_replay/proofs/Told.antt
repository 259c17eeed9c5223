-- Which commands were acknowledged since the database was opened last.
use Rattle.std.proofs.Common.{◌≡◌, ℕ, ◌+◌, ◌-◌, ◌<◌, ◌≤◌, Bool, true, false, ◌||◌, List, [], ◌∷◌, ◌++◌, Option, Some, None, length, take, sym, ap, ◌∙◌, arith, cond, inl, inr}
use Rattle.std.specs.Prelude.{◌==◌, nat_lt}
use Rattle.std.specs.List.{list_any}
use Rattle.std.proofs.lemmas.Bool.{cases_eq, cases_lt}
use Rattle.std.proofs.lemmas.List.{length-append, length-take-le}
use Rattle.std.proofs.lemmas.List.Folds.{list_any-append}
use Rattle.prt_refusals.specs.declared.refusal.Refusal.{Refusal}
use Rattle.prt_refusals.specs.declared.refusal.StoreCall.TheVariants.{Begin, Write, Count, Commit}
use Rattle.prt_command.specs.declared.request.Command.{Command}
use Rattle.prt_rule.specs.declared.packet.Packet.{Packet}
use Rattle.prt_version.specs.Accepted.{refusal_all}
use Rattle.prt_replay.specs.Durability.{is_acknowledged, last_opening, opened_count}
use Rattle.prt_replay.specs.World as world
use Rattle.prt_replay.specs.World.{Ack, LookerState, Step, World, Phase, Ready, Prepared, Committed, Published, Noted, Closed, Stopped, acks_after, looker_state, offline, online, outcomes_from, published_version, run_from, start, step}
use Rattle.prt_replay.specs.declared.event.Event.{Event}
use Rattle.prt_replay.specs.declared.event.Event.TheVariants as events
use Rattle.prt_replay.specs.declared.event.Fate.{Fate}
use Rattle.prt_replay.proofs.History.{or_later}
use Rattle.prt_replay.proofs.KeptVersions.{same_number}
use Rattle.prt_replay.proofs.Phases.{Holds, Phased, start_holds, step_holds}

-- up to this number all commands since the opening are acknowledged
abbrev pub told_to : List Command → List Command → Phase → ℕ
told_to accepted last Ready = length accepted
told_to accepted last (Prepared commands done Begin) = length accepted
told_to accepted last (Prepared commands done Write) = length accepted - length last
told_to accepted last (Prepared commands done Count) = length accepted - length last
told_to accepted last (Prepared commands done Commit) = length accepted - length last
told_to accepted last (Committed commands) = length accepted - length last
told_to accepted last (Published commands) = length accepted - length last
told_to accepted last (Noted commands) = length accepted - length last
told_to accepted last Closed = length accepted - length last
told_to accepted last Stopped = length accepted - length last

abbrev pub AreTold : ℕ → List Command → List Command → List Ack → Phase → Type 0
AreTold since accepted last acks phase = (number : ℕ) → since < number → number ≤ told_to accepted last phase → is_acknowledged acks number ≡ true

-- what is reported of a world, as if this were its phase
abbrev Told : ℕ → World → Phase → Type 0
Told since w phase = AreTold since w.accepted w.last w.acks phase

abbrev ToldAfter : ℕ → Step → Type 0
ToldAfter since s = Told (opened_count since s.outcome) s.world s.world.phase

-- at most those that were accepted last are not
all_but_those : (accepted last : List Command) (phase : Phase) → length accepted - length last ≤ told_to accepted last phase
all_but_those accepted last Ready = omega arith
all_but_those accepted last (Prepared commands done Begin) = omega arith
all_but_those accepted last (Prepared commands done Write) = omega arith
all_but_those accepted last (Prepared commands done Count) = omega arith
all_but_those accepted last (Prepared commands done Commit) = omega arith
all_but_those accepted last (Committed commands) = omega arith
all_but_those accepted last (Published commands) = omega arith
all_but_those accepted last (Noted commands) = omega arith
all_but_those accepted last Closed = omega arith
all_but_those accepted last Stopped = omega arith

any_before : {X : Type 0} (p : X → Bool) (xs ys : List X) → list_any p xs ≡ true → list_any p (xs ++ ys) ≡ true
any_before p xs ys h = list_any-append p xs ys ∙ ap (λ b. b || list_any p ys) h

any_later : {X : Type 0} (p : X → Bool) (xs ys : List X) → list_any p ys ≡ true → list_any p (xs ++ ys) ≡ true
any_later p xs ys h = list_any-append p xs ys ∙ or_later (list_any p xs) (list_any p ys) h

prepare_told : (since : ℕ) (w : World) (commands : List Command) (reason : Option Refusal) (room : Bool) → Told since w Ready → Told since w w.phase → ToldAfter since (world.prepare w commands reason room)
prepare_told since w commands (Some reason) room told now = now
prepare_told since w commands None false told now = now
prepare_told since w commands None true told now = told

submit_told : (since : ℕ) (w : World) (commands : List Command) (phase : Phase) → Told since w phase → Told since w w.phase → ToldAfter since (world.submit w commands phase)
submit_told since w [] phase told now = now
submit_told since w (first ∷ more) Ready told now = prepare_told since w (first ∷ more) (refusal_all (published_version w) (first ∷ more)) (world.has_room w) told now
submit_told since w (first ∷ more) Closed told now = now
submit_told since w (first ∷ more) phase told now = now

written_told : (since : ℕ) (w : World) (commands : List Command) (done : ℕ) (b : Bool) → Told since w (Prepared commands done Write) → Told since w (Prepared commands (done + 1) (cond b Write Count))
written_told since w commands done true told = told
written_told since w commands done false told = told

call_told : (since : ℕ) (w : World) (phase : Phase) → Told since w phase → Told since w w.phase → ToldAfter since (world.call w phase)
call_told since w (Prepared commands done Begin) told now = λ number up within. told number up (omega (arith, length-append w.accepted commands))
call_told since w (Prepared commands done Write) told now = written_told since w commands done (nat_lt (done + 1) (length commands)) told
call_told since w (Prepared commands done Count) told now = told
call_told since w (Prepared commands done Commit) told now = told
call_told since w phase told now = now

fail_told : (since : ℕ) (w : World) (fate : Fate) (phase : Phase) → Told since w phase → Told since w w.phase → ToldAfter since (world.fail w fate phase)
fail_told since w fate (Prepared commands done next) told now = λ number up within. told number up (omega (arith, all_but_those w.accepted w.last (Prepared commands done next)))
fail_told since w fate phase told now = now

stop_told : (since : ℕ) (w : World) (fate : Fate) → Told since w w.phase → ToldAfter since (world.stop w fate)
stop_told since w fate now = λ number up within. now number up (omega (arith, all_but_those w.accepted w.last w.phase))

publish_told : (since : ℕ) (w : World) (phase : Phase) → Told since w phase → Told since w w.phase → ToldAfter since (world.publish w phase)
publish_told since w (Committed commands) told now = told
publish_told since w phase told now = now

fail_publication_told : (since : ℕ) (w : World) (phase : Phase) → Told since w phase → Told since w w.phase → ToldAfter since (world.fail_publication w phase)
fail_publication_told since w (Committed commands) told now = told
fail_publication_told since w phase told now = now

note_told : (since : ℕ) (w : World) (phase : Phase) → Told since w phase → Told since w w.phase → ToldAfter since (world.note w phase)
note_told since w (Published commands) told now = told
note_told since w phase told now = now

-- commands that are acknowledged together have the numbers after n
acks_told : (n number : ℕ) (commands : List Command) → n < number → number ≤ n + length commands → is_acknowledged (acks_after n commands) number ≡ true
acks_told n number [] above within = absurd (omega arith)
acks_told n number (command ∷ commands) above within =
    elim (cases_eq number (n + 1)) [
      | inl here ↦ ap (λ b. b || is_acknowledged (acks_after (n + 1) commands) number) (same_number (n + 1) number (sym here))
      | inr other ↦ or_later (n + 1 == number) (is_acknowledged (acks_after (n + 1) commands) number) (acks_told (n + 1) number commands (omega arith) (omega arith))
    ]

-- those that were accepted last are acknowledged too
last_told : (since n : ℕ) (accepted : List Command) (acks : List Ack) (commands : List Command) → n + length commands ≡ length accepted → ((number : ℕ) → since < number → number ≤ n → is_acknowledged acks number ≡ true) → (number : ℕ) → since < number → number ≤ length accepted → is_acknowledged (acks ++ acks_after n commands) number ≡ true
last_told since n accepted acks commands all told number up within =
    elim (cases_lt n number) [
      | inl later ↦ any_later (λ (ack : Ack). ack.number == number) acks (acks_after n commands) (acks_told n number commands later (omega arith))
      | inr before ↦ any_before (λ (ack : Ack). ack.number == number) acks (acks_after n commands) (told number up before)
    ]

acknowledge_told : (since : ℕ) (w : World) (phase : Phase) → Phased w phase → Told since w phase → Told since w w.phase → ToldAfter since (world.acknowledge w phase)
acknowledge_told since w (Noted commands) phased told now =
    let all : length w.accepted ≡ w.disk.count = phased.0.all in
    let shown : w.published ≡ w.disk.count = phased.0.shown in
    let within : length commands ≤ w.published = phased.0.within in
    let long : length w.last ≡ length commands = ap length phased.0.together in
    last_told since (w.published - length commands) w.accepted w.acks commands (omega arith) (λ number up low. told number up (omega arith))
acknowledge_told since w phase phased told now = now

reopened_told : (w : World) → Holds w → (number : ℕ) → world.durable w < number → number ≤ length (world.reopened w).accepted → is_acknowledged w.acks number ≡ true
reopened_told w h number up within =
    let long : length (take w.disk.count w.accepted) ≡ w.disk.count = length-take-le w.disk.count w.accepted h.counts.durable_low in
    absurd (omega arith)

reopen_told : (since : ℕ) (w : World) (phase : Phase) → Holds w → Told since w w.phase → ToldAfter since (world.reopen w phase)
reopen_told since w Closed h now = reopened_told w h
reopen_told since w Stopped h now = reopened_told w h
reopen_told since w phase h now = now

-- ---- lookers

online_told : (since : ℕ) (w : World) (looker : ℕ) (state : LookerState) → Told since w w.phase → ToldAfter since (world.go_online w looker state)
online_told since w looker offline now = now
online_told since w looker (online announced held) now = now

fetch_told : (since : ℕ) (w : World) (looker : ℕ) (state : LookerState) → Told since w w.phase → ToldAfter since (world.fetch w looker state)
fetch_told since w looker offline now = now
fetch_told since w looker (online announced held) now = now

announce_told : (since : ℕ) (w : World) (looker : ℕ) (state : LookerState) → Told since w w.phase → ToldAfter since (world.announce w looker state)
announce_told since w looker offline now = now
announce_told since w looker (online announced None) now = now
announce_told since w looker (online announced (Some held)) now = now

offline_told : (since : ℕ) (w : World) (looker : ℕ) (state : LookerState) → Told since w w.phase → ToldAfter since (world.go_offline w looker state)
offline_told since w looker offline now = now
offline_told since w looker (online announced held) now = now

look_told : (since : ℕ) (w : World) (packet : Packet) (state : LookerState) → Told since w w.phase → ToldAfter since (world.look w packet state)
look_told since w packet offline now = now
look_told since w packet (online announced None) now = now
look_told since w packet (online announced (Some held)) now = now

-- ---- one event, and many

unless_told : (since : ℕ) (w : World) (s : Step) (b : Bool) → Told since w w.phase → ToldAfter since s → ToldAfter since (cond b (world.unmet w) s)
unless_told since w s true now later = now
unless_told since w s false now later = later

step_told : (since : ℕ) (w : World) (event : Event) → Holds w → Told since w w.phase → ToldAfter since (step w event)
step_told since w (events.Submit command) h now = submit_told since w (command ∷ []) w.phase now now
step_told since w (events.SubmitAll commands) h now = submit_told since w commands w.phase now now
step_told since w events.Call h now = call_told since w w.phase now now
step_told since w (events.Fail fate) h now = fail_told since w fate w.phase now now
step_told since w events.Publish h now = publish_told since w w.phase now now
step_told since w events.PublishFail h now = fail_publication_told since w w.phase now now
step_told since w events.Note h now = note_told since w w.phase now now
step_told since w events.Ack h now = acknowledge_told since w w.phase h.phased now now
step_told since w (events.Online looker) h now = unless_told since w (world.go_online w looker (looker_state w looker)) (world.is_stopped w.phase) now (online_told since w looker (looker_state w looker) now)
step_told since w (events.Fetch looker) h now = unless_told since w (world.fetch w looker (looker_state w looker)) (world.is_stopped w.phase) now (fetch_told since w looker (looker_state w looker) now)
step_told since w (events.Announce looker) h now = unless_told since w (world.announce w looker (looker_state w looker)) (world.is_stopped w.phase) now (announce_told since w looker (looker_state w looker) now)
step_told since w (events.Offline looker) h now = unless_told since w (world.go_offline w looker (looker_state w looker)) (world.is_stopped w.phase) now (offline_told since w looker (looker_state w looker) now)
step_told since w (events.Look looker packet) h now = unless_told since w (world.look w packet (looker_state w looker)) (world.is_stopped w.phase) now (look_told since w packet (looker_state w looker) now)
step_told since w events.Reclaim h now = unless_told since w (world.reclaim w) (world.is_stopped w.phase) now now
step_told since w (events.Stop fate) h now = unless_told since w (world.stop w fate) (world.is_stopped w.phase) now (stop_told since w fate now)
step_told since w events.Reopen h now = reopen_told since w w.phase h now

run_told : (since : ℕ) (w : World) (events : List Event) → Holds w → Told since w w.phase → Told (last_opening since (outcomes_from w events)) (run_from w events) (run_from w events).phase
run_told since w [] h now = now
run_told since w (event ∷ events) h now = run_told (opened_count since (step w event).outcome) (step w event).world events (step_holds w event h) (step_told since w event h now)

-- of the commands since the opening, each but those accepted last is acknowledged
pub all_but_last : (events : List Event) (number : ℕ) → last_opening 0 (outcomes_from start events) < number → number + length (run_from start events).last ≤ length (run_from start events).accepted → is_acknowledged (run_from start events).acks number ≡ true
all_but_last events number up within =
    let w : World = run_from start events in
    let those : length w.accepted - length w.last ≤ told_to w.accepted w.last w.phase = all_but_those w.accepted w.last w.phase in
    run_told 0 start events start_holds (λ n above low. absurd (omega arith)) number up (omega arith)
