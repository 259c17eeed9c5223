-- What stays in every later world: acknowledgements, answers and durable commands.
use Rattle.std.proofs.Common.{◌≡◌, ℕ, ◌+◌, ◌-◌, ◌≤◌, Bool, true, false, List, [], ◌∷◌, ◌++◌, Option, Some, None, length, take, refl, sym, ap, ◌∙◌, subst, arith, cond}
use Rattle.std.proofs.lemmas.List.{take-take, take_all}
use Rattle.prt_refusals.specs.declared.refusal.Refusal.{Refusal}
use Rattle.prt_refusals.specs.declared.refusal.StoreCall.TheVariants.{Begin, Write, Count, Commit}
use Rattle.prt_command.specs.declared.request.Command.{Command}
use Rattle.prt_rule.specs.declared.packet.Packet.{Packet}
use Rattle.prt_version.specs.Accepted.{refusal_all}
use Rattle.prt_version.proofs.Folds.{count_fold}
use Rattle.prt_replay.specs.Durability.{Grows}
use Rattle.prt_replay.specs.World as world
use Rattle.prt_replay.specs.World.{LookerState, Phase, Ready, Prepared, Committed, Published, Noted, Closed, Stopped, World, acks_after, looker_state, offline, online, published_version, run_from, start, step, stopped, version}
use Rattle.prt_replay.specs.declared.event.Event.{Event}
use Rattle.prt_replay.specs.declared.event.Event.TheVariants as events
use Rattle.prt_replay.specs.declared.event.Fate.{Fate}
use Rattle.prt_replay.specs.declared.event.Fate.TheVariants.{Kept}
use Rattle.prt_replay.proofs.Folds.{taken_before}
use Rattle.prt_replay.proofs.Phases.{Holds, Phased, every_run_holds, step_holds}

-- ---- prefixes

begins_on : {X : Type 0} (xs ys zs : List X) → take (length xs) ys ≡ xs → take (length ys) zs ≡ ys → take (length xs) zs ≡ xs
begins_on xs ys zs first second =
    let short : length xs ≤ length ys = shorter xs ys first in
    sym (take-take (length xs) (length ys) zs short) ∙ ap (take (length xs)) second ∙ first
  where
    shorter : {X : Type 0} (xs ys : List X) → take (length xs) ys ≡ xs → length xs ≤ length ys
    shorter [] ys begins = omega arith
    shorter (x ∷ xs) [] begins = absurd cc
    shorter (x ∷ xs) (y ∷ ys) begins = let rest : take (length xs) ys ≡ xs = cc in omega (arith, shorter xs ys rest)

grows_both : (a b c : World) → Grows a b → Grows b c → Grows a c
grows_both a b c first second = record {
  acks = begins_on a.acks b.acks c.acks first.acks second.acks;
  answers = begins_on a.answers b.answers c.answers first.answers second.answers;
  durable = omega (arith, first.durable, second.durable);
}

-- if nothing is acknowledged or answered
quiet : (w after : World) → after.acks ≡ w.acks → after.answers ≡ w.answers → w.disk.count ≤ after.disk.count → Grows w after
quiet w after acks answers low = record {
  acks = ap (take (length w.acks)) acks ∙ take_all (length w.acks) w.acks (omega arith);
  answers = ap (take (length w.answers)) answers ∙ take_all (length w.answers) w.answers (omega arith);
  durable = low;
}

stays : (w : World) → Grows w w
stays w = quiet w w refl refl (omega arith)

-- ---- commands

prepare_grows : (w : World) (commands : List Command) (reason : Option Refusal) (room : Bool) → Grows w (world.prepare w commands reason room).world
prepare_grows w commands (Some reason) room = stays w
prepare_grows w commands None false = stays w
prepare_grows w commands None true = quiet w (world.prepare w commands None true).world refl refl (omega arith)

submit_grows : (w : World) (commands : List Command) (phase : Phase) → Grows w (world.submit w commands phase).world
submit_grows w [] phase = stays w
submit_grows w (first ∷ more) Ready = prepare_grows w (first ∷ more) (refusal_all (published_version w) (first ∷ more)) (world.has_room w)
submit_grows w (first ∷ more) Closed = stays w
submit_grows w (first ∷ more) phase = stays w

-- the commit call makes no fewer durable
commit_low : (w : World) (commands : List Command) (done : ℕ) → Phased w (Prepared commands done Commit) → w.disk.count ≤ w.pending.count
commit_low w commands done phased =
    let counted : w.pending.count ≡ w.disk.count + length commands = ap (λ state. state.count) phased.2 ∙ count_fold w.disk commands phased.0.allowed in
    omega arith

call_grows : (w : World) (phase : Phase) → Phased w phase → Grows w (world.call w phase).world
call_grows w (Prepared commands done Begin) phased = quiet w (world.begun w commands) refl refl (omega arith)
call_grows w (Prepared commands done Write) phased = quiet w (world.written w commands done) refl refl (omega arith)
call_grows w (Prepared commands done Count) phased = quiet w (world.counted w commands) refl refl (omega arith)
call_grows w (Prepared commands done Commit) phased = quiet w (world.committed w commands) refl refl (commit_low w commands done phased)
call_grows w phase phased = stays w

stopped_low : (w : World) (fate : Fate) (phase : Phase) → Phased w phase → w.disk.count ≤ (stopped w fate phase).count
stopped_low w Kept (Prepared commands done Commit) phased = commit_low w commands done phased
stopped_low w fate phase phased = omega arith

fail_grows : (w : World) (fate : Fate) (phase : Phase) → Phased w phase → Grows w (world.fail w fate phase).world
fail_grows w fate (Prepared commands done next) phased = quiet w (world.with_disk w (stopped w fate (Prepared commands done next)) Closed) refl refl (stopped_low w fate (Prepared commands done next) phased)
fail_grows w fate phase phased = stays w

stop_grows : (w : World) (fate : Fate) → Holds w → Grows w (world.stop w fate).world
stop_grows w fate h = quiet w (world.stop w fate).world refl refl (stopped_low w fate w.phase h.phased)

reopen_grows : (w : World) (phase : Phase) → Grows w (world.reopen w phase).world
reopen_grows w Closed = quiet w (world.reopened w) refl refl (omega arith)
reopen_grows w Stopped = quiet w (world.reopened w) refl refl (omega arith)
reopen_grows w phase = stays w

publish_grows : (w : World) (phase : Phase) → Grows w (world.publish w phase).world
publish_grows w (Committed commands) = quiet w (world.publish w (Committed commands)).world refl refl (omega arith)
publish_grows w phase = stays w

fail_publication_grows : (w : World) (phase : Phase) → Grows w (world.fail_publication w phase).world
fail_publication_grows w (Committed commands) = quiet w (world.fail_publication w (Committed commands)).world refl refl (omega arith)
fail_publication_grows w phase = stays w

note_grows : (w : World) (phase : Phase) → Grows w (world.note w phase).world
note_grows w (Published commands) = quiet w (world.note w (Published commands)).world refl refl (omega arith)
note_grows w phase = stays w

acknowledge_grows : (w : World) (phase : Phase) → Grows w (world.acknowledge w phase).world
acknowledge_grows w (Noted commands) = record { acks = taken_before w.acks (acks_after (w.published - length commands) commands); answers = take_all (length w.answers) w.answers (omega arith); durable = omega arith }
acknowledge_grows w phase = stays w

-- ---- lookers

online_grows : (w : World) (looker : ℕ) (state : LookerState) → Grows w (world.go_online w looker state).world
online_grows w looker offline = quiet w (world.go_online w looker offline).world refl refl (omega arith)
online_grows w looker (online announced held) = stays w

fetch_grows : (w : World) (looker : ℕ) (state : LookerState) → Grows w (world.fetch w looker state).world
fetch_grows w looker offline = stays w
fetch_grows w looker (online announced held) = quiet w (world.fetch w looker (online announced held)).world refl refl (omega arith)

announce_grows : (w : World) (looker : ℕ) (state : LookerState) → Grows w (world.announce w looker state).world
announce_grows w looker offline = stays w
announce_grows w looker (online announced None) = stays w
announce_grows w looker (online announced (Some held)) = quiet w (world.announce w looker (online announced (Some held))).world refl refl (omega arith)

offline_grows : (w : World) (looker : ℕ) (state : LookerState) → Grows w (world.go_offline w looker state).world
offline_grows w looker offline = stays w
offline_grows w looker (online announced held) = quiet w (world.go_offline w looker (online announced held)).world refl refl (omega arith)

look_grows : (w : World) (packet : Packet) (state : LookerState) → Grows w (world.look w packet state).world
look_grows w packet offline = stays w
look_grows w packet (online announced None) = stays w
look_grows w packet (online announced (Some held)) = record { acks = take_all (length w.acks) w.acks (omega arith); answers = taken_before w.answers (record { packet = packet; answer = world.answer_by (version w held) packet } ∷ []); durable = omega arith }

-- ---- one event, and many

unless_grows : (w : World) (after : world.Step) (b : Bool) → Grows w after.world → Grows w (cond b (world.unmet w) after).world
unless_grows w after true later = stays w
unless_grows w after false later = later

step_grows : (w : World) (event : Event) → Holds w → Grows w (step w event).world
step_grows w (events.Submit command) h = submit_grows w (command ∷ []) w.phase
step_grows w (events.SubmitAll commands) h = submit_grows w commands w.phase
step_grows w events.Call h = call_grows w w.phase h.phased
step_grows w (events.Fail fate) h = fail_grows w fate w.phase h.phased
step_grows w events.Publish h = publish_grows w w.phase
step_grows w events.PublishFail h = fail_publication_grows w w.phase
step_grows w events.Note h = note_grows w w.phase
step_grows w events.Ack h = acknowledge_grows w w.phase
step_grows w (events.Online looker) h = unless_grows w (world.go_online w looker (looker_state w looker)) (world.is_stopped w.phase) (online_grows w looker (looker_state w looker))
step_grows w (events.Fetch looker) h = unless_grows w (world.fetch w looker (looker_state w looker)) (world.is_stopped w.phase) (fetch_grows w looker (looker_state w looker))
step_grows w (events.Announce looker) h = unless_grows w (world.announce w looker (looker_state w looker)) (world.is_stopped w.phase) (announce_grows w looker (looker_state w looker))
step_grows w (events.Offline looker) h = unless_grows w (world.go_offline w looker (looker_state w looker)) (world.is_stopped w.phase) (offline_grows w looker (looker_state w looker))
step_grows w (events.Look looker packet) h = unless_grows w (world.look w packet (looker_state w looker)) (world.is_stopped w.phase) (look_grows w packet (looker_state w looker))
step_grows w events.Reclaim h = unless_grows w (world.reclaim w) (world.is_stopped w.phase) (quiet w (world.reclaim w).world refl refl (omega arith))
step_grows w (events.Stop fate) h = unless_grows w (world.stop w fate) (world.is_stopped w.phase) (stop_grows w fate h)
step_grows w events.Reopen h = reopen_grows w w.phase

run_grows : (w : World) (events : List Event) → Holds w → Grows w (run_from w events)
run_grows w [] h = stays w
run_grows w (event ∷ events) h = grows_both w (step w event).world (run_from w (event ∷ events)) (step_grows w event h) (run_grows (step w event).world events (step_holds w event h))

run_append : (w : World) (events more : List Event) → run_from w (events ++ more) ≡ run_from (run_from w events) more
run_append w [] more = refl
run_append w (event ∷ events) more = run_append (step w event).world events more

pub grows_on : (events more : List Event) → Grows (run_from start events) (run_from start (events ++ more))
grows_on events more = subst (Grows (run_from start events)) (sym (run_append start events more)) (run_grows (run_from start events) more (every_run_holds events))
