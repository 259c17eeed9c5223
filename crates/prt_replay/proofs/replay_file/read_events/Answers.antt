use Rattle.std.proofs.Common.{arith, inl}
use Rattle.prt_replay.proofs.EventSteps.{all_read, line_read, line_refused, none_read, too_many_lines}
use Rattle.prt_replay.proofs.replay_file.read_events.Goals as goal

pub lines-init : goal.lines-init
lines-init c = none_read c.args.bytes.now _ c.new-events.ensures.items

pub returns-then-left-eq0 : goal.returns-then-left-eq0
returns-then-left-eq0 c = inl (too_many_lines c.args.bytes.now _ _ _ _ _ (omega arith) c.lines.invariant c.if-left-eq0.true c.in-Some.ensures.0)

pub lines-preserved : goal.lines-preserved
lines-preserved c = line_read c.args.bytes.now c.lines.rest.now c.in-Some.line.now c.in-Some.after.now c.lines.events.items c.add_line.new.events.items c.lines.left c.lines.invariant c.if-left-eq0.false c.in-Some.ensures.0 c.in_default-add_line.ensures

pub returns-in-Err : goal.returns-in-Err
returns-in-Err c = line_refused c.args.bytes.now c.lines.rest.now c.in-Some.line.now c.in-Some.after.now c.lines.events.items c.lines.left c.in-Err.refusal (omega arith) c.lines.invariant c.if-left-eq0.false c.in-Some.ensures.0 c.in-Err.ensures

pub returns : goal.returns
returns c = all_read c.args.bytes.now c.lines.rest.now c.lines.events.items c.lines.left (omega arith) c.lines.invariant c.in_default.ensures
