-- A check of an input: the session over an executor that does nothing, whose refusals are written.
use Rattle.std.specs.Prelude.{ℕ, List, Option, ⊤}
use Rattle.prt_refusals.specs.declared.on_refusal.OnRefusal.TheVariants.{GoOn}
use Rattle.prt_session.specs.Run.{RunsIn}
use Rattle.prt_session.specs.Session.{Mishaps, TurnsOf}
use Rattle.prt_session.specs.declared.form.Form.TheVariants.{Numbered}
use Rattle.prt_replies.specs.declared.reply.Reply.TheVariants.{Silent}
use Rattle.prt_replies.specs.declared.script_end.ScriptEnd.{ScriptEnd}

-- a request is taken, and nothing is done or replied
abbrev pub nothing_turn : TurnsOf ⊤ ⊥
nothing_turn desk request mishap = record { reply = Silent; desk = desk }

-- there is nothing that can befall it
abbrev pub NothingBefalls : Mishaps ⊤ ⊥
NothingBefalls desk request mishap = ⊤

-- The lines are read as in a session that goes on after refusals, none is executed, and each refusal is written after the number of its line.
abbrev pub ChecksLines : (reader0 reader writer0 writer : Option (List ℕ)) → ScriptEnd → Type 0
ChecksLines reader0 reader writer0 writer end = RunsIn Numbered nothing_turn NothingBefalls GoOn tt tt reader0 reader writer0 writer end
