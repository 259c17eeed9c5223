-- Commands that wait and are submitted together.
use Rattle.std.specs.Prelude.{◌≡◌, ◌⊎◌, ◌-◌, ℕ, Bool, true, false, List, [], ◌∷◌, IfErr, IfOk, Result, Ok, Err, length, take}
use Rattle.sqlite.specs.Held.{Held}
use Rattle.sqlite.specs.Store.{Ghosts}
use Rattle.prt_refusals.specs.declared.refusal.Refusal.{Refusal}
use Rattle.prt_refusals.specs.declared.refusal.Refusal.TheVariants.{NotPublished, StoreFailed}
use Rattle.prt_command.specs.declared.request.Command.{Command}
use Rattle.prt_published.specs.Line.{Line, grown_by, line_state}
use Rattle.prt_publisher.specs.Exits.{AreNotAcknowledged, AreNotPublished, AreNotStored, TakesAll}
use Rattle.prt_publisher.specs.Standing.{Standing}
use Rattle.prt_publisher.specs.declared.phase.Phase.TheVariants.{Ready}
use Rattle.prt_service.specs.declared.submit_error.SubmitError.{SubmitError}
use Rattle.prt_service.specs.declared.submit_error.SubmitError.TheVariants as why

-- some of these commands, in their order, each taken once
abbrev pub IsPartOf : List Command → List Command → Type 0
IsPartOf [] all = Unit {0}
IsPartOf (command ∷ commands) [] = ⊥
IsPartOf (command ∷ commands) (first ∷ later) = ((command ≡ first) × IsPartOf commands later) ⊎ IsPartOf (command ∷ commands) later

-- Either they were published: each was refused for nothing, the published list has grown by exactly these, in their order, and
-- the receipt is of it. Or they are not acknowledged, and the list is as it was.
pub record AreSubmitted {S : Type 0} (g : Ghosts S) (old : Standing (Held S)) (commands : List Command) (became : Result Line Refusal)
    (new : Standing (Held S)) : Type 0 where
  pub ok : IfOk became (λ receipt.
      TakesAll old commands × (receipt ≡ grown_by old.line commands)
      × (new ≡ record old { phase = Ready; line = grown_by old.line commands; commands = []; tables = new.tables }))
  pub err : IfErr became (λ reason. (new.line ≡ old.line) × AreNotAcknowledged g old commands reason new)

-- they may be stored, and are not published: the store or the front has failed, for this reason
abbrev pub HaveUnknownFate : {S : Type 0} → Ghosts S → Standing (Held S) → List Command → Refusal → Standing (Held S) → Type 0
HaveUnknownFate g old commands why new = AreNotStored g old commands why new ⊎ AreNotPublished g old commands why new

-- whether commands that are refused for this may be stored
abbrev pub have_unknown_fate : Refusal → Bool
have_unknown_fate (StoreFailed call) = true
have_unknown_fate NotPublished = true
have_unknown_fate _ = false

-- of what became of commands together, what became of the one that has so many after it
abbrev pub answer_before : Result Line Refusal → ℕ → Result Line Refusal
answer_before (Ok last) later = Ok (record last { list = take (length last.list - later) last.list })
answer_before (Err reason) later = Err reason

-- what a publisher is after commands that it did not make: if its list has another number than was expected, it is as it was, and that number is told
abbrev pub AreNotMade : {S : Type 0} → Ghosts S → Standing (Held S) → List Command → SubmitError → Standing (Held S) → Type 0
AreNotMade g old commands (why.Refused reason) new = AreNotAcknowledged g old commands reason new
AreNotMade g old commands (why.Moved number) new = (new ≡ old) × (number ≡ (line_state old.line).count)
