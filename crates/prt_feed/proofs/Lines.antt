-- Lines that ask for commands, executed one after the other.
use Rattle.std.proofs.Common.{◌≡◌, ◌+◌, ◌≤◌, ℕ, List, [], ◌∷◌, ◌++◌, length, map, refl, sym, ap, ◌∙◌, subst, arith}
use Rattle.std.specs.List.{AllByRecursion as Each}
use Rattle.std.proofs.lemmas.List.{length-map}
use Rattle.prt_command.specs.declared.request.Command.{Command}
use Rattle.prt_version.specs.Accepted.{IsAccepted}
use Rattle.prt_version.specs.Change.{apply, fold, refusal}
use Rattle.prt_version.specs.Sound.{IsSound}
use Rattle.prt_version.specs.State.{State, opening_state}
use Rattle.prt_version.specs.declared.limits.TheConstants.{MOST_COMMANDS}
use Rattle.prt_version.proofs.Folds.{count_fold}
use Rattle.prt_lines.specs.Lines.{line_refusal, line_state, read_refusal, read_state}
use Rattle.prt_lines.specs.Chunk.{AreAccepted, lines_state}
use Rattle.prt_spelling.specs.Line.{command_line}
use Rattle.prt_spelling.proofs.Lines.{line_read}
use Rattle.prt_spelling.proofs.Reading.{IsReadAs}
use Rattle.prt_dump.specs.Dump.{dump_commands, dump_lines}
use Rattle.prt_dump.specs.PutBack.{IsPlainState, IsSameButForIds, StateFits}
use Rattle.prt_dump.proofs.Remade.{dump_remade, remade_same}
use Rattle.prt_dump.proofs.Sessions.{AreReadAs, lines_read}
use Rattle.prt_feed.specs.Following.{HasLine, LeadTo}
use Rattle.prt_feed.proofs.Steps.{are_followed, fold_sound, opening_sound}

-- ---- lines that ask for commands

-- The lines are accepted, and make what their commands make.
record AreExecutedAs (known : State) (lines : List (List ℕ)) (commands : List Command) : Type 0 where
  accepted : AreAccepted known lines
  makes : lines_state known lines ≡ fold known commands

line_refused : (known : State) (line : List ℕ) (command : Command) → IsReadAs line command → line_refusal known line ≡ refusal known command
line_refused known line command read = ap (read_refusal known) read.reads

line_makes : (known : State) (line : List ℕ) (command : Command) → IsReadAs line command → line_state known line ≡ apply known command
line_makes known line command read = ap (read_state known) read.reads

executed_as : (known : State) (lines : List (List ℕ)) (commands : List Command) → AreReadAs lines commands → IsAccepted known commands → AreExecutedAs known lines commands
executed_as known [] [] read accepted = record { accepted = tt; makes = refl }
executed_as known [] (command ∷ commands) read accepted = absurd read
executed_as known (line ∷ lines) [] read accepted = absurd read
executed_as known (line ∷ lines) (command ∷ commands) read accepted =
    let made : line_state known line ≡ apply known command = line_makes known line command read.0 in
    let rest = executed_as (apply known command) lines commands read.1 accepted.1 in
    record {
      accepted = (line_refused known line command read.0 ∙ accepted.0, subst (λ s. AreAccepted s lines) (sym made) rest.accepted);
      makes = ap (λ s. lines_state s lines) made ∙ rest.makes;
    }

spelled_read : (commands : List Command) → Each HasLine commands → AreReadAs (map command_line commands) commands
spelled_read [] spelled = tt
spelled_read (command ∷ commands) spelled = (line_read command spelled.0.fits spelled.0.spelled, spelled_read commands spelled.1)

-- ---- lines after lines

pub accepted_both : (known : State) (lines more : List (List ℕ)) → AreAccepted known lines → AreAccepted (lines_state known lines) more → AreAccepted known (lines ++ more)
accepted_both known [] more first second = second
accepted_both known (line ∷ lines) more first second = (first.0, accepted_both (line_state known line) lines more first.1 second)

pub state_both : (known : State) (lines more : List (List ℕ)) → lines_state known (lines ++ more) ≡ lines_state (lines_state known lines) more
state_both known [] more = refl
state_both known (line ∷ lines) more = state_both (line_state known line) lines more

lead_both : (known state : State) (lines more : List (List ℕ)) → AreAccepted known lines → LeadTo (lines_state known lines) more state → LeadTo known (lines ++ more) state
lead_both known state lines more accepted rest = record {
  accepted = accepted_both known lines more accepted rest.accepted;
  same = subst (λ s. IsSameButForIds s state) (sym (state_both known lines more)) rest.same;
}

-- ---- the lines of a feed

dump_executed : (state : State) → IsSound state → StateFits state → IsPlainState state → AreExecutedAs opening_state (dump_lines state) (dump_commands state)
dump_executed state sound fits plain = executed_as opening_state (dump_lines state) (dump_commands state) (lines_read state fits plain) (dump_remade state sound).accepted

-- the lines of a dump
pub opening_leads : (state : State) → IsSound state → StateFits state → IsPlainState state → LeadTo opening_state (dump_lines state) state
opening_leads state sound fits plain =
    let executed = dump_executed state sound fits plain in
    record {
      accepted = executed.accepted;
      same = subst (λ s. IsSameButForIds s state) (sym (executed.makes ∙ (dump_remade state sound).makes)) (remade_same state);
    }

-- the lines of changes
pub changes_lead : (known state : State) (commands : List Command) → IsSound known → IsSound state → IsSameButForIds known state → IsAccepted state commands → Each HasLine commands → known.count + length commands ≤ MOST_COMMANDS → LeadTo known (map command_line commands) (fold state commands)
changes_lead known state commands known_sound sound same accepted spelled room =
    let followed = are_followed known state commands known_sound sound same accepted room in
    let executed = executed_as known (map command_line commands) commands (spelled_read commands spelled) followed.accepted in
    record {
      accepted = executed.accepted;
      same = subst (λ s. IsSameButForIds s (fold state commands)) (sym executed.makes) followed.same;
    }

-- both, one after the other
pub feed_leads : (state : State) (commands : List Command) → IsSound state → StateFits state → IsPlainState state → IsAccepted state commands → Each HasLine commands → length (dump_lines state) + length commands ≤ MOST_COMMANDS → LeadTo opening_state (dump_lines state ++ map command_line commands) (fold state commands)
feed_leads state commands sound fits plain accepted spelled room =
    let opening = opening_leads state sound fits plain in
    let executed = dump_executed state sound fits plain in
    let known : State = lines_state opening_state (dump_lines state) in
    let remakes = (dump_remade state sound).accepted in
    let known_sound : IsSound known = subst IsSound (sym executed.makes) (fold_sound opening_state (dump_commands state) opening_sound remakes) in
    let count : known.count ≡ length (dump_lines state) =
    ap (λ (s : State). s.count) executed.makes ∙ count_fold opening_state (dump_commands state) remakes ∙ from_zero (length (dump_commands state)) ∙ sym (length-map (dump_commands state) command_line) in
    lead_both opening_state (fold state commands) (dump_lines state) (map command_line commands) opening.accepted
    (changes_lead known state commands known_sound sound opening.same accepted spelled (omega (arith, room, count)))
  where
    from_zero : (n : ℕ) → 0 + n ≡ n
    from_zero n = omega arith
