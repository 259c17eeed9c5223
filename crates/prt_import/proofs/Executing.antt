-- The lines of a script, executed one by one.
use Rattle.std.proofs.Common.{◌≡◌, ◌≢◌, ◌⊎◌, IfOk, OnOk, ℕ, ◌+◌, ◌≤◌, ◌<◌, false, List, [], ◌∷◌, ◌++◌, Option, Some, None, Result, Ok, Err, refl, sym, ap, subst, ◌∙◌, append_assoc, length, map, arith, inl, inr}
use Rattle.std.proofs.lemmas.Bool.{cases_Bool}
use Rattle.std.proofs.lemmas.List.{append-nil}
use Rattle.std.specs.List.{list_any, onto_first, AllByRecursion as Each}
use Rattle.std.specs.Prelude.{codes}
use Rattle.std.specs.Result.{result_err}
use Rattle.prt_refusals.specs.declared.refusal.Refusal.{Refusal}
use Rattle.prt_refusals.specs.declared.refusal.Refusal.TheVariants.{NoMemory}
use Rattle.prt_command.specs.Reading.{reading}
use Rattle.prt_command.specs.declared.request.Request.{Request}
use Rattle.prt_command.specs.declared.request.Request.TheVariants.{Command, Query}
use Rattle.prt_version.specs.Change.{check, put_if}
use Rattle.prt_version.specs.State.{State, opening_state}
use Rattle.prt_version.specs.declared.change.Change.{Change}
use Rattle.prt_lines.specs.Chunk.{AreAccepted, lines_state}
use Rattle.prt_lines.specs.Lines.{line_refusal, line_state, read_refusal, read_state}
use Rattle.prt_listing.specs.QueryText.{lines_text}
use Rattle.prt_import.specs.Accepted.{BeginsAt, Executed, Extends, IsAcceptedScript, IsExecuted, IsExecutedOver, accepted_line, executed, onto, refused_line}
use Rattle.prt_import.specs.Lines.{lines_of}
use Rattle.prt_import.specs.Told.{Numbered, remark_of}
use Rattle.prt_import.specs.declared.accepted.Accepted.{Accepted}
use Rattle.prt_import.proofs.ScriptLines.{is_newline, lines_back}

-- ---- a line that is refused changes nothing

kept_if : (state : State) (checked : Result Change Refusal) (reason : Refusal) → result_err checked ≡ Some reason → put_if state checked ≡ state
kept_if state (Ok change) reason h = absurd cc
kept_if state (Err e) reason h = refl

kept_by : (state : State) (read : Result (Option Request) Refusal) (reason : Refusal) → read_refusal state read ≡ Some reason → read_state state read ≡ state
kept_by state (Ok (Some (Command command))) reason h = kept_if state (check state command) reason h
kept_by state (Ok (Some (Query query))) reason h = refl
kept_by state (Ok None) reason h = refl
kept_by state (Err e) reason h = refl

pub kept : (state : State) (line : List ℕ) (reason : Refusal) → line_refusal state line ≡ Some reason → line_state state line ≡ state
kept state line reason h = kept_by state (reading line) reason h

-- a line that was accepted, and one that was refused
pub takes_accepted : (old new : Accepted) (line : Numbered) (next : State) → line_refusal old.version line.content ≡ None → next ≡ line_state old.version line.content → Extends old new (line.content ++ codes "\n") next [] → Extends old new (accepted_line line.content (line_refusal old.version line.content)) (line_state old.version line.content) (refused_line line (line_refusal old.version line.content))
takes_accepted old new line next allowed made e =
    let P : Option Refusal → Type 0 = λ r. Extends old new (accepted_line line.content r) (line_state old.version line.content) (refused_line line r) in
    let Q : State → Type 0 = λ s. Extends old new (line.content ++ codes "\n") s [] in
    subst P (sym allowed) (subst Q made e)

pub takes_refused : (old new : Accepted) (line : Numbered) (reason : Refusal) → line_refusal old.version line.content ≡ Some reason → Extends old new [] old.version (refused_line line (Some reason)) → Extends old new (accepted_line line.content (line_refusal old.version line.content)) (line_state old.version line.content) (refused_line line (line_refusal old.version line.content))
takes_refused old new line reason refused e =
    let P : Option Refusal → Type 0 = λ r. Extends old new (accepted_line line.content r) (line_state old.version line.content) (refused_line line r) in
    let Q : State → Type 0 = λ s. Extends old new [] s (refused_line line (Some reason)) in
    subst P (sym refused) (subst Q (sym (kept old.version line.content reason refused)) e)

pub takes_unless_no_memory : {T E : Type 0} (result : Result T E) (old new : Accepted) (line : Numbered) (reason : Refusal) → (line_refusal old.version line.content ≡ Some reason) ⊎ (reason ≡ NoMemory) → OnOk result (reason ≢ NoMemory) → OnOk result (Extends old new [] old.version (refused_line line (Some reason))) → OnOk result (Extends old new (accepted_line line.content (line_refusal old.version line.content)) (line_state old.version line.content) (refused_line line (line_refusal old.version line.content)))
takes_unless_no_memory (Ok x) old new line reason (inl refused) other e = takes_refused old new line reason refused e
takes_unless_no_memory (Ok x) old new line reason (inr is) other e = absurd (other is)
takes_unless_no_memory (Err x) old new line reason why other e = tt

-- ---- line by line

-- The lines of a text up to this number were executed over a state, and these are left.
pub record SoFar (first : State) (made : Accepted) (number : ℕ) (text rest : List ℕ) : Type 0 where
  pub count : number + length rest ≤ length text
  pub script : (executed first 1 (lines_of text)).script ≡ made.script.items ++ (executed made.version (number + 1) (lines_of rest)).script
  pub state : (executed first 1 (lines_of text)).state ≡ (executed made.version (number + 1) (lines_of rest)).state
  pub left : (executed first 1 (lines_of text)).left ≡ map remark_of made.left.items ++ (executed made.version (number + 1) (lines_of rest)).left

pub begins : (first : State) (made : Accepted) (text : List ℕ) → BeginsAt first made → SoFar first made 0 text text
begins first made text is = record {
  count = omega arith;
  script = sym (ap (λ xs. xs ++ (executed made.version 1 (lines_of text)).script) is.script ∙ ap (λ s. (executed s 1 (lines_of text)).script) is.version);
  state = sym (ap (λ s. (executed s 1 (lines_of text)).state) is.version);
  left = sym (ap (λ xs. xs ++ (executed made.version 1 (lines_of text)).left) is.left ∙ ap (λ s. (executed s 1 (lines_of text)).left) is.version);
}

pub goes_on : (first : State) (old new : Accepted) (number : ℕ) (text rest line after : List ℕ) → SoFar first old number text rest → lines_of rest ≡ line ∷ lines_of after → length after < length rest → Extends old new (accepted_line line (line_refusal old.version line)) (line_state old.version line) (refused_line (record { number = number + 1; content = line }) (line_refusal old.version line)) → SoFar first new (number + 1) text after
goes_on first old new number text rest line after so_far cut shorter e =
    let here : Numbered = record { number = number + 1; content = line } in
    let refusal : Option Refusal = line_refusal old.version line in
    let others : Executed = executed (line_state old.version line) (number + 1 + 1) (lines_of after) in record {
      count = (let within = so_far.count in omega (arith, within, shorter));
      script =
          so_far.script
          ∙ ap (λ ls. old.script.items ++ (executed old.version (number + 1) ls).script) cut
          ∙ sym (append_assoc old.script.items (accepted_line line refusal) others.script)
          ∙ ap (λ xs. xs ++ others.script) (sym e.script)
          ∙ ap (λ s. new.script.items ++ (executed s (number + 1 + 1) (lines_of after)).script) (sym e.version);
      state =
          so_far.state
          ∙ ap (λ ls. (executed old.version (number + 1) ls).state) cut
          ∙ ap (λ s. (executed s (number + 1 + 1) (lines_of after)).state) (sym e.version);
      left =
          so_far.left
          ∙ ap (λ ls. map remark_of old.left.items ++ (executed old.version (number + 1) ls).left) cut
          ∙ sym (append_assoc (map remark_of old.left.items) (refused_line here refusal) others.left)
          ∙ ap (λ xs. xs ++ others.left) (sym e.left)
          ∙ ap (λ s. map remark_of new.left.items ++ (executed s (number + 1 + 1) (lines_of after)).left) (sym e.version);
    }

pub ends : (first : State) (made : Accepted) (number : ℕ) (text rest : List ℕ) → SoFar first made number text rest → rest ≡ [] → IsExecutedOver first made text
ends first made number text rest so_far none = record {
  script = sym (so_far.script ∙ ap (λ t. made.script.items ++ (executed made.version (number + 1) (lines_of t)).script) none ∙ append-nil made.script.items);
  version = sym (so_far.state ∙ ap (λ t. (executed made.version (number + 1) (lines_of t)).state) none);
  left = sym (so_far.left ∙ ap (λ t. map remark_of made.left.items ++ (executed made.version (number + 1) (lines_of t)).left) none ∙ append-nil (map remark_of made.left.items));
}

-- ---- what was accepted

lines_whole_by : (b : ℕ) (lines : List (List ℕ)) → is_newline b ≡ false → Each (λ line. list_any is_newline line ≡ false) lines → Each (λ line. list_any is_newline line ≡ false) (onto_first b lines)
lines_whole_by b [] none all = (simp none refl, tt)
lines_whole_by b (line ∷ lines) none all = (simp none all.0, all.1)

-- no line of a text has a newline
lines_whole : (text : List ℕ) → Each (λ line. list_any is_newline line ≡ false) (lines_of text)
lines_whole [] = tt
lines_whole (b ∷ bs) = elim (cases_Bool (is_newline b)) [
  | inl e ↦ simp e (refl, lines_whole bs)
  | inr e ↦ simp e (lines_whole_by b (lines_of bs) e (lines_whole bs))
]

-- Lines that are accepted one after the other over this state, and lead to that one.
pub record Leads (before : State) (script : List ℕ) (after : State) : Type 0 where
  pub lines : List (List ℕ)
  pub parts : script ≡ lines_text lines
  pub whole : Each (λ line. list_any is_newline line ≡ false) lines
  pub accepted : AreAccepted before lines
  pub made : after ≡ lines_state before lines

leads_by : (state : State) (line : Numbered) (refusal : Option Refusal) (others : Executed) → list_any is_newline line.content ≡ false → line_refusal state line.content ≡ refusal → Leads (line_state state line.content) others.script others.state → Leads state (onto line refusal others).script (onto line refusal others).state
leads_by state line None others whole is more = record {
  lines = line.content ∷ more.lines;
  parts = ap (λ t. line.content ++ codes "\n" ++ t) more.parts;
  whole = (whole, more.whole);
  accepted = (is, more.accepted);
  made = more.made;
}
leads_by state line (Some reason) others whole is more =
    let P : State → Type 0 = λ s. Leads s others.script others.state in
    subst P (kept state line.content reason is) more

leads : (state : State) (number : ℕ) (lines : List (List ℕ)) → Each (λ line. list_any is_newline line ≡ false) lines → Leads state (executed state number lines).script (executed state number lines).state
leads state number [] whole = record { lines = []; parts = refl; whole = tt; accepted = tt; made = refl }
leads state number (line ∷ lines) whole =
    leads_by state (record { number = number; content = line }) (line_refusal state line) (executed (line_state state line) (number + 1) lines) whole.0 refl (leads (line_state state line) (number + 1) lines whole.1)

are_accepted : (script : List ℕ) (version : State) → Leads opening_state script version → IsAcceptedScript script version
are_accepted script version l =
    let is : lines_of script ≡ l.lines = ap lines_of l.parts ∙ lines_back l.lines l.whole in
    let P : List (List ℕ) → Type 0 = λ ls. AreAccepted opening_state ls in
    record { accepted = subst P (sym is) l.accepted; made = l.made ∙ ap (lines_state opening_state) (sym is) }

executed_is_accepted : (made : Accepted) (text : List ℕ) → IsExecuted made text → IsAcceptedScript made.script.items made.version
executed_is_accepted made text is =
    let P : List ℕ → Type 0 = λ script. IsAcceptedScript script made.version in
    let Q : State → Type 0 = λ state. IsAcceptedScript (executed opening_state 1 (lines_of text)).script state in
    subst P (sym is.script) (subst Q (sym is.version) (are_accepted (executed opening_state 1 (lines_of text)).script (executed opening_state 1 (lines_of text)).state (leads opening_state 1 (lines_of text) (lines_whole text))))

pub made_is_accepted : {E : Type 0} (result : Result Accepted E) (text : List ℕ) → IfOk result (λ made. IsExecuted made text) → IfOk result (λ made. IsAcceptedScript made.script.items made.version)
made_is_accepted (Ok made) text is = executed_is_accepted made text is
made_is_accepted (Err e) text is = tt
