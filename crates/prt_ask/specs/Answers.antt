-- What a state answers.
use Rattle.std.specs.Prelude.{◌≡◌, ◌⊎◌, ℕ, Bool, true, ◌&&◌, ◌==◌, List, [], length}
use Rattle.prt_command.specs.declared.request.Query.{Query}
use Rattle.prt_command.specs.declared.request.Query.TheVariants.{Get, RouteShow, RuleShow}
use Rattle.prt_diff.specs.Fence.{routes_outside, rules_outside}
use Rattle.prt_diff.specs.Held.{AreHeld, is_nothing_held}
use Rattle.prt_diff.specs.Plan.{plan}
use Rattle.prt_diff.specs.Replacing.{AreLeftOut, replacing_text}
use Rattle.prt_diff.specs.Text.{changes_text}
use Rattle.prt_diff.specs.declared.fence.Fence.{Fence}
use Rattle.prt_dump.specs.PutBack.{IsWhyNot, dump_text}
use Rattle.prt_dump.specs.declared.refusal.DumpError.{DumpError}
use Rattle.prt_dump.specs.declared.refusal.DumpError.TheVariants as dumps
use Rattle.prt_explain.specs.Explanation.{explanation_text}
use Rattle.json.specs.Json.{Json}
use Rattle.prt_json.specs.ExplanationJson.{explanation_json}
use Rattle.prt_json.specs.Fields.{json_line}
use Rattle.prt_json.specs.Json.{answer_json, routes_json, rules_json, tables_json}
use Rattle.prt_listing.specs.QueryText.{query_text}
use Rattle.prt_version.specs.State.{State}
use Rattle.prt_args.specs.declared.asking.Form.TheVariants.{Lines, Json as InJson}
use Rattle.prt_ask.specs.declared.notes.Notes.{Notes}
use Rattle.prt_ask.specs.declared.question.Question.{Question}
use Rattle.prt_ask.specs.declared.refusal.AnswerError.{AnswerError}
use Rattle.prt_ask.specs.declared.refusal.AnswerError.TheVariants.{Rule, Route, Change, NoMemory}
use Rattle.prt_ask.specs.declared.question.Question.TheVariants as questions

-- as `ip -j` answers a query
abbrev pub query_json : Query → State → Json
query_json (RouteShow selector) state = routes_json state selector
query_json RuleShow state = rules_json state
query_json (Get packet) state = answer_json state packet

-- of a dump the lines that recreate the state, or all tables, or the lines that put it in the place of another; of an explanation
-- the reasons and the answer; of a difference what brings the found state to this one within a fence
abbrev pub answer : Question → State → List ℕ
answer (questions.Dump Lines) state = dump_text state
answer (questions.Dump InJson) state = json_line (tables_json state)
answer questions.Replace state = replacing_text state
answer (questions.Query query Lines) state = query_text state query
answer (questions.Query query InJson) state = json_line (query_json query state)
answer (questions.Explain packet Lines) state = explanation_text state packet
answer (questions.Explain packet InJson) state = json_line (explanation_json state packet)
answer (questions.Diff comparison) state = changes_text comparison.fence.now comparison.found.now state

-- why there is no dump, as why there is no answer
abbrev pub as_answer : DumpError → AnswerError
as_answer (dumps.Rule place) = Rule place
as_answer (dumps.Route place) = Route place
as_answer dumps.NoMemory = NoMemory

-- a change has no line, or memory is refused
abbrev pub IsOfChange : AnswerError → Type 0
IsOfChange reason = (reason ≡ Change) ⊎ (reason ≡ NoMemory)

-- why a state has no answer: a dump in lines has a row without a line, or a difference a change without one; and memory may be refused
abbrev pub IsNotAnswered : Question → State → AnswerError → Type 0
IsNotAnswered (questions.Dump Lines) state reason = (why : DumpError) × IsWhyNot state why × (reason ≡ as_answer why)
IsNotAnswered questions.Replace state reason = IsOfChange reason
IsNotAnswered (questions.Diff comparison) state reason = IsOfChange reason
IsNotAnswered question state reason = reason ≡ NoMemory

-- ---- what is reported

-- nothing
abbrev pub AreNone : Notes → Type 0
AreNone notes = (notes.early.items ≡ []) × (notes.moved.items ≡ []) × (notes.left.items ≡ []) × (is_nothing_held notes.held ≡ true)
    × (notes.outside.rules ≡ 0) × (notes.outside.routes ≡ 0)

-- the rules that the lines of a difference delete early, move or leave, what is held back, and how much the tables have outside the fence
abbrev pub AreNotesOf : Fence → State → State → Notes → Type 0
AreNotesOf fence found wanted notes =
    (notes.early.items ≡ (plan fence found wanted).early)
    × (notes.moved.items ≡ (plan fence found wanted).moved)
    × (notes.left.items ≡ (plan fence found wanted).left)
    × AreHeld fence found wanted notes.held
    × (notes.outside.rules ≡ rules_outside fence wanted.rules)
    × (notes.outside.routes ≡ routes_outside fence wanted.routes)

-- no rule is left, and nothing is held back
abbrev pub is_whole_change : Notes → Bool
is_whole_change notes = length notes.left.items == 0 && is_nothing_held notes.held

-- of lines that put a state back: the rules and routes that are left out
abbrev pub AreNotesOfReplacing : State → Notes → Type 0
AreNotesOfReplacing state notes =
    (notes.early.items ≡ []) × (notes.moved.items ≡ []) × (notes.left.items ≡ []) × AreLeftOut state notes.held × (notes.outside.rules ≡ 0)
    × (notes.outside.routes ≡ 0)

-- what is reported of an answer
abbrev pub AreNotes : Question → State → Notes → Type 0
AreNotes (questions.Diff comparison) state notes = AreNotesOf comparison.fence.now comparison.found.now state notes
AreNotes questions.Replace state notes = AreNotesOfReplacing state notes
AreNotes question state notes = AreNone notes

-- it asks for no difference
abbrev pub IsPlainQuestion : Question → Type 0
IsPlainQuestion (questions.Diff comparison) = ⊥
IsPlainQuestion question = Unit {0}
