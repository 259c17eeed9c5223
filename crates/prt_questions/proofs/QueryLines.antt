-- Lines that ask queries.
use Rattle.std.proofs.Common.{◌≡◌, [], List, None, Option, Result, Ok, Err, Some, refl, ℕ}
use Rattle.prt_ask.specs.Questions.{question, question_by, question_in}
use Rattle.prt_ask.specs.declared.question.Question.{Question}
use Rattle.prt_ask.specs.declared.question.Question.TheVariants as questions
use Rattle.prt_command.specs.Reading.{reading}
use Rattle.prt_command.specs.declared.request.Query.{Query}
use Rattle.prt_command.specs.declared.request.Request.{Request}
use Rattle.prt_command.specs.declared.request.Request.TheVariants as requests
use Rattle.prt_refusals.specs.declared.refusal.Refusal.{Refusal}
use Rattle.prt_args.specs.declared.asking.Form.{Form}
use Rattle.prt_args.specs.declared.asking.Verb.{Verb}
use Rattle.prt_args.specs.declared.asking.Verb.TheVariants as verbs
use Rattle.prt_questions.specs.Asking.{IsQuery}
use Rattle.prt_questions.specs.ServerAnswers.{IsQueryLine}

-- no question is made of no line, or of a command's
none_asked : (verb : Verb) (form : Form) (asked : Question) → question_by verb form None ≡ Ok asked → ⊥
none_asked verbs.Get form asked is = cc
none_asked verbs.Show form asked is = cc
none_asked verbs.Explain form asked is = cc
none_asked verbs.Dump form asked is = cc
none_asked verbs.Replace form asked is = cc

module _ (form : Form) (asked : Question) where
  -- what asks a question is read as a query
  query_in : (verb : Verb) (read : Result (Option Request) Refusal) → question_in verb form read ≡ Ok asked → (query : Query) × (read ≡ Ok (Some (requests.Query query)))
  query_in verb (Ok (Some (requests.Query query))) is = (query, refl)
  query_in verb (Ok None) is = absurd (none_asked verb form asked is)
  query_in verbs.Get (Ok (Some (requests.Command command))) is = absurd (cc)
  query_in verbs.Show (Ok (Some (requests.Command command))) is = absurd (cc)
  query_in verbs.Explain (Ok (Some (requests.Command command))) is = absurd (cc)
  query_in verbs.Dump (Ok (Some (requests.Command command))) is = absurd (cc)
  query_in verbs.Replace (Ok (Some (requests.Command command))) is = absurd (cc)
  query_in verb (Err reason) is = absurd (cc)

-- a dump is no query
dump_asked : (form : Form) (asked : Question) → question verbs.Dump [] form ≡ Ok asked → IsQuery asked → ⊥
dump_asked form (questions.Query query other) is asks = absurd (cc)
dump_asked form (questions.Dump other) is asks = asks
dump_asked form questions.Replace is asks = asks
dump_asked form (questions.Explain packet other) is asks = asks
dump_asked form (questions.Diff comparison) is asks = asks

replace_asked : (form : Form) (asked : Question) → question verbs.Replace [] form ≡ Ok asked → IsQuery asked → ⊥
replace_asked form (questions.Query query other) is asks = absurd (cc)
replace_asked form (questions.Dump other) is asks = asks
replace_asked form questions.Replace is asks = asks
replace_asked form (questions.Explain packet other) is asks = asks
replace_asked form (questions.Diff comparison) is asks = asks

-- the line of a question that is a query
pub query_line : (verb : Verb) (line : List ℕ) (form : Form) (asked : Question) → question verb line form ≡ Ok asked → IsQuery asked → IsQueryLine line
query_line verbs.Get line form asked is query = query_in form asked verbs.Get (reading line) is
query_line verbs.Show line form asked is query = query_in form asked verbs.Show (reading line) is
query_line verbs.Explain line form asked is query = query_in form asked verbs.Explain (reading line) is
query_line verbs.Dump line form asked is query = absurd (dump_asked form asked is query)
query_line verbs.Replace line form asked is query = absurd (replace_asked form asked is query)
