-- What a line asks from outside a session, by the subcommand that it came with.
use Rattle.std.specs.Prelude.{List, ℕ, Option, Some, Result, Ok, Err}
use Rattle.prt_command.specs.Reading.{reading}
use Rattle.prt_command.specs.declared.request.Query.TheVariants.{Get}
use Rattle.prt_command.specs.declared.request.Request.{Request}
use Rattle.prt_command.specs.declared.request.Request.TheVariants as requests
use Rattle.prt_refusals.specs.declared.refusal.Refusal.{Refusal}
use Rattle.prt_refusals.specs.declared.refusal.Refusal.TheVariants.{UnknownVerb}
use Rattle.prt_args.specs.declared.asking.Form.{Form}
use Rattle.prt_args.specs.declared.asking.Verb.{Verb}
use Rattle.prt_args.specs.declared.asking.Verb.TheVariants as verbs
use Rattle.prt_ask.specs.declared.question.Question.{Question}
use Rattle.prt_ask.specs.declared.question.Question.TheVariants as questions

-- `explain` asks for the reasons of an answer, the others for the answer; what is no query is none of these
abbrev pub question_by : Verb → Form → Option Request → Result Question Refusal
question_by verbs.Explain form (Some (requests.Query (Get packet))) = Ok (questions.Explain packet form)
question_by verbs.Explain form _ = Err UnknownVerb
question_by verb form (Some (requests.Query query)) = Ok (questions.Query query form)
question_by verb form _ = Err UnknownVerb

-- if the line has a first fault, that
abbrev pub question_in : Verb → Form → Result (Option Request) Refusal → Result Question Refusal
question_in verb form (Ok asked) = question_by verb form asked
question_in verb form (Err reason) = Err reason

-- `dump` has no line
abbrev pub question : Verb → List ℕ → Form → Result Question Refusal
question verbs.Dump line form = Ok (questions.Dump form)
question verbs.Replace line form = Ok questions.Replace
question verb line form = question_in verb form (reading line)
