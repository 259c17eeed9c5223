-- What was asked of a source, and what was written of a text.
use Rattle.std.proofs.Common.{◌≡◌, ◌⊎◌, ◌∙◌, arith, eqb-true, inl, inr, ℕ, true, List, [], ◌∷◌, ◌++◌, length, Option, Some, ap, append-nil, refl, subst, sym}
use Rattle.std.specs.Prelude.{◌==◌, IfOk, Ok, Result, false}
use Rattle.std.specs.Io.KnownBytes.{Appends}
use Rattle.prt_args.specs.declared.server_place.ServerPlace.{ServerPlace}
use Rattle.sqlite.specs.Held.{Held}
use Rattle.sqlite.specs.Store.{Ghosts}
use Rattle.prt_import.specs.Accepted.{IsExecuted}
use Rattle.prt_import.specs.declared.accepted.Accepted.{Accepted}
use Rattle.prt_ask.specs.Answers.{AreNotes, is_whole_change}
use Rattle.prt_ask.specs.declared.answers.Answered.{Answered}
use Rattle.prt_ask.specs.declared.notes.Notes.{Notes}
use Rattle.prt_ask.specs.declared.question.Question.{Question}
use Rattle.prt_ask.specs.declared.question.Question.TheVariants as questions
use Rattle.prt_ask.specs.declared.refusal.AnswerError.{AnswerError}
use Rattle.prt_replies.specs.Written.{Written}
use Rattle.prt_version.specs.State.{State}
use Rattle.prt_args.specs.declared.asking.Source.{Source}
use Rattle.prt_args.specs.declared.asking.Source.TheVariants.{Database, Server, Script}
use Rattle.prt_questions.specs.Asking.{IsAnswered, IsAnsweredAtMost, IsAskedOf, IsCutOff, IsNotAsked, IsQuery, IsReplied, IsRepliedAtMost, IsTold, IsWholeAnswer, with_labels, named_answer}
use Rattle.prt_questions.specs.Sources.{Sources}
use Rattle.prt_questions.specs.ServerAnswers.{IsSaidOf, TellsOrReplies}
use Rattle.prt_questions.specs.declared.inquiry.Inquiry.{Inquiry}
use Rattle.prt_machine.specs.declared.database_opener.DatabaseOpener.{Ghosts as Opener}
use Rattle.prt_questions.specs.declared.remote.ServerAnswer.{ServerAnswer}
use Rattle.prt_questions.specs.declared.remote.ServerAnswer.TheVariants.{Reply, Tables}
use Rattle.prt_import.specs.TableNames.{names_of}

module _ {M S : Type 0} (g : Ghosts S) (by : Opener M (Held S)) (from : Sources) (old new : M) where
  -- what holds of the state that was asked, and what follows from it
  pub asked_more : (source : Source) (P Q : State → Type 0) → ((state : State) → P state → Q state) → IsAskedOf g by from old new source P → IsAskedOf g by from old new source Q
  asked_more (Database path) P Q more asked = record {
    between = asked.between;
    first = asked.first;
    last = asked.last;
    is_opened = asked.is_opened;
    made = (asked.made.0, asked.made.1, more asked.made.0 asked.made.2);
    is_closed = asked.is_closed;
  }
  asked_more (Server place) P Q more asked = (asked.0, asked.1, asked.2, more asked.1 asked.3)
  asked_more (Script file) P Q more asked = (asked.0, asked.1, asked.2, asked.3, asked.4, more asked.1.version asked.5)

  -- an answer of which nothing was written
  nothing_said : (text before lines : List ℕ) → Appends (Some before) (Some lines) text → before ≡ [] → lines ≡ [] → text ≡ []
  nothing_said text before lines appended begun empty = sym (ap (λ xs. xs ++ text) begun) ∙ sym appended ∙ empty

  pub says_nothing : (source : Source) (says : State → List ℕ) (IsWhole : State → Type 0) (before lines : List ℕ) → before ≡ [] → lines ≡ []
      → IsAnswered g by from old new (Some before) (Some lines) source says IsWhole → IsAskedOf g by from old new source (λ state. (says state ≡ []) × IsWhole state)
  says_nothing (Script file) says IsWhole before lines begun empty answered =
      (answered.0, answered.1, answered.2, answered.3, answered.4, (nothing_said (says answered.1.version) before lines answered.6 begun empty, answered.7))
  says_nothing (Database path) says IsWhole before lines begun empty answered =
      asked_more (Database path) (λ state. Appends (Some before) (Some lines) (says state) × IsWhole state) (λ state. (says state ≡ []) × IsWhole state)
      (λ state is. (nothing_said (says state) before lines is.0 begun empty, is.1)) answered
  says_nothing (Server place) says IsWhole before lines begun empty answered =
      (answered.0, answered.1, answered.2, (nothing_said (says answered.1) before lines answered.3.0 begun empty, answered.3.1))

  -- whether it was asked, whatever was written
  pub asked_or_not : (source : Source) (says : State → List ℕ) (writer0 writer : Option (List ℕ)) → IsAnsweredAtMost g by from old new writer0 writer source says
      → IsNotAsked g by old new source ⊎ IsAskedOf g by from old new source (λ state. Unit {0})
  asked_or_not source says writer0 writer (inl not_asked) = inl not_asked.0
  asked_or_not source says writer0 writer (inr asked) = inr (asked_more source (λ state. IsCutOff (says state) writer0 writer) (λ state. Unit {0}) (λ state cut. tt) asked)

-- all of a text is a part of it
pub whole_is_part : (writer0 writer : Option (List ℕ)) (text : List ℕ) → Appends writer0 writer text → Written false writer0 writer text
whole_is_part writer0 writer text appended = (text, [], sym (append-nil text), appended)

-- a list without elements
pub none_there : (xs : List ℕ) → (length xs == 0) ≡ true → xs ≡ []
none_there [] is = refl
none_there (x ∷ xs) is = let bad : length (x ∷ xs) ≡ 0 = eqb-true (length (x ∷ xs)) 0 is in absurd (omega arith)

-- of a script no database is touched
pub of_script : {M : Type 0} (machine : M) (reads : List ℕ → Type 0) (writer0 writer : Option (List ℕ)) (says : State → List ℕ)
    → (writer ≡ writer0) ⊎ ((made : Accepted) × (text : List ℕ) × reads text × IsExecuted made text × IsCutOff (says made.version) writer0 writer)
    → ((machine ≡ machine) × (writer ≡ writer0)) ⊎ ((machine ≡ machine) × (made : Accepted) × (text : List ℕ) × reads text × IsExecuted made text × IsCutOff (says made.version) writer0 writer)
of_script machine reads writer0 writer says (inl same) = inl (refl, same)
of_script machine reads writer0 writer says (inr made) = inr (refl, made.0, made.1, made.2, made.3, made.4)

-- nor of a server
pub of_server : {M : Type 0} (machine : M) (tells : State → Type 0) (writer0 writer : Option (List ℕ)) (says : State → List ℕ)
    → (writer ≡ writer0) ⊎ ((told : State) × tells told × IsCutOff (says told) writer0 writer)
    → ((machine ≡ machine) × (writer ≡ writer0)) ⊎ ((machine ≡ machine) × (told : State) × tells told × IsCutOff (says told) writer0 writer)
of_server machine tells writer0 writer says (inl same) = inl (refl, same)
of_server machine tells writer0 writer says (inr told) = inr (refl, told.0, told.1, told.2)

-- the answer of a query is whole
query_is_whole : (question : Question) (state : State) → IsQuery question → IsWholeAnswer question state
query_is_whole (questions.Query query form) state is = tt
query_is_whole (questions.Explain packet form) state is = tt
query_is_whole (questions.Dump form) state is = tt
query_is_whole questions.Replace state is = absurd is
query_is_whole (questions.Diff comparison) state is = absurd is

whole_by : (question : Question) (state : State) (notes : Notes) → AreNotes question state notes → is_whole_change notes ≡ true → IsWholeAnswer question state
whole_by (questions.Query query form) state notes are is = tt
whole_by (questions.Explain packet form) state notes are is = tt
whole_by (questions.Dump form) state notes are is = tt
whole_by questions.Replace state notes are is = (notes, are, is)
whole_by (questions.Diff comparison) state notes are is = (notes, are, is)

-- and any answer whose notes say so
pub whole_answer : (question : Question) (state : State) (answered : Result Answered AnswerError) → IfOk answered (λ made. AreNotes question state made.notes)
    → ((made : Answered) × (answered ≡ Ok made) × (is_whole_change made.notes ≡ true)) → IsWholeAnswer question state
whole_answer question state answered are is = whole_by question state is.0.notes (subst (λ result. IfOk result (λ made. AreNotes question state made.notes)) is.1 are) is.2

-- what a server said and was written, of its tables or by a session
module _ {M S : Type 0} (g : Ghosts S) (by : Opener M (Held S)) (from : Sources) (machine : M) (writer0 writer : Option (List ℕ)) where
  pub told_whole : (place : ServerPlace) (line : List ℕ) (inquiry : Inquiry) (text : List ℕ) → IsQuery inquiry.question → IsTold (from.tells place) (from.replies place line) inquiry text → Appends writer0 writer text
      → IsAnswered g by from machine machine writer0 writer (Server place) (named_answer inquiry) (IsWholeAnswer inquiry.question)
      ⊎ IsReplied g by from machine machine writer0 writer (Server place) line (with_labels inquiry.labels inquiry.form (names_of inquiry.names.now))
  told_whole place line inquiry text query (inl (told, tells, is)) appended = inl (refl, told, tells, (rw (sym is) appended, query_is_whole inquiry.question told query))
  told_whole place line inquiry text query (inr (reply, replies, is)) appended = inr (refl, reply, replies, rw (sym is) appended)

  pub told_at_most : (place : ServerPlace) (line : List ℕ) (inquiry : Inquiry) → (writer ≡ writer0) ⊎ ((text : List ℕ) × IsTold (from.tells place) (from.replies place line) inquiry text × IsCutOff text writer0 writer)
      → IsAnsweredAtMost g by from machine machine writer0 writer (Server place) (named_answer inquiry)
      ⊎ IsRepliedAtMost g by from machine machine writer0 writer (Server place) line (with_labels inquiry.labels inquiry.form (names_of inquiry.names.now))
  told_at_most place line inquiry (inl same) = inl (inl (refl, same))
  told_at_most place line inquiry (inr (text, inl (told, tells, is), cut)) = inl (inr (refl, told, tells, rw (sym is) cut))
  told_at_most place line inquiry (inr (text, inr (reply, replies, is), cut)) = inr (refl, reply, replies, rw (sym is) cut)

-- what a server told, by what was said of it
pub told_said : (tells : State → Type 0) (replies : List ℕ → Type 0) (told : ServerAnswer) (inquiry : Inquiry) (text : List ℕ) → TellsOrReplies tells replies told → IsSaidOf told inquiry text → IsTold tells replies inquiry text
told_said tells replies (Tables version) inquiry text tells_it is = inl (version, tells_it, is)
told_said tells replies (Reply reply) inquiry text replies_it is = inr (reply.items, replies_it, is)

-- an answer, or a reply to what is a query
pub or_query : {Query Answered Replied : Type 0} → Query → Answered ⊎ Replied → Answered ⊎ (Query × Replied)
or_query query (inl answered) = inl answered
or_query query (inr replied) = inr (query, replied)
