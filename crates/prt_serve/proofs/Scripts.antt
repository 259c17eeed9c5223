-- An atomic script over a service, put together from its reading and what came of its commands.
use Rattle.std.proofs.Common.{◌≡◌, ◌≤◌, ℕ, true, List, Option, Some, None, is_some, Ok, Err, inl, inr, refl, sym, subst, length}
use Rattle.prt_command.specs.declared.request.Command.{Command}
use Rattle.prt_published.proofs.Prefixes.{begins_self}
use Rattle.prt_published.specs.Line.{Begins, Line}
use Rattle.prt_replies.specs.declared.reply.Reply.{Reply}
use Rattle.prt_replies.specs.declared.script_end.ScriptEnd.{ScriptEnd}
use Rattle.prt_refusals.specs.declared.refusal.Refusal.TheVariants.{ReadFault}
use Rattle.prt_serve.specs.ScriptHeader.{is_as_many}
use Rattle.prt_serve.specs.declared.script_header.ScriptHeader.{ScriptHeader}
use Rattle.prt_serve.specs.Together.{Comes, ScriptIs, Follows, IsSubmitted, Outcome, ServesTogether, ToldIs}
use Rattle.prt_service.specs.Service.{IsWhyNotMade}
use Rattle.prt_service.specs.declared.submit_error.SubmitError.{SubmitError}
use Rattle.prt_service.specs.declared.submit_error.SubmitError.TheVariants as why
use Rattle.prt_session.specs.Atomic.{ReadIs}
use Rattle.prt_session.specs.Steps.{AreSubmittable}

module _ (header : ScriptHeader) (commands : List Command) (submittable : AreSubmittable commands) (reader0 reader writer0 : Option (List ℕ)) where
  -- a refusal of a line ends the script
  pub refused_file : (known : Line) (writer : Option (List ℕ)) (end : ScriptEnd) (read : ReadIs commands reader0 reader writer0 writer end) → (read.refusal ≡ None → ⊥) → ScriptIs header known known reader0 reader writer0 writer end
  refused_file known writer end read some = elim read.is_refusal [
    | inl none ↦ absurd (some none)
    | inr refused ↦ record {
      commands = commands;
      submittable = submittable;
      between = writer;
      reading = end;
      read = read;
      follows = subst (λ (refusal : Option Reply). Follows refusal header known known commands writer writer end end) (sym refused.1) (refl, refl, refl);
    }
  ]

  -- if there is none, this is what follows
  followed_file : (known0 known : Line) (between writer : Option (List ℕ)) (reading end : ScriptEnd) (read : ReadIs commands reader0 reader writer0 between reading) → read.refusal ≡ None → Follows None header known0 known commands between writer reading end →
      ScriptIs header known0 known reader0 reader writer0 writer end
  followed_file known0 known between writer reading end read none follows = record {
    commands = commands;
    submittable = submittable;
    between = between;
    reading = reading;
    read = read;
    follows = subst (λ (refusal : Option Reply). Follows refusal header known0 known commands between writer reading end) (sym none) follows;
  }

  -- the commands are submitted
  pub submitted_file : (known0 known : Line) (between writer : Option (List ℕ)) (reading end : ScriptEnd) (read : ReadIs commands reader0 reader writer0 between reading) → read.refusal ≡ None → is_as_many header.count (length commands) ≡ true → (came : Outcome) →
      Comes header.number known0 known commands came → ToldIs (length commands) came between writer end → ScriptIs header known0 known reader0 reader writer0 writer end
  submitted_file known0 known between writer reading end read none many came comes told =
      let submitted : IsSubmitted header.number known0 known commands between writer end = record { came = came; comes = comes; told = told } in
      followed_file known0 known between writer reading end read none (inl (many, submitted))

  -- or the script is cut off
  pub short_file : (known : Line) (between writer : Option (List ℕ)) (reading end : ScriptEnd) (read : ReadIs commands reader0 reader writer0 between reading) → read.refusal ≡ None → is_some header.count ≡ true → ToldIs 0 (Err (why.Refused ReadFault)) between writer end →
      ScriptIs header known known reader0 reader writer0 writer end
  short_file known between writer reading end read none counted told = followed_file known known between writer reading end read none (inr (record { counted = counted; same = refl; told = told }))

-- some commands that are not made
pub not_made : (expected : Option ℕ) (known0 known : Line) (commands : List Command) (reason : SubmitError) → 1 ≤ length commands → IsWhyNotMade expected reason → known ≡ known0 → Comes expected known0 known commands (Err reason)
not_made expected known0 known commands (why.Refused reason) some is same = (some, is, same)
not_made expected known0 known commands (why.Moved number) some is same = (is, same)

-- ---- what is known only grows

same_grows : (known0 known : Line) → known ≡ known0 → Begins known0 known
same_grows known0 known same = subst (Begins known0) (sym same) (begins_self known0)

comes_grows : (expected : Option ℕ) (known0 known : Line) (commands : List Command) (came : Outcome) → Comes expected known0 known commands came → Begins known0 known
comes_grows expected known0 known commands (Ok None) comes = same_grows known0 known comes.1
comes_grows expected known0 known commands (Ok (Some last)) comes = comes.1.5
comes_grows expected known0 known commands (Err (why.Refused reason)) comes = same_grows known0 known comes.2
comes_grows expected known0 known commands (Err (why.Moved number)) comes = same_grows known0 known comes.1

follows_grows : (refusal : Option Reply) (header : ScriptHeader) (known0 known : Line) (commands : List Command) (between writer : Option (List ℕ)) (reading end : ScriptEnd) → Follows refusal header known0 known commands between writer reading end → Begins known0 known
follows_grows (Some refused) header known0 known commands between writer reading end follows = same_grows known0 known follows.0
follows_grows None header known0 known commands between writer reading end (inl follows) = comes_grows header.number known0 known commands follows.1.came follows.1.comes
follows_grows None header known0 known commands between writer reading end (inr short) = same_grows known0 known short.same

pub together_grows : (known0 known : Line) (reader0 reader writer0 writer : Option (List ℕ)) (end : ScriptEnd) → ServesTogether known0 known reader0 reader writer0 writer end → Begins known0 known
together_grows known0 known reader0 reader writer0 writer end (inl opens) = follows_grows opens.file.read.refusal opens.header known0 known opens.file.commands opens.file.between writer opens.file.reading end opens.file.follows
together_grows known0 known reader0 reader writer0 writer end (inr fails) = same_grows known0 known fails.same
