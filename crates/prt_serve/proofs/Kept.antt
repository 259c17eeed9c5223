-- What was replied `ok N` in sessions that were served is kept by what was known at the end.
use Rattle.std.proofs.Common.{◌≡◌, ◌≤◌, ℕ, suc, All, List, [], ◌∷◌, ◌++◌, Option, Some, None, Result, Ok, Err, inl, inr, length, refl, sym, ap, ◌∙◌, subst, arith}
use Rattle.std.proofs.lemmas.List.Elements.{All-cons, All-nil}
use Rattle.prt_command.specs.Reading.{reading}
use Rattle.prt_command.specs.declared.request.Command.{Command}
use Rattle.prt_command.specs.declared.request.Request.{Request}
use Rattle.prt_command.specs.declared.request.Request.TheVariants as requests
use Rattle.prt_published.proofs.Prefixes.{begins_self, begins_trans}
use Rattle.prt_published.specs.Line.{Begins, Line}
use Rattle.prt_refusals.specs.declared.refusal.Refusal.{Refusal}
use Rattle.prt_refusals.specs.declared.on_refusal.OnRefusal.TheVariants.{GoOn}
use Rattle.prt_replies.specs.declared.reply.Reply.{Reply}
use Rattle.prt_replies.specs.declared.reply.Reply.TheVariants as replies
use Rattle.prt_replies.specs.declared.script_end.ScriptEnd.{ScriptEnd}
use Rattle.prt_serve.proofs.Scripts.{together_grows}
use Rattle.prt_serve.specs.Jobs.{ServesEach, ServesJob, ServesKind}
use Rattle.prt_serve.specs.Kept.{HasAnswered, HasExchanged, HasFollowed, HasMade, HasReplied, HasUpTo, IsInTurn, IsKept, IsNumber, Keeps, Session, Work}
use Rattle.prt_serve.specs.Lists.{AllBegin, AreReplies, AreTold, IsTold, reply_on, seen_in, taken_by, taken_in}
use Rattle.prt_serve.specs.Requests.{Event, refused, seen, service_turn, taken, unanswered, unseen}
use Rattle.prt_serve.specs.Together.{Comes, Follows, Outcome}
use Rattle.prt_serve.specs.declared.script_header.ScriptHeader.{ScriptHeader}
use Rattle.prt_serve.specs.declared.worker.Job.{Job}
use Rattle.prt_serve.specs.declared.worker.SessionKind.{SessionKind}
use Rattle.prt_serve.specs.declared.worker.SessionKind.TheVariants.{InTurn, Together}
use Rattle.prt_serve.specs.declared.worker.Served.{Served}
use Rattle.prt_service.specs.declared.submit_error.SubmitError.TheVariants as why
use Rattle.prt_session.specs.Session.{Exchange, session}

-- ---- a session of which each line is executed in its turn

all_begin_left : (ls ms : List Line) (line : Line) → AllBegin (ls ++ ms) line → AllBegin ls line
all_begin_left [] ms line all = tt
all_begin_left (l ∷ ls) ms line all = (all.0, all_begin_left ls ms line all.1)

all_begin_right : (ls ms : List Line) (line : Line) → AllBegin (ls ++ ms) line → AllBegin ms line
all_begin_right [] ms line all = all
all_begin_right (l ∷ ls) ms line all = all_begin_right ls ms line all.1

has_replied : (line : Line) (asked : Result (Option Request) Refusal) (event : Option Event) (later : List Line) → IsTold asked event later → AllBegin (taken_by event) line → HasReplied line asked (reply_on asked event)
has_replied line (Err reason) event later told begin = tt
has_replied line (Ok None) event later told begin = tt
has_replied line (Ok (Some (requests.Query q))) None later told begin = tt
has_replied line (Ok (Some (requests.Query q))) (Some (seen l)) later told begin = tt
has_replied line (Ok (Some (requests.Query q))) (Some (unanswered l)) later told begin = tt
has_replied line (Ok (Some (requests.Query q))) (Some (unseen l)) later told begin = tt
has_replied line (Ok (Some (requests.Query q))) (Some (taken r l)) later told begin = tt
has_replied line (Ok (Some (requests.Query q))) (Some (refused e)) later told begin = tt
has_replied line (Ok (Some (requests.Command c))) None later told begin = tt
has_replied line (Ok (Some (requests.Command c))) (Some (seen l)) later told begin = tt
has_replied line (Ok (Some (requests.Command c))) (Some (unanswered l)) later told begin = tt
has_replied line (Ok (Some (requests.Command c))) (Some (unseen l)) later told begin = tt
has_replied line (Ok (Some (requests.Command c))) (Some (taken r l)) later told begin = (r, begin.0, told.0, refl)
has_replied line (Ok (Some (requests.Command c))) (Some (refused e)) later told begin = tt

has_exchanged : (line : Line) (xs : List (Exchange Event)) → AreReplies xs → AreTold xs → AllBegin (taken_in xs) line → HasExchanged line xs
has_exchanged line [] replies told begin = tt
has_exchanged line (x ∷ xs) replies told begin =
    let one = has_replied line (reading x.line) x.mishap (seen_in xs) told.0 (all_begin_left (taken_by x.mishap) (taken_in xs) line begin) in
    (subst (HasReplied line (reading x.line)) (sym replies.0) one, has_exchanged line xs replies.1 told.1 (all_begin_right (taken_by x.mishap) (taken_in xs) line begin))

-- ---- an atomic script

has_made : (expected : Option ℕ) (known0 known : Line) (commands : List Command) (came : Outcome) → Comes expected known0 known commands came → HasMade known commands came
has_made expected known0 known commands (Ok None) comes = tt
has_made expected known0 known commands (Ok (Some last)) comes = (comes.1.0, comes.1.4, comes.1.2, sym comes.1.1)
has_made expected known0 known commands (Err reason) comes = tt

has_followed : (refusal : Option Reply) (header : ScriptHeader) (known0 known : Line) (commands : List Command) (writer0 writer : Option (List ℕ)) (read end : ScriptEnd) (follows : Follows refusal header known0 known commands writer0 writer read end)
    → HasFollowed known refusal header known0 known commands writer0 writer read end follows
has_followed (Some reply) header known0 known commands writer0 writer read end follows = tt
has_followed None header known0 known commands writer0 writer read end (inl submitted) = has_made header.number known0 known commands submitted.1.came submitted.1.comes
has_followed None header known0 known commands writer0 writer read end (inr short) = tt

-- ---- either

has_answered : (kind : SessionKind) (known0 known : Line) (reader0 reader writer0 writer : Option (List ℕ)) (end : ScriptEnd) (served : ServesKind kind known0 known reader0 reader writer0 writer end)
    → HasAnswered known kind known0 known reader0 reader writer0 writer end served
has_answered InTurn known0 known reader0 reader writer0 writer end served =
    has_exchanged known (session service_turn known0 served.run.input GoOn served.run.mishaps).exchanges served.shows.replies served.shows.receipts served.shows.taken_known
has_answered Together known0 known reader0 reader writer0 writer end (inl opens) = has_followed opens.file.read.refusal opens.header known0 known opens.file.commands opens.file.between writer opens.file.reading end opens.file.follows
has_answered Together known0 known reader0 reader writer0 writer end (inr fails) = tt

kind_grows : (kind : SessionKind) (known0 known : Line) (reader0 reader writer0 writer : Option (List ℕ)) (end : ScriptEnd) → ServesKind kind known0 known reader0 reader writer0 writer end → Begins known0 known
kind_grows InTurn known0 known reader0 reader writer0 writer end served = served.shows.grows
kind_grows Together known0 known reader0 reader writer0 writer end served = together_grows known0 known reader0 reader writer0 writer end served

-- ---- a list that begins with it keeps it too

module _ (line more : Line) (begins : Begins line more) where
  more_up_to : (number : ℕ) (commands : List Command) → HasUpTo line number commands → HasUpTo more number commands
  more_up_to number commands has = (has.0, begins_trans has.0 line more has.1 begins, has.2, has.3)

  more_number : (asked : Result (Option Request) Refusal) (number : ℕ) → IsNumber line number asked → IsNumber more number asked
  more_number (Err reason) number has = absurd has
  more_number (Ok None) number has = absurd has
  more_number (Ok (Some (requests.Query q))) number has = absurd has
  more_number (Ok (Some (requests.Command c))) number has = more_up_to number (c ∷ []) has

  more_replied : (asked : Result (Option Request) Refusal) (reply : Reply) → HasReplied line asked reply → HasReplied more asked reply
  more_replied asked (replies.Accepted number) has = more_number asked number has
  more_replied asked replies.Silent has = tt
  more_replied asked (replies.Answered text) has = tt
  more_replied asked (replies.Refused reason) has = tt

  more_exchanged : (xs : List (Exchange Event)) → HasExchanged line xs → HasExchanged more xs
  more_exchanged [] has = tt
  more_exchanged (x ∷ xs) has = (more_replied (reading x.line) x.reply has.0, more_exchanged xs has.1)

  more_made : (commands : List Command) (came : Outcome) → HasMade line commands came → HasMade more commands came
  more_made commands (Ok None) has = tt
  more_made commands (Ok (Some last)) has = more_up_to last commands has
  more_made commands (Err reason) has = tt

  more_followed : (refusal : Option Reply) (header : ScriptHeader) (known0 known : Line) (commands : List Command) (writer0 writer : Option (List ℕ)) (read end : ScriptEnd) (follows : Follows refusal header known0 known commands writer0 writer read end)
      → HasFollowed line refusal header known0 known commands writer0 writer read end follows → HasFollowed more refusal header known0 known commands writer0 writer read end follows
  more_followed (Some reply) header known0 known commands writer0 writer read end follows has = tt
  more_followed None header known0 known commands writer0 writer read end (inl submitted) has = more_made commands submitted.1.came has
  more_followed None header known0 known commands writer0 writer read end (inr short) has = tt

  more_answered : (kind : SessionKind) (known0 known : Line) (reader0 reader writer0 writer : Option (List ℕ)) (end : ScriptEnd) (served : ServesKind kind known0 known reader0 reader writer0 writer end)
      → HasAnswered line kind known0 known reader0 reader writer0 writer end served → HasAnswered more kind known0 known reader0 reader writer0 writer end served
  more_answered InTurn known0 known reader0 reader writer0 writer end served has = more_exchanged (session service_turn known0 served.run.input GoOn served.run.mishaps).exchanges has
  more_answered Together known0 known reader0 reader writer0 writer end (inl opens) has = more_followed opens.file.read.refusal opens.header known0 known opens.file.commands opens.file.between writer opens.file.reading end opens.file.follows has
  more_answered Together known0 known reader0 reader writer0 writer end (inr fails) has = tt

  more_kept : (s : Session) → IsKept line s → IsKept more s
  more_kept s kept = record { served = kept.served; has = more_answered s.kind s.known0 s.known s.reader0 s.reader s.writer0 s.writer s.end kept.served kept.has }

  pub keeps_more : (work : Work) → Keeps line work → Keeps more work
  keeps_more work keeps = record {
    begins = begins_trans work.known line more keeps.begins begins;
    first = keeps.first;
    sessions = keeps.sessions;
    counted = keeps.counted;
    in_turn = keeps.in_turn;
    kept = λ k d below. more_kept _ (keeps.kept k d below);
  }

-- ---- jobs that were served one after another

-- The sessions of so many jobs, from what was known first to what is known at the end.
record Sessions (known0 : Line) (number : ℕ) (known : Line) : Type 0 where
  sessions : List Session
  many : length sessions ≡ number
  in_turn : IsInTurn known0 sessions known
  kept : All (IsKept known) sessions

module _ {R W F : Type 0} (remaining : R → Option (List ℕ)) (contents : W → Option (List ℕ)) (takes : F → Served R W → F → Type 0) where
  each_grows : (known0 : Line) (after0 : F) (jobs : List (Job R W)) (known : Line) (after : F) → ServesEach remaining contents takes known0 after0 jobs known after → Begins known0 known
  each_grows known0 after0 [] known after each = subst (Begins known0) (sym each.0) (begins_self known0)
  each_grows known0 after0 (job ∷ jobs) known after each =
      begins_trans known0 each.0 known (kind_grows job.kind known0 each.0 _ _ _ _ _ each.2.served) (each_grows each.0 each.1 jobs known after each.3)

  -- a job's session
  abbrev session_of : (known0 : Line) (after0 : F) (job : Job R W) (known : Line) (after : F) → ServesJob remaining contents takes known0 after0 job known after → Session
  session_of known0 after0 job known after one = record {
    kind = job.kind;
    known0 = known0;
    known = known;
    reader0 = remaining job.reader;
    reader = remaining one.left.job.reader;
    writer0 = contents job.writer;
    writer = contents one.left.job.writer;
    end = one.left.end;
  }

  sessions_of : (known0 : Line) (after0 : F) (jobs : List (Job R W)) (known : Line) (after : F) → ServesEach remaining contents takes known0 after0 jobs known after → Sessions known0 (length jobs) known
  sessions_of known0 after0 [] known after each = record { sessions = []; many = refl; in_turn = each.0; kept = All-nil (IsKept known) }
  sessions_of known0 after0 (job ∷ jobs) known after each =
      let next = each.0 in
      let one = session_of known0 after0 job next each.1 each.2 in
      let its : IsKept next one = record { served = each.2.served; has = has_answered job.kind known0 next _ _ _ _ _ each.2.served } in
      let rest = sessions_of next each.1 jobs known after each.3 in
      record {
        sessions = one ∷ rest.sessions;
        many = ap (λ n. suc n) rest.many;
        in_turn = (refl, rest.in_turn);
        kept = All-cons (IsKept known) one rest.sessions (more_kept next known (each_grows next each.1 jobs known after each.3) one its) rest.kept;
      }

  -- what was known at the end keeps them
  pub keeps_each : (known0 : Line) (after0 : F) (jobs : List (Job R W)) (known : Line) (after : F) (served : ℕ) → ServesEach remaining contents takes known0 after0 jobs known after → served ≤ length jobs → Keeps known (record { known = known; served = served })
  keeps_each known0 after0 jobs known after served each counted =
      let all = sessions_of known0 after0 jobs known after each in
      record { begins = begins_self known; first = known0; sessions = all.sessions; counted = subst (λ (n : ℕ). served ≤ n) (sym all.many) counted; in_turn = all.in_turn; kept = all.kept }
