-- What the turns of a session make of the lists that are known.
use Rattle.std.proofs.Common.{◌≡◌, List, [], ◌∷◌, ◌++◌, Option, Some, None, Result, Ok, Err, refl, sym, ◌∙◌, subst}
use Rattle.prt_refusals.specs.declared.refusal.Refusal.{Refusal}
use Rattle.prt_command.specs.Reading.{reading}
use Rattle.prt_command.specs.declared.request.Request.{Request}
use Rattle.prt_command.specs.declared.request.Request.TheVariants as requests
use Rattle.prt_published.specs.Line.{Line, Begins}
use Rattle.prt_published.proofs.Prefixes.{begins_self, begins_trans}
use Rattle.prt_serve.specs.Lists.{seen_by, seen_in, taken_by, taken_in, Rises, BeginsAll, AllBegin, reply_on, IsTold, Shows}
use Rattle.prt_serve.specs.Requests.{Event, seen, unanswered, unseen, taken, refused, service_turn, service_may}
use Rattle.prt_session.specs.Session.{Exchange, LineMay, MayOn, Path, line_turn, turn_on}

rises_from : (l m : Line) (ls : List Line) → Begins l m → Rises m ls → Rises l ls
rises_from l m [] p rises = tt
rises_from l m (k ∷ ls) p rises = (begins_trans l m k p rises.0, rises.1)

rises_all : (l : Line) (ls : List Line) → Rises l ls → BeginsAll l ls
rises_all l [] rises = tt
rises_all l (m ∷ ls) rises = (rises.0, rises_all l ls (rises_from l m ls rises.0 rises.1))

-- What one line makes of them, before the lines that follow.
record Steps (known : Line) (asked : Result (Option Request) Refusal) (event : Option Event) (xs : List (Exchange Event)) (last next : Line) : Type 0 where
  begins : Begins known next
  rises : Rises next (seen_in xs) → Rises known (seen_by event ++ seen_in xs)
  told : Rises next (seen_in xs) → IsTold asked event (seen_in xs)
  seen_known : Begins next last → AllBegin (seen_in xs) last → AllBegin (seen_by event ++ seen_in xs) last
  taken_known : Begins next last → AllBegin (taken_in xs) last → AllBegin (taken_by event ++ taken_in xs) last

tells_nothing : (asked : Result (Option Request) Refusal) (later : List Line) → IsTold asked None later
tells_nothing (Err reason) later = tt
tells_nothing (Ok None) later = tt
tells_nothing (Ok (Some (requests.Query q))) later = tt
tells_nothing (Ok (Some (requests.Command c))) later = tt

same_step : (known : Line) (asked : Result (Option Request) Refusal) (xs : List (Exchange Event)) (last : Line) → Steps known asked None xs last known
same_step known asked xs last = record { begins = begins_self known; rises = λ r. r; told = λ r. tells_nothing asked (seen_in xs); seen_known = λ p all. all; taken_known = λ p all. all }

abbrev after : Line → Result (Option Request) Refusal → Option Event → Line
after known asked event = (turn_on service_turn known asked event).desk

unasked : (known : Line) (asked : Result (Option Request) Refusal) (event : Option Event) (xs : List (Exchange Event)) (last next : Line) → event ≡ None → next ≡ known → Steps known asked event xs last next
unasked known asked event xs last next is same = subst (λ (e : Option Event). Steps known asked e xs last next) (sym is) (subst (λ (l : Line). Steps known asked None xs last l) (sym same) (same_step known asked xs last))

steps : (known : Line) (asked : Result (Option Request) Refusal) (event : Option Event) (xs : List (Exchange Event)) (last : Line) → MayOn service_may known asked event → Steps known asked event xs last (after known asked event)
steps known (Err reason) event xs last is = unasked known (Err reason) event xs last known is refl
steps known (Ok None) event xs last is = unasked known (Ok None) event xs last known is refl
steps known (Ok (Some (requests.Query q))) None xs last h = absurd h
steps known (Ok (Some (requests.Query q))) (Some (seen l)) xs last h = record { begins = h; rises = λ r. (h, r); told = λ r. tt; seen_known = λ p all. (p, all); taken_known = λ p all. all }
steps known (Ok (Some (requests.Query q))) (Some (unanswered l)) xs last h = record { begins = h; rises = λ r. (h, r); told = λ r. tt; seen_known = λ p all. (p, all); taken_known = λ p all. all }
steps known (Ok (Some (requests.Query q))) (Some (unseen l)) xs last h = record { begins = h; rises = rises_from known l (seen_in xs) h; told = λ r. tt; seen_known = λ p all. all; taken_known = λ p all. all }
steps known (Ok (Some (requests.Query q))) (Some (taken r l)) xs last h = absurd h
steps known (Ok (Some (requests.Query q))) (Some (refused e)) xs last h = absurd h
steps known (Ok (Some (requests.Command c))) None xs last h = absurd h
steps known (Ok (Some (requests.Command c))) (Some (seen l)) xs last h = absurd h
steps known (Ok (Some (requests.Command c))) (Some (unanswered l)) xs last h = absurd h
steps known (Ok (Some (requests.Command c))) (Some (unseen l)) xs last h = absurd h
steps known (Ok (Some (requests.Command c))) (Some (taken r l)) xs last h = record {
  begins = h.2;
  rises = rises_from known l (seen_in xs) h.2;
  told = λ rises. (h.0, rises_all r (seen_in xs) (rises_from r l (seen_in xs) h.1 rises));
  seen_known = λ p all. all;
  taken_known = λ p all. (begins_trans r l last h.1 p, all);
}
steps known (Ok (Some (requests.Command c))) (Some (refused e)) xs last h = record { begins = begins_self known; rises = λ r. r; told = λ r. tt; seen_known = λ p all. all; taken_known = λ p all. all }

reply_is : (known : Line) (asked : Result (Option Request) Refusal) (event : Option Event) → (turn_on service_turn known asked event).reply ≡ reply_on asked event
reply_is known (Err reason) event = refl
reply_is known (Ok None) event = refl
reply_is known (Ok (Some request)) event = refl

pub shows_path : (known0 known : Line) (xs : List (Exchange Event)) → Path service_turn service_may known0 xs known → Shows known0 known xs
unfolding line_turn LineMay
shows_path known0 known [] is = record { replies = tt; seen_rises = tt; receipts = tt; seen_known = tt; taken_known = tt; grows = subst (Begins known0) (sym is) (begins_self known0) }
shows_path known0 known (x ∷ xs) path =
    let asked = reading x.line in
    let step : Steps known0 asked x.mishap xs known (after known0 asked x.mishap) = steps known0 asked x.mishap xs known path.0 in
    let rest : Shows (after known0 asked x.mishap) known xs = shows_path (after known0 asked x.mishap) known xs path.2 in
    record {
      replies = (path.1 ∙ reply_is known0 asked x.mishap, rest.replies);
      seen_rises = step.rises rest.seen_rises;
      receipts = (step.told rest.seen_rises, rest.receipts);
      seen_known = step.seen_known rest.grows rest.seen_known;
      taken_known = step.taken_known rest.grows rest.taken_known;
      grows = begins_trans known0 (after known0 asked x.mishap) known step.begins rest.grows;
    }
