-- What was written for a server that is followed.
use Rattle.std.proofs.Common.{◌≡◌, ◌∙◌, ℕ, Bool, true, false, List, [], Option, ap, refl, subst, sym}
use Rattle.std.proofs.lemmas.List.{append-nil}
use Rattle.prt_ask.proofs.Followed.{read_none, written_part, written_then}
use Rattle.prt_ask.specs.Fed.{AreRead}
use Rattle.prt_ask.specs.Mirrors.{AreNumbered, Follows, commands_of, mirror_of, steps_text}
use Rattle.prt_ask.specs.declared.mirror.Mirror.{Mirror}
use Rattle.prt_diff.specs.Text.{changes_text}
use Rattle.prt_diff.specs.declared.fence.Fence.{Fence}
use Rattle.prt_feed.specs.declared.change.Change.{Change}
use Rattle.prt_replies.specs.Written.{Written}
use Rattle.prt_version.specs.Accepted.{IsAccepted}
use Rattle.prt_version.specs.State.{State}
use Rattle.prt_args.specs.declared.server_place.ServerPlace.{ServerPlace}
use Rattle.prt_questions.specs.Asking.{follow_text}
use Rattle.prt_questions.specs.Sources.{AreFed, AreTold}
use Rattle.prt_machine.specs.declared.local.Socket.{Socket}

-- the first lines alone
pub first_lines : (fence : Fence) (found told : State) (a b : Option (List ℕ)) (text : List ℕ) → text ≡ changes_text fence found told → Written false a b text → Written false a b (follow_text fence found told [])
first_lines fence found told a b text is wrote = subst (Written false a b) (is ∙ sym (append-nil (changes_text fence found told))) wrote

-- and then those for changes
pub lines_after : (fence : Fence) (found told : State) (mirror new : Mirror) (changes : List Change) (whole : Bool) (a b c : Option (List ℕ)) (text : List ℕ) → text ≡ changes_text fence found told → mirror ≡ mirror_of fence found told → Written true a b text
    → Follows mirror new changes whole b c → IsAccepted told (commands_of changes) × Written false a c (follow_text fence found told (commands_of changes))
lines_after fence found told mirror new changes whole a b c text is begun wrote follows =
    let commands = commands_of changes in
    let first : Written true a b (changes_text fence found told) = subst (Written true a b) is wrote in
    let later : Written whole b c (steps_text (mirror_of fence found told) commands) = subst (λ (m : Mirror). Written whole b c (steps_text m commands)) begun follows.written in (
      subst (λ (s : State). IsAccepted s commands) (ap (λ (m : Mirror). m.wanted) begun) follows.accepted,
      written_part whole a c (follow_text fence found told commands) (written_then whole a b c (changes_text fence found told) (steps_text (mirror_of fence found told) commands) first later),
    )

-- What a feed reported, over which tables were told.
module _ {N Stream : Type 0} (reaches : N → ServerPlace → Socket → List ℕ → Stream → Type 0) (said : Stream → Option (List ℕ)) (net : N) (place : ServerPlace) where
  -- no change yet
  pub fed_none : (told : State) → AreTold reaches said net place told → AreFed reaches said net place told []
  fed_none told is = record { tables = is; changes = []; left = is.rest; read = read_none is.rest; numbered = tt; are = refl }

  -- the changes that were followed
  pub fed : (fence : Fence) (found told : State) (mirror new : Mirror) (changes : List Change) (whole : Bool) (reader left b c : Option (List ℕ)) (is : AreTold reaches said net place told) → reader ≡ is.rest → mirror ≡ mirror_of fence found told → AreRead reader left changes
      → Follows mirror new changes whole b c → AreFed reaches said net place told (commands_of changes)
  fed fence found told mirror new changes whole reader left b c is behind begun read follows = record {
    tables = is;
    changes = changes;
    left = left;
    read = subst (λ (bytes : Option (List ℕ)). AreRead bytes left changes) behind read;
    numbered = subst (λ (m : Mirror). AreNumbered m.wanted.count changes) begun follows.numbered;
    are = refl;
  }
