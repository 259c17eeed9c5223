-- Commands that are taken into a group one after the other.
use Rattle.std.proofs.Common.{◌≡◌, Bool, true, false, List, [], ◌∷◌, ◌++◌, ap, append_assoc, inl, inr, refl, subst, sym, ◌∙◌}
use Rattle.prt_command.specs.declared.request.Command.{Command}
use Rattle.prt_publisher.specs.ChangeSet.{Planned}
use Rattle.prt_service.specs.Group.{IsPartOf}
use Rattle.prt_version.specs.State.{State}

-- the group so far is of this state, and part of all with whatever comes of the commands that are left
pub record SoFar (state : State) (group : Planned) (rest all : List Command) : Type 0 where
  pub base : group.base ≡ state
  pub part : (more : List Command) → IsPartOf more rest → IsPartOf (group.commands ++ more) all

passed_over : (one : Command) (later more : List Command) → IsPartOf more later → IsPartOf more (one ∷ later)
passed_over one later [] part = tt
passed_over one later (first ∷ more) part = inr part

at_end : (list : List Command) → list ++ [] ≡ list
at_end [] = refl
at_end (first ∷ list) = ap (λ (more : List Command). first ∷ more) (at_end list)

pub begun : (group : Planned) (rest all : List Command) → group.commands ≡ [] → rest ≡ all → SoFar group.base group rest all
begun group rest all empty same = record {
  base = refl;
  part = λ more part. subst (λ (list : List Command). IsPartOf (list ++ more) all) (sym empty) (subst (IsPartOf more) same part);
}

taken : (group rest all : List Command) (one : Command) (later grown : List Command) → ((more : List Command) → IsPartOf more rest → IsPartOf (group ++ more) all) → rest ≡ one ∷ later → grown ≡ group ++ one ∷ [] → (more : List Command) → IsPartOf more later → IsPartOf (grown ++ more) all
taken group rest all one later grown so steps added more part =
    let whole : IsPartOf (group ++ one ∷ more) all = so (one ∷ more) (subst (IsPartOf (one ∷ more)) (sym steps) (inl (refl, part))) in
    subst (λ (list : List Command). IsPartOf (list ++ more) all) (sym added) (subst (λ (list : List Command). IsPartOf list all) (sym (append_assoc group (one ∷ []) more)) whole)

left_out : (group rest all : List Command) (one : Command) (later same : List Command) → ((more : List Command) → IsPartOf more rest → IsPartOf (group ++ more) all) → rest ≡ one ∷ later → same ≡ group → (more : List Command) → IsPartOf more later → IsPartOf (same ++ more) all
left_out group rest all one later same so steps is more part = subst (λ (list : List Command). IsPartOf (list ++ more) all) (sym is) (so more (subst (IsPartOf more) (sym steps) (passed_over one later more part)))

-- one command more was added, or let go
pub after : (is_added : Bool) (base : State) (old new : Planned) (rest all : List Command) (one : Command) (later : List Command) → SoFar base old rest all → rest ≡ one ∷ later
    → (is_added ≡ true → new ≡ record old { commands = old.commands ++ one ∷ [] }) → (is_added ≡ false → new ≡ old) → SoFar base new later all
after true base old new rest all one later so steps added let_go = record {
  base = ap (λ (p : Planned). p.base) (added refl) ∙ so.base;
  part = taken old.commands rest all one later new.commands so.part steps (ap (λ (p : Planned). p.commands) (added refl));
}
after false base old new rest all one later so steps added let_go = record {
  base = ap (λ (p : Planned). p.base) (let_go refl) ∙ so.base;
  part = left_out old.commands rest all one later new.commands so.part steps (ap (λ (p : Planned). p.commands) (let_go refl));
}

pub part_of_all : (base : State) (group : Planned) (rest all : List Command) → SoFar base group rest all → IsPartOf group.commands all
part_of_all base group rest all so = subst (λ (list : List Command). IsPartOf list all) (at_end group.commands) (so.part [] tt)
