-- Commands that a server made in parts.
use Rattle.std.proofs.Common.{◌≡◌, ◌∙◌, ◌+◌, ℕ, List, [], ◌∷◌, ◌++◌, ap, append_assoc, arith, drop, length, refl, subst, sym, take}
use Rattle.std.specs.Prelude.{flat_map}
use Rattle.std.proofs.lemmas.List.{append-nil, flat_map_more, length-append, take-append-drop}
use Rattle.prt_command.specs.declared.request.Command.{Command}
use Rattle.prt_questions.specs.Submitting.{AreAllMade, AreMade, AreMadeInParts}

-- the commands of all parts
abbrev pub joined : List (List Command) → List Command
joined parts = flat_map (λ part. part) parts

-- what was split, joined again
pub split_joined : (n : ℕ) (xs part later : List Command) → part ≡ take n xs → later ≡ drop n xs → part ++ later ≡ xs
split_joined n xs part later front back = ap (λ (cs : List Command). cs ++ later) front ∙ ap (λ (cs : List Command). take n xs ++ cs) back ∙ take-append-drop n xs

module _ (replies : List ℕ → List ℕ → Type 0) where
  -- one part more
  more_made : (number : ℕ) (parts : List (List Command)) (part : List Command) → AreAllMade replies number parts → AreMade replies (number + length (joined parts)) part → AreAllMade replies number (parts ++ part ∷ [])
  more_made number [] part made is = let e : number + 0 ≡ number = omega arith in (subst (λ n. AreMade replies n part) e is, tt)
  more_made number (first ∷ parts) part made is =
      let long : length (first ++ joined parts) ≡ length first + length (joined parts) = length-append first (joined parts) in
      let e : number + length (first ++ joined parts) ≡ number + length first + length (joined parts) = omega (arith, long) in
      (made.0, more_made (number + length first) parts part made.1 (subst (λ n. AreMade replies n part) e is))

  -- How far a server has made commands: those of some parts, up to this number; the rest is to come.
  pub record IsMadeUpTo (number : ℕ) (commands : List Command) (sent : ℕ) (rest : List Command) : Type 0 where
    pub parts : List (List Command)
    pub all : joined parts ++ rest ≡ commands
    pub made : AreAllMade replies number parts
    pub reached : sent ≡ number + length (joined parts)

  -- none yet
  pub none_made : (number : ℕ) (commands : List Command) → IsMadeUpTo number commands number commands
  none_made number commands = let e : number ≡ number + 0 = omega arith in record { parts = []; all = refl; made = tt; reached = e }

  -- and the next ones
  pub next_made : (number : ℕ) (commands : List Command) (sent after : ℕ) (rest part later : List Command) → IsMadeUpTo number commands sent rest → part ++ later ≡ rest → AreMade replies sent part → after ≡ sent + length part → IsMadeUpTo number commands after later
  next_made number commands sent after rest part later before split is reached =
      let joins : joined (before.parts ++ part ∷ []) ≡ joined before.parts ++ part = sym (flat_map_more (λ (p : List Command). p) [] before.parts part) in
      let long : length (joined (before.parts ++ part ∷ [])) ≡ length (joined before.parts) + length part = ap length joins ∙ length-append (joined before.parts) part in
      record {
        parts = before.parts ++ part ∷ [];
        all = ap (λ (cs : List Command). cs ++ later) joins ∙ append_assoc (joined before.parts) part later ∙ ap (λ (cs : List Command). joined before.parts ++ cs) split ∙ before.all;
        made = more_made number before.parts part before.made (subst (λ n. AreMade replies n part) before.reached is);
        reached = omega (arith, reached, before.reached, long);
      }

  -- all of them
  pub all_made : (number : ℕ) (commands : List Command) (sent : ℕ) (rest : List Command) → IsMadeUpTo number commands sent rest → rest ≡ [] → AreMadeInParts replies number commands
  all_made number commands sent rest up none = (up.parts, sym (append-nil (joined up.parts)) ∙ ap (λ (cs : List Command). joined up.parts ++ cs) (sym none) ∙ up.all, up.made)

  -- no command is made in no parts
  pub made_none : (number : ℕ) (commands : List Command) → commands ≡ [] → AreMadeInParts replies number commands
  made_none number commands none = ([], sym none, tt)
