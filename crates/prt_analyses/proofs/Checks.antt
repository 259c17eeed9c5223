-- The claims of a text, checked line by line.
use Rattle.std.proofs.Common.{◌≡◌, inl, inr, OnOk, ℕ, ◌+◌, ◌≤◌, ◌<◌, List, [], ◌∷◌, ◌++◌, Option, Some, None, Result, Ok, Err, refl, sym, ap, subst, ◌∙◌, append_assoc, append-nil, length, arith}
use Rattle.std.specs.Prelude.{IfErr}
use Rattle.prt_import.specs.Lines.{lines_of}
use Rattle.prt_partition.specs.Boxes.{IsUndivided}
use Rattle.prt_partition.proofs.Starts.{IsIn, in_contains}
use Rattle.prt_refusals.specs.declared.refusal.Refusal.{Refusal}
use Rattle.prt_version.specs.State.{State}
use Rattle.prt_analyses.specs.Claims.Checking.{AreFound, Extends, ExtendsBy, IsChecked, IsFoundAt, IsTooDivided, IsUnchecked, IsUncheckedLine, bad_line, bad_lines}
use Rattle.prt_analyses.specs.Claims.{rules_of}
use Rattle.prt_analyses.specs.Claims.Reading.{reading, stated}
use Rattle.prt_analyses.specs.declared.claims.checking.Breach.{Breach}
use Rattle.prt_analyses.specs.declared.claims.checking.Checked.{Checked}
use Rattle.prt_analyses.specs.declared.claims.claim.Claim.{Claim}

-- a line that has a claim
pub of_claim : {T E : Type 0} (result : Result T E) (state : State) (number : ℕ) (line : List ℕ) (claim : Claim) (old new : Checked) → reading line ≡ Ok (Some (stated claim)) → OnOk result (ExtendsBy state number claim old new) → OnOk result (Extends state number line old new)
of_claim (Ok x) state number line claim old new read e = record {
  found = e.found;
  is = subst (λ r. IsFoundAt state number r e.found) (sym read) (claim, refl, e.is);
  bad = e.bad ∙ sym (append-nil old.bad.items) ∙ ap (λ r. old.bad.items ++ bad_line number r) (sym read);
  breaches = e.breaches;
}
of_claim (Err x) state number line claim old new read e = tt

-- why the claim of a line isn't checked
pub of_reason : {T : Type 0} (result : Result T Refusal) (state : State) (line : List ℕ) (claim : Claim) → reading line ≡ Ok (Some (stated claim)) → IfErr result (IsUndivided (state.rules ++ rules_of claim.selector)) → IfErr result (IsUncheckedLine state line)
of_reason (Ok x) state line claim read e = tt
of_reason (Err reason) state line claim read e = inr (subst (λ r. IsTooDivided state r reason) (sym read) (claim, refl, e))

-- The lines of a text up to this number were checked, and these are left.
pub record SoFar (state : State) (checked : Checked) (number : ℕ) (text rest : List ℕ) : Type 0 where
  pub count : number + length rest ≤ length text
  pub lines : (line : List ℕ) → IsIn line (lines_of rest) → IsIn line (lines_of text)
  pub bad : bad_lines 1 (lines_of text) ≡ checked.bad.items ++ bad_lines (number + 1) (lines_of rest)
  pub found : (others : List Breach) → AreFound state (number + 1) (lines_of rest) others → AreFound state 1 (lines_of text) (checked.breaches.items ++ others)

pub begins : (state : State) (checked : Checked) (text : List ℕ) → checked.bad.items ≡ [] → checked.breaches.items ≡ [] → SoFar state checked 0 text text
begins state checked text bad breaches = record {
  count = omega arith;
  lines = λ line within. within;
  bad = sym (ap (λ xs. xs ++ bad_lines 1 (lines_of text)) bad);
  found = λ others are. subst (λ xs. AreFound state 1 (lines_of text) (xs ++ others)) (sym breaches) are;
}

pub goes_on : (state : State) (old new : Checked) (number : ℕ) (text rest line after : List ℕ) → SoFar state old number text rest → lines_of rest ≡ line ∷ lines_of after → length after < length rest → Extends state (number + 1) line old new → SoFar state new (number + 1) text after
goes_on state old new number text rest line after so_far cut shorter e = record {
  count = (let within = so_far.count in omega (arith, within, shorter));
  lines = λ l within. so_far.lines l (subst (IsIn l) (sym cut) (inr within));
  bad =
      so_far.bad
      ∙ ap (λ ls. old.bad.items ++ bad_lines (number + 1) ls) cut
      ∙ sym (append_assoc old.bad.items (bad_line (number + 1) (reading line)) (bad_lines (number + 1 + 1) (lines_of after)))
      ∙ ap (λ xs. xs ++ bad_lines (number + 1 + 1) (lines_of after)) (sym e.bad);
  found = λ others are.
      subst (λ xs. AreFound state 1 (lines_of text) xs)
      (sym (append_assoc old.breaches.items e.found others) ∙ ap (λ xs. xs ++ others) (sym e.breaches))
      (so_far.found (e.found ++ others) (subst (λ ls. AreFound state (number + 1) ls (e.found ++ others)) (sym cut) (e.found, others, e.is, are, refl)));
}

pub ends : (state : State) (checked : Checked) (number : ℕ) (text rest : List ℕ) → SoFar state checked number text rest → rest ≡ [] → IsChecked state text checked
ends state checked number text rest so_far none = record {
  bad = sym (append-nil checked.bad.items) ∙ ap (λ t. checked.bad.items ++ bad_lines (number + 1) (lines_of t)) (sym none) ∙ sym so_far.bad;
  breaches =
      subst (λ xs. AreFound state 1 (lines_of text) xs) (append-nil checked.breaches.items)
      (so_far.found [] (subst (λ t. AreFound state (number + 1) (lines_of t) []) (sym none) refl));
}

-- the first of the lines that are left isn't checked
pub stops : (state : State) (checked : Checked) (number : ℕ) (text rest line after : List ℕ) (reason : Refusal) → SoFar state checked number text rest → lines_of rest ≡ line ∷ lines_of after → IsUncheckedLine state line reason → IsUnchecked state text reason
stops state checked number text rest line after reason so_far cut (inl is) = inl is
stops state checked number text rest line after reason so_far cut (inr is) =
    inr (line, in_contains line (lines_of text) (so_far.lines line (subst (IsIn line) (sym cut) (inl refl))), is)
