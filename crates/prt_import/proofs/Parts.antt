-- The parts of a script, line by line.
use Rattle.std.proofs.Common.{◌≡◌, ℕ, ◌+◌, ◌≤◌, ◌<◌, Bool, true, false, List, [], ◌∷◌, refl, sym, ap, subst, ◌∙◌, append_assoc, length, arith}
use Rattle.std.proofs.lemmas.List.{append-nil}
use Rattle.std.specs.Prelude.{◌||◌}
use Rattle.prt_command.specs.Reading.{words}
use Rattle.prt_import.specs.Draft.{Takes, parts_in}
use Rattle.prt_import.specs.Imported.{IsImported}
use Rattle.prt_import.specs.Lines.{lines_of}
use Rattle.prt_import.specs.NewLines.{continuation}
use Rattle.prt_import.specs.Script.{Parts, ◌and◌, has_rules, is_route, is_rule, line_part, no_parts, parts_of}
use Rattle.prt_import.specs.TableNames.{KnownNames}
use Rattle.prt_import.specs.Told.{Remark}
use Rattle.prt_import.specs.declared.draft.Draft.{Draft}
use Rattle.prt_import.specs.declared.imported.Imported.{Imported}

-- ---- parts after parts

abbrev parts : List ℕ → List ℕ → List ℕ → List Remark → List Remark → Parts
parts rules direct through left notes = record { rules = rules; direct = direct; through = through; left = left; notes = notes }

same_parts : (a b c a' b' c' : List ℕ) (l l' n n' : List Remark) → a ≡ a' → b ≡ b' → c ≡ c' → l ≡ l' → n ≡ n' → parts a b c l n ≡ parts a' b' c' l' n'
same_parts a b c a' b' c' l l' n n' p q r s t = cc

pub and_assoc : (p q r : Parts) → p and (q and r) ≡ (p and q) and r
and_assoc p q r = same_parts _ _ _ _ _ _ _ _ _ _ (sym (append_assoc p.rules q.rules r.rules)) (sym (append_assoc p.direct q.direct r.direct)) (sym (append_assoc p.through q.through r.through)) (sym (append_assoc p.left q.left r.left)) (sym (append_assoc p.notes q.notes r.notes))

pub and_none : (p : Parts) → p and no_parts ≡ p
and_none p = same_parts _ _ _ _ _ _ _ _ _ _ (append-nil p.rules) (append-nil p.direct) (append-nil p.through) (append-nil p.left) (append-nil p.notes)

-- ---- drafts

or_assoc : (a b c : Bool) → (a || (b || c)) ≡ ((a || b) || c)
or_assoc true b c = refl
or_assoc false b c = refl

or_false : (a : Bool) → (a || false) ≡ a
or_false true = refl
or_false false = refl

-- The lines of a text up to this number were taken, and these are left.
pub record SoFar (draft : Draft) (names : KnownNames) (number : ℕ) (text rest : List ℕ) : Type 0 where
  pub count : number + length rest ≤ length text
  pub same : parts_of names false 1 (lines_of text) ≡ parts_in draft and parts_of names draft.is_in_route (number + 1) (lines_of rest)
  pub any : has_rules (lines_of text) ≡ draft.has_rules || has_rules (lines_of rest)

pub begins : (draft : Draft) (names : KnownNames) (text : List ℕ) → parts_in draft ≡ no_parts → draft.has_rules ≡ false → draft.is_in_route ≡ false → SoFar draft names 0 text text
begins draft names text parts any in_route = record {
  count = omega arith;
  same = sym (ap (λ p. p and parts_of names draft.is_in_route 1 (lines_of text)) parts ∙ ap (λ b. parts_of names b 1 (lines_of text)) in_route);
  any = sym (ap (λ b. b || has_rules (lines_of text)) any);
}

-- one line more
pub goes_on : (old new : Draft) (names : KnownNames) (number : ℕ) (text rest line after : List ℕ) → SoFar old names number text rest → (lines_of rest ≡ line ∷ lines_of after) → length after < length rest → Takes old new names (record { number = number + 1; content = line }) (words line) (continuation (lines_of after)) → SoFar new names (number + 1) text after
goes_on old new names number text rest line after so_far cut shorter takes = record {
  count = (let within = so_far.count in omega (arith, within, shorter));
  same =
      so_far.same
      ∙ ap (λ ls. parts_in old and parts_of names old.is_in_route (number + 1) ls) cut
      ∙ and_assoc (parts_in old) (line_part names old.is_in_route (record { number = number + 1; content = line }) (words line) (continuation (lines_of after))) (parts_of names (is_route (words line)) (number + 1 + 1) (lines_of after))
      ∙ ap (λ p. p and parts_of names (is_route (words line)) (number + 1 + 1) (lines_of after)) (sym takes.added)
      ∙ ap (λ b. parts_in new and parts_of names b (number + 1 + 1) (lines_of after)) (sym takes.in_route);
  any =
      so_far.any
      ∙ ap (λ ls. old.has_rules || has_rules ls) cut
      ∙ or_assoc old.has_rules (is_rule (words line)) (has_rules (lines_of after))
      ∙ ap (λ b. b || has_rules (lines_of after)) (sym takes.any);
}

-- no line is left
pub ends : (draft : Draft) (names : KnownNames) (number : ℕ) (text rest : List ℕ) (imported : Imported) → SoFar draft names number text rest → rest ≡ [] → IsImported imported draft.has_rules (parts_in draft) → IsImported imported (has_rules (lines_of text)) (parts_of names false 1 (lines_of text))
ends draft names number text rest imported so_far none made =
    let parts : parts_of names false 1 (lines_of text) ≡ parts_in draft = so_far.same ∙ ap (λ t. parts_in draft and parts_of names draft.is_in_route (number + 1) (lines_of t)) none ∙ and_none (parts_in draft) in
    let any : has_rules (lines_of text) ≡ draft.has_rules = so_far.any ∙ ap (λ t. draft.has_rules || has_rules (lines_of t)) none ∙ or_false draft.has_rules in
    let P : Bool → Type 0 = λ b. IsImported imported b (parts_of names false 1 (lines_of text)) in
    let Q : Parts → Type 0 = λ p. IsImported imported draft.has_rules p in
    subst P (sym any) (subst Q (sym parts) made)
