-- The rows of `suppress` that go are those of the rules that go.
use Rattle.std.proofs.Common.{◌≡◌, inl, inr, ℤ, Bool, true, false, not, ◌&&◌, List, [], ◌∷◌, refl, sym, ap, ◌∙◌}
use Rattle.std.proofs.lemmas.Bool.{and_from, and_parts, not-true}
use Rattle.sqlite.specs.Tree.{Trees, rowid}
use Rattle.sqlite.specs.declared.types.Value.TheVariants.{Int}
use Rattle.sqlite_rules.proofs.ActionLemmas.{no_heir}
use Rattle.sqlite_rules.proofs.ListLemmas.{some_from, some_has}
use Rattle.sqlite_rules.specs.Action.{AreChildren, is_child_of, loses, pairs}
use Rattle.sqlite_rules.specs.Lists.{Has}
use Rattle.sqlite_schema.specs.Rules.{agree}
use Rattle.sqlite_value.specs.Keys.{first_key}
use Rattle.sqlite_value.specs.Order.{Row}
use Rattle.prt_rows.proofs.Cascade.{is_due, work_on}
use Rattle.prt_rows.proofs.Foreign.{order}
use Rattle.prt_rows.proofs.RouteKeys.{eq_ints}
use Rattle.prt_rows.specs.Effects.{has_same_rowid}

-- the rowids of the two rows are equal, as SQL has it
abbrev pub same_id : Row → Row → Bool
same_id row old = agree order (0 ∷ []) row (0 ∷ []) old

and_end : (b : Bool) → (b && true) ≡ b
and_end true = refl
and_end false = refl

-- which is so of integers that are one
pub id_test : (a b : Row) (m n : ℤ) → rowid a ≡ Int m → rowid b ≡ Int n → same_id a b ≡ has_same_rowid a b
unfolding first_key
id_test a b m n p q = rw (p, q) (and_end _ ∙ eq_ints m n)

paired : (olds : List Row) (move : Row × Row) → Has (pairs olds []) move → Has olds move.0
paired [] move there = there
paired (o ∷ olds) move (inl is) = inl (ap (λ (m : Row × Row). m.0) is)
paired (o ∷ olds) move (inr later) = inr (paired olds move later)

pair_of : (olds : List Row) (old : Row) → Has olds old → Has (pairs olds []) (old, [])
pair_of [] old among = among
pair_of (o ∷ olds) old (inl is) = inl (ap (λ (r : Row). (r, [])) is)
pair_of (o ∷ olds) old (inr later) = inr (pair_of olds old later)

-- no row of no columns has its rowid
lost : (old : Row) → same_id old old ≡ true → loses order (0 ∷ []) (old, []) ≡ true
lost old itself = and_from _ _ itself (ap not (never old))
  where
    never : (old : Row) → agree order (0 ∷ []) old (0 ∷ []) [] ≡ false
    never old = not-true _ (sym (no_heir order (0 ∷ []) old))

-- if a row with an id went, there is work
pub due_with : (olds : List Row) (old : Row) → Has olds old → same_id old old ≡ true → is_due olds ≡ true
due_with olds old among itself = some_from (loses order (0 ∷ [])) (pairs olds []) (old, []) (pair_of olds old among) (lost old itself)

-- each row whose rowid went is the row of a rule that went
pub child_of_gone : (mid : Trees) (olds : List Row) (ids : List ℤ) → AreChildren mid (work_on olds) ids → (id : ℤ) → Has ids id → (row : Row) × Has (mid 4) row × (rowid row ≡ Int id) × (old : Row) × Has olds old × (same_id row old ≡ true)
child_of_gone mid olds ids children id there =
    let c = children.sound id there in
    let m = some_has (is_child_of (work_on olds) c.0) (pairs olds []) c.2 in
    (c.0, c.1, c.3, m.0.0, paired olds m.0 m.1, (and_parts _ _ m.2).1)

-- and each row of a rule that went is among them
pub gone_with : (mid : Trees) (olds : List Row) (ids : List ℤ) → AreChildren mid (work_on olds) ids → (row old : Row) (id : ℤ) → Has (mid 4) row → rowid row ≡ Int id → Has olds old → same_id row old ≡ true → same_id old old ≡ true → Has ids id
gone_with mid olds ids children row old id there is among same itself =
    children.complete row id there (some_from (is_child_of (work_on olds) row) (pairs olds []) (old, []) (pair_of olds old among) (and_from _ _ (lost old itself) same)) is
