-- A step that takes rules out takes the rows of `suppress` that refer to them, and nothing else.
use Rattle.std.proofs.Common.{◌≡◌, ◌≢◌, ◌⊎◌, inl, inr, ℕ, zero, suc, ℤ, Bool, true, false, cond, List, [], ◌∷◌, ◌++◌, length, Ok, refl, sym, ap, subst, ◌∙◌, arith}
use Rattle.std.specs.List.{AllByRecursion, list_any}
use Rattle.std.proofs.lemmas.List.{length-append}
use Rattle.sqlite.specs.Edit.{without_all}
use Rattle.sqlite.specs.Schema.{Schema}
use Rattle.sqlite.specs.Table.{Table}
use Rattle.sqlite.specs.Tree.{Trees}
use Rattle.sqlite_rules.specs.Action.{Work, AreChildren, ActsOn, Acts, Leads, Writes, action_edit, loses, pairs, works}
use Rattle.sqlite_rules.specs.Edit.{Applies, Edit, taken_by}
use Rattle.sqlite_rules.specs.declared.action.Deed.TheVariants.{Delete}
use Rattle.sqlite_schema.specs.declared.schema.Index.{Index}
use Rattle.sqlite_schema.specs.declared.schema.Keys.TheVariants.{Enforced}
use Rattle.sqlite_schema.specs.declared.schema.View.{View}
use Rattle.sqlite_tied.specs.Compute.{everything}
use Rattle.sqlite_value.specs.Order.{Row}
use Rattle.prt_rows.proofs.Foreign.{no_works, of_others, order}
use Rattle.prt_rows.specs.Others.{AreOthers}
use Rattle.prt_rows.specs.Tables.{rule_table, schema_with, suppress_table, to_rule}

-- the work that deleted rules set off
abbrev pub work_on : List Row → Work
work_on olds = record { depth = 0; child = suppress_table; ref = to_rule; places = 0 ∷ []; order = order; deed = Delete; moves = pairs olds [] }

abbrev pub is_due : List Row → Bool
is_due olds = list_any (loses order (0 ∷ [])) (pairs olds [])

abbrev pub deleting : List ℤ → Edit
deleting gone = record { table = rule_table; gone = gone; news = [] }

module _ (tables : List Table) (indexes : List Index) (views : List View) (others : AreOthers tables) where
  abbrev file : Schema
  file = schema_with tables indexes views

  works_of : (olds : List Row) → works file Enforced 0 0 olds [] ≡ cond (is_due olds) (work_on olds ∷ []) []
  unfolding everything
  works_of olds = go (is_due olds) refl
    where
      go : (due : Bool) → is_due olds ≡ due → works file Enforced 0 0 olds [] ≡ cond due (work_on olds ∷ []) []
      go true is = rw (is, of_others 0 tables indexes views others.rule others.elsewhere Enforced 0 olds []) refl
      go false is = rw (is, of_others 0 tables indexes views others.rule others.elsewhere Enforced 0 olds []) refl

  none_after : (depth : ℕ) (olds news : List Row) → works file Enforced depth 4 olds news ≡ []
  none_after = no_works 4 tables indexes views others.suppress others.elsewhere Enforced refl

  settled : (n : ℕ) (db next : Trees) → Leads file Enforced n db [] (Ok next) → db ≡ next
  settled zero db next h = let e = h.1 in cc
  settled (suc n) db next h = absurd (omega (arith, ap length h.2, length-append h.0 (h.1 ∷ [])))

  last_one : (w last : Work) (below : List Work) → w ∷ [] ≡ below ++ last ∷ [] → (below ≡ []) × (last ≡ w)
  last_one w last [] is = (refl, (let same : w ≡ last = cc in sym same))
  last_one w last (b ∷ below) is = absurd (omega (arith, ap length is, length-append below (last ∷ [])))

  -- the tables other than `suppress` keep their rows
  abbrev pub KeepsOthers : Trees → Trees → Type 0
  KeepsOthers mid next = AllByRecursion (λ (t : Table). t.tree ≢ 4 → next t.tree ≡ mid t.tree) file.tables

  every : (mid next : Trees) (all : List Table) → mid ≡ next → AllByRecursion (λ (t : Table). t.tree ≢ 4 → next t.tree ≡ mid t.tree) all
  every mid next [] same = tt
  every mid next (t ∷ all) same = (λ _. ap (λ (trees : Trees). trees t.tree) (sym same), every mid next all same)

  -- the rows that go are deleted, and then nothing waits
  acts : (n : ℕ) (mid next : Trees) (olds : List Row) (ids : List ℤ) → ActsOn file Enforced (Leads file Enforced n) mid (work_on olds) [] (Ok next) ids → (next 4 ≡ without_all (mid 4) ids) × KeepsOthers mid next
  acts n mid next olds [] done = let same = settled n mid next done in (ap (λ (t : Trees). t 4) (sym same), every mid next file.tables same)
  acts n mid next olds (id ∷ ids) (inl refused) = absurd (let e = refused.2 in cc)
  acts n mid next olds (id ∷ ids) (inr (inl big)) = absurd (let e = big.3 in cc)
  acts n mid next olds (id ∷ ids) (inr (inr went)) =
      let edit = action_edit mid (work_on olds) (id ∷ ids) in
      let rest = subst (λ stack. Leads file Enforced n went.0 ([] ++ stack) (Ok next)) (none_after 1 (taken_by mid edit) edit.news) went.2 in
      let same : went.0 ≡ next = settled n went.0 next rest in (
        ap (λ (t : Trees). t 4) (sym same) ∙ went.1.rows,
        subst (λ (t : Trees). KeepsOthers mid t) same went.1.tables,
      )

  -- What a step that takes rules out leaves: the rows of `suppress` that refer to them went with them.
  pub record Cascades (mid next : Trees) (olds : List Row) : Type 0 where
    pub ids : List ℤ
    pub children : AreChildren mid (work_on olds) ids ⊎ ((is_due olds ≡ false) × (ids ≡ []))
    pub gone : next 4 ≡ without_all (mid 4) ids
    pub kept : KeepsOthers mid next

  led : (mid next : Trees) (olds : List Row) (n : ℕ) → Leads file Enforced n mid (work_on olds ∷ []) (Ok next) → Cascades mid next olds
  led mid next olds zero h = absurd (let e = h.0 in cc)
  led mid next olds (suc n) h =
      let one = last_one (work_on olds) h.1 h.0 h.2 in
      let done = subst (λ (w : Work). Acts file Enforced (Leads file Enforced n) mid w [] (Ok next)) one.1 (subst (λ below. Acts file Enforced (Leads file Enforced n) mid h.1 below (Ok next)) one.0 h.3) in
      let went = acts n mid next olds done.0 done.2 in
      record { ids = done.0; children = inl done.1; gone = went.0; kept = went.1 }

  cascaded : (mid next : Trees) (olds : List Row) (due : Bool) → is_due olds ≡ due → (n : ℕ) → Leads file Enforced n mid (cond due (work_on olds ∷ []) []) (Ok next) → Cascades mid next olds
  cascaded mid next olds true is n h = led mid next olds n h
  cascaded mid next olds false is n h =
      let same = settled n mid next h in
      record { ids = []; children = inr (is, refl); gone = ap (λ (t : Trees). t 4) (sym same); kept = every mid next file.tables same }

  pub cascades : (db next : Trees) (gone : List ℤ) → Writes file Enforced db (deleting gone) (Ok next) → (mid : Trees) × Applies file Enforced db (deleting gone) mid × Cascades mid next (taken_by db (deleting gone))
  cascades db next gone (inl refused) = absurd (let e = refused.2 in cc)
  cascades db next gone (inr (inl big)) = absurd (let e = big.3 in cc)
  cascades db next gone (inr (inr went)) =
      let olds = taken_by db (deleting gone) in
      let led_to = subst (λ stack. Leads file Enforced went.2.0 went.0 ([] ++ stack) (Ok next)) (works_of olds) went.2.1 in
      (went.0, went.1, cascaded went.0 next olds (is_due olds) refl went.2.0 led_to)
