-- Which actions a change of rows of ours sets off: the deletion of rules takes lengths along, and nothing else does.
use Rattle.std.proofs.Common.{◌≡◌, ℕ, false, List, [], ◌∷◌, length, flat_map, Option, Some, None, inl, inr, refl, sym, ap, ◌∙◌}
use Rattle.std.specs.Prelude.{◌==◌, find, option_and_then, option_map}
use Rattle.std.specs.List.{filter_map}
use Rattle.sqlite.specs.Schema.{Schema}
use Rattle.sqlite.specs.Table.{Table}
use Rattle.sqlite_value.specs.Order.{Row}
use Rattle.sqlite_value.specs.declared.keys.Order.{Order}
use Rattle.sqlite_schema.specs.Names.{same_name}
use Rattle.sqlite_schema.specs.Rules.{ParentKey, parent_key, key_in, key_places, declared_order}
use Rattle.sqlite_schema.specs.declared.schema.Index.{Index}
use Rattle.sqlite_schema.specs.declared.schema.Keys.{Keys}
use Rattle.sqlite_schema.specs.declared.schema.Reference.{Reference}
use Rattle.sqlite_schema.specs.declared.schema.View.{View}
use Rattle.sqlite_rules.specs.Action.{works, work_for, work_by, deed_for, pairs}
use Rattle.sqlite_rules.specs.Lists.{Has}
use Rattle.sqlite_rules.specs.declared.action.Deed.{Deed}
use Rattle.sqlite_rules.proofs.ListLemmas.{has_found}
use Rattle.sqlite_tied.specs.Compute.{everything}
use Rattle.prt_rows.specs.Others.{IsElsewhere}
use Rattle.prt_rows.specs.Tables.{schema_with, suppress_table, to_rule}

-- the ids of rules are in the default order
abbrev pub order : Order
order = record { digits = 0 }

-- the reference of `suppress` points to them
abbrev pub rule_key : ParentKey
rule_key = (0, 0 ∷ [], order)

module _ (tree : ℕ) where
  key_of_table : (table : Table) (places : Option (List ℕ)) (key : ParentKey) → (table.tree == tree) ≡ false → option_and_then (key_in table) places ≡ Some key → (key.0 == tree) ≡ false
  key_of_table table None key apart is = absurd (cc)
  key_of_table table (Some places) key apart is = go (declared_order table places) is
    where
      go : (order : Option Order) → option_map (λ order. (table.tree, places, order)) order ≡ Some key → (key.0 == tree) ≡ false
      go None is = absurd (cc)
      go (Some order) is = let same : (table.tree, places, order) ≡ key = cc in ap (λ (k : ParentKey). k.0 == tree) (sym same) ∙ apart

  no_work : (depth : ℕ) (moves : List (Row × Row)) (child : Table) (reference : Reference) (deed : Option Deed) (key : Option ParentKey) → ((k : ParentKey) → key ≡ Some k → (k.0 == tree) ≡ false)
      → work_by depth tree moves child reference deed key ≡ None
  no_work depth moves child reference None key apart = refl
  no_work depth moves child reference (Some deed) None apart = refl
  no_work depth moves child reference (Some deed) (Some k) apart = rw (apart k refl) refl

module _ (tree : ℕ) (tables : List Table) (indexes : List Index) (views : List View) (apart : (table : Table) → Has tables table → (table.tree == tree) ≡ false)
    (elsewhere : (table : Table) → Has tables table → (reference : Reference) → Has table.references reference → IsElsewhere reference) (keys : Keys) where
  abbrev schema : Schema
  schema = schema_with tables indexes views

  key_apart : (reference : Reference) (k : ParentKey) → IsElsewhere reference → parent_key schema.tables reference ≡ Some k → (k.0 == tree) ≡ false
  key_apart reference k none is = go (find (λ (t : Table). same_name t.name reference.parent) tables) refl (rw (none.rule, none.route, none.meta, none.suppress) at is)
    where
      go : (found : Option Table) → find (λ (t : Table). same_name t.name reference.parent) tables ≡ found → option_and_then (λ t. option_and_then (key_in t) (key_places t reference.parent_columns)) found ≡ Some k
          → (k.0 == tree) ≡ false
      go None found is = absurd (cc)
      go (Some t) found is = key_of_table tree t (key_places t reference.parent_columns) k (apart t (has_found _ tables t found).0) is

  of_child : (depth : ℕ) (olds news : List Row) (child : Table) (references : List Reference) → ((reference : Reference) → Has references reference → IsElsewhere reference)
      → filter_map (work_for schema keys depth tree olds news child) references ≡ []
  of_child depth olds news child [] none = refl
  of_child depth olds news child (reference ∷ references) none =
      rw (no_work tree depth (pairs olds news) child reference (deed_for keys (length news == 0) reference) (parent_key schema.tables reference) (λ k is. key_apart reference k (none reference (inl refl)) is))
      (of_child depth olds news child references (λ r there. none r (inr there)))

  of_all : (depth : ℕ) (olds news : List Row) (all : List Table) → ((table : Table) → Has all table → (reference : Reference) → Has table.references reference → IsElsewhere reference)
      → flat_map (λ child. filter_map (work_for schema keys depth tree olds news child) child.references) all ≡ []
  of_all depth olds news [] none = refl
  of_all depth olds news (table ∷ all) none = rw (of_child depth olds news table table.references (none table (inl refl))) (of_all depth olds news all (λ t there. none t (inr there)))

  pub of_others : (depth : ℕ) (olds news : List Row) → flat_map (λ child. filter_map (work_for schema keys depth tree olds news child) child.references) tables ≡ []
  of_others depth olds news = of_all depth olds news tables elsewhere

  -- a change of another table than that of rules
  pub no_works : (0 == tree) ≡ false → (depth : ℕ) (olds news : List Row) → works schema keys depth tree olds news ≡ []
  unfolding everything
  no_works not_rules depth olds news =
      rw (
        no_work tree depth (pairs olds news) suppress_table to_rule (deed_for keys (length news == 0) to_rule) (Some rule_key) (λ k is. (let same : rule_key ≡ k = cc in ap (λ (j : ParentKey). j.0 == tree) (sym same) ∙ not_rules)),
        of_others depth olds news,
      ) refl

module _ (tables : List Table) (indexes : List Index) (views : List View) (apart : (table : Table) → Has tables table → (table.tree == 0) ≡ false)
    (elsewhere : (table : Table) → Has tables table → (reference : Reference) → Has table.references reference → IsElsewhere reference) (keys : Keys) where
  nothing_lost : (news : List Row) (deed : Option Deed) → work_by 0 0 (pairs [] news) suppress_table to_rule deed (Some rule_key) ≡ None
  nothing_lost news None = refl
  nothing_lost news (Some deed) = refl

  -- rules that are put beside others
  pub no_works_of_new : (news : List Row) → works (schema_with tables indexes views) keys 0 0 [] news ≡ []
  unfolding everything
  no_works_of_new news = rw (nothing_lost news (deed_for keys (length news == 0) to_rule), of_others 0 tables indexes views apart elsewhere keys 0 [] news) refl
