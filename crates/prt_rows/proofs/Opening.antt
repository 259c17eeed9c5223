-- The first rows of a file.
use Rattle.std.proofs.Common.{◌≡◌, inl, inr, List, [], ◌∷◌, sym, subst}
use Rattle.sqlite.specs.Effect.{Database}
use Rattle.sqlite.specs.Table.{Table}
use Rattle.sqlite_rules.specs.Lists.{Has}
use Rattle.sqlite_value.specs.Order.{Row}
use Rattle.prt_rule.specs.declared.rule.Rule.{Rule}
use Rattle.prt_rows.specs.Effects.{Adds, HasSame, IsKeyed}
use Rattle.prt_rows.specs.Kept.{kept_rule}
use Rattle.prt_rows.specs.Tables.{rule_table}
use Rattle.std.specs.List.{IsDistinct}

module _ (table : Table) (row : Row) (rows : List Row) (old new : Database) (adds : Adds table row old new) where
  -- a row that is put lies beside those that were there
  pub one_more_row : HasSame (old.trees table.tree) rows → HasSame (new.trees table.tree) (row ∷ rows)
  one_more_row same = record {
    sound = λ x there. elim (adds.sound x there) [ inl is ↦ inl is | inr was ↦ inr (same.sound x was) ];
    complete = λ x there. elim there [ inl is ↦ subst (Has (new.trees table.tree)) (sym is) adds.here | inr was ↦ adds.complete x (same.complete x was) ];
  }

-- a table without rows
pub none_there : (table : List Row) → table ≡ [] → HasSame table []
none_there table is = record { sound = λ x there. subst (λ l. Has l x) is there; complete = λ x there. absurd there }

pub keyed_empty : (table : List Row) → table ≡ [] → IsKeyed table
unfolding IsDistinct
keyed_empty table is = subst IsKeyed (sym is) (record { ints = λ x there. absurd there; once = tt })

-- three rules that are put into an empty table
module _ (first second third : Rule) (start one two three : Database) (a : Adds rule_table (kept_rule first) start one) (b : Adds rule_table (kept_rule second) one two) (c : Adds rule_table (kept_rule third) two three)
    (empty : start.trees 0 ≡ []) where
  pub three_rules : HasSame (three.trees 0) (kept_rule third ∷ kept_rule second ∷ kept_rule first ∷ [])
  three_rules = one_more_row rule_table (kept_rule third) _ two three c (one_more_row rule_table (kept_rule second) _ one two b (one_more_row rule_table (kept_rule first) [] start one a (none_there (start.trees 0) empty)))

  pub three_keyed : IsKeyed (three.trees 0)
  three_keyed = c.keyed (b.keyed (a.keyed (keyed_empty (start.trees 0) empty)))
