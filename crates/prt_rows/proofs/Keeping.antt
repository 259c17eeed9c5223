-- Tables that are made keep those that were there, and whether a table is there already.
use Rattle.std.proofs.Common.{◌≡◌, ◌⊎◌, inl, inr, ℕ, true, false, List, [], refl, sym, ap, subst, ◌∙◌, true≢false}
use Rattle.std.specs.Prelude.{codes}
use Rattle.sqlite.specs.Effect.{Database}
use Rattle.sqlite.specs.Schema.{Schema}
use Rattle.sqlite.specs.Table.{Table}
use Rattle.sqlite_rules.proofs.ListLemmas.{all_has}
use Rattle.sqlite_rules.specs.Lists.{Has}
use Rattle.sqlite_schema.specs.declared.schema.Index.{Index}
use Rattle.sqlite_schema.specs.declared.schema.View.{View}
use Rattle.sqlite_tied.specs.Compute.{everything}
use Rattle.prt_rows.specs.Effects.{AreEmpty, KeepsTables, Makes}
use Rattle.prt_rows.specs.Format.{BeginsFormat2, BeginsWithMeta, BeginsWithRoutes, BeginsWithRules, IsFormat2, has_table}
use Rattle.prt_rows.specs.Tables.{format_1_alone, meta_table, no_tables, our_tables, route_table, rule_alone, rule_and_route, rule_table, schema_with, suppress_table}

pub keeps_itself : (db : Database) → KeepsTables db db
keeps_itself db = record { kept = λ table there. (there, refl); made = λ table there. inl there }

pub keeps_then : (old mid new : Database) → KeepsTables old mid → KeepsTables mid new → KeepsTables old new
keeps_then old mid new one two = record {
  kept = λ table there.
      let first = one.kept table there in
      let second = two.kept table first.0 in
      (second.0, second.1 ∙ first.1);
  made = λ table there. elim (two.made table there) [
    | inl before ↦ elim (one.made table before) [
      | inl was ↦ inl was
      | inr one_of_ours ↦ inr (one_of_ours.0, (two.kept table before).1 ∙ one_of_ours.1)
    ]
    | inr none ↦ inr none
  ];
}

-- tables that keep their rows are empty if they were
pub empty_before : (old new : Database) → KeepsTables old new → AreEmpty new → AreEmpty old
empty_before old new keeps empty table ours there = let now = keeps.kept table there in sym now.1 ∙ empty table ours now.0

pub empty_after : (old new : Database) → KeepsTables old new → AreEmpty old → AreEmpty new
empty_after old new keeps empty table ours there = elim (keeps.made table there) [
  | inl was ↦ (keeps.kept table was).1 ∙ empty table ours was
  | inr one_of_ours ↦ one_of_ours.1
]

-- ---- a table that is made

module _ (from after : Schema) (made : Table) (ours : Has our_tables made) (up : (table : Table) → Has from.tables table → Has after.tables table) (down : (table : Table) → Has after.tables table → Has from.tables table ⊎ (table ≡ made)) where
  keeps_made : (old new : Database) → old.schema ≡ from → Makes after made.tree old new → KeepsTables old new
  keeps_made old new has makes = record {
    kept = λ table there. (
      subst (λ (s : Schema). Has s.tables table) (sym makes.schema) (up table (subst (λ (s : Schema). Has s.tables table) has there)),
      all_has (λ (t : Table). new.trees t.tree ≡ old.trees t.tree) old.schema.tables table makes.kept there,
    );
    made = λ table there. elim (down table (subst (λ (s : Schema). Has s.tables table) makes.schema there)) [
      | inl was ↦ inl (subst (λ (s : Schema). Has s.tables table) (sym has) was)
      | inr is ↦ inr (subst (Has our_tables) (sym is) ours, subst (λ (t : Table). new.trees t.tree ≡ []) (sym is) makes.empty)
    ];
  }

module _ (old new : Database) where
  pub keeps_none : old.schema ≡ no_tables → Makes rule_alone 0 old new → KeepsTables old new
  keeps_none = keeps_made no_tables rule_alone rule_table (inl refl) (λ table there. absurd there) (λ table there. elim there [ inl is ↦ inr is | inr none ↦ absurd none ]) old new

  pub keeps_rules : old.schema ≡ rule_alone → Makes rule_and_route 1 old new → KeepsTables old new
  keeps_rules = keeps_made rule_alone rule_and_route route_table (inr (inl refl)) (λ table there. elim there [ inl is ↦ inl is | inr none ↦ absurd none ]) (λ table there. elim there [
    | inl is ↦ inl (inl is)
    | inr more ↦ elim more [ inl is ↦ inr is | inr none ↦ absurd none ]
  ]) old new

  pub keeps_rules_and_routes : old.schema ≡ rule_and_route → Makes format_1_alone 3 old new → KeepsTables old new
  keeps_rules_and_routes = keeps_made rule_and_route format_1_alone meta_table (inr (inr (inl refl))) (λ table there. elim there [
    | inl is ↦ inl is
    | inr more ↦ elim more [ inl is ↦ inr (inl is) | inr none ↦ absurd none ]
  ]) (λ table there. elim there [
    | inl is ↦ inl (inl is)
    | inr more ↦ elim more [
      | inl is ↦ inl (inr (inl is))
      | inr last ↦ elim last [ inl is ↦ inr is | inr none ↦ absurd none ]
    ]
  ]) old new

  pub keeps_format_1 : old.schema ≡ format_1_alone → Makes (schema_with [] [] []) 4 old new → KeepsTables old new
  keeps_format_1 = keeps_made format_1_alone (schema_with [] [] []) suppress_table (inr (inr (inr (inl refl)))) (λ table there. elim there [
    | inl is ↦ inl is
    | inr more ↦ elim more [
      | inl is ↦ inr (inl is)
      | inr last ↦ elim last [ inl is ↦ inr (inr (inl is)) | inr none ↦ absurd none ]
    ]
  ]) (λ table there. elim there [
    | inl is ↦ inl (inl is)
    | inr more ↦ elim more [
      | inl is ↦ inl (inr (inl is))
      | inr rest ↦ elim rest [
        | inl is ↦ inl (inr (inr (inl is)))
        | inr last ↦ elim last [ inl is ↦ inr is | inr none ↦ absurd none ]
      ]
    ]
  ]) old new

pub format_made : (schema : Schema) → schema ≡ schema_with [] [] [] → IsFormat2 schema
format_made schema is = record {
  tables = [];
  indexes = [];
  views = [];
  is = is;
  others = record { rule = λ table none. absurd none; route = λ table none. absurd none; meta = λ table none. absurd none; suppress = λ table none. absurd none; elsewhere = λ table none. absurd none };
  free = λ index none. absurd none;
}

-- ---- whether a table is there

rule_is_alone : has_table (codes "rule") rule_alone ≡ true
unfolding everything
rule_is_alone = refl

rule_is_with_route : has_table (codes "rule") rule_and_route ≡ true
unfolding everything
rule_is_with_route = refl

no_route_alone : has_table (codes "route") rule_alone ≡ false
unfolding everything
no_route_alone = refl

route_is_with_rule : has_table (codes "route") rule_and_route ≡ true
unfolding everything
route_is_with_rule = refl

no_meta_yet : has_table (codes "meta") rule_and_route ≡ false
unfolding everything
no_meta_yet = refl

rule_is_in_format_1 : has_table (codes "rule") format_1_alone ≡ true
unfolding everything
rule_is_in_format_1 = refl

route_is_in_format_1 : has_table (codes "route") format_1_alone ≡ true
unfolding everything
route_is_in_format_1 = refl

meta_is_in_format_1 : has_table (codes "meta") format_1_alone ≡ true
unfolding everything
meta_is_in_format_1 = refl

no_lengths_in_format_1 : has_table (codes "suppress") format_1_alone ≡ false
unfolding everything
no_lengths_in_format_1 = refl

module _ (tables : List Table) (indexes : List Index) (views : List View) where
  rule_is_first : has_table (codes "rule") (schema_with tables indexes views) ≡ true
  unfolding everything
  rule_is_first = refl

  route_is_second : has_table (codes "route") (schema_with tables indexes views) ≡ true
  unfolding everything
  route_is_second = refl

  meta_is_third : has_table (codes "meta") (schema_with tables indexes views) ≡ true
  unfolding everything
  meta_is_third = refl

  suppress_is_fourth : has_table (codes "suppress") (schema_with tables indexes views) ≡ true
  unfolding everything
  suppress_is_fourth = refl

module _ (schema : Schema) where
  none_of : (name : List ℕ) (other : Schema) → schema ≡ other → has_table name other ≡ false → has_table name schema ≡ true → ⊥
  none_of name other is none there = true≢false (sym there ∙ ap (has_table name) is ∙ none)

  one_of : (name : List ℕ) (other : Schema) → schema ≡ other → has_table name other ≡ true → has_table name schema ≡ false → ⊥
  one_of name other is there none = true≢false (sym there ∙ ap (has_table name) (sym is) ∙ none)

  pub rules_there : BeginsFormat2 schema → has_table (codes "rule") schema ≡ true → BeginsWithRules schema
  rules_there (inl is) there = absurd (none_of (codes "rule") no_tables is refl there)
  rules_there (inr more) there = more

  pub rules_missing : BeginsFormat2 schema → has_table (codes "rule") schema ≡ false → schema ≡ no_tables
  rules_missing (inl is) none = is
  rules_missing (inr (inl is)) none = absurd (one_of (codes "rule") rule_alone is rule_is_alone none)
  rules_missing (inr (inr (inl is))) none = absurd (one_of (codes "rule") rule_and_route is rule_is_with_route none)
  rules_missing (inr (inr (inr (inl is)))) none = absurd (one_of (codes "rule") format_1_alone is rule_is_in_format_1 none)
  rules_missing (inr (inr (inr (inr t)))) none = absurd (one_of (codes "rule") (schema_with t.tables t.indexes t.views) t.is (rule_is_first t.tables t.indexes t.views) none)

  pub routes_there : BeginsWithRules schema → has_table (codes "route") schema ≡ true → BeginsWithRoutes schema
  routes_there (inl is) there = absurd (none_of (codes "route") rule_alone is no_route_alone there)
  routes_there (inr more) there = more

  pub routes_missing : BeginsWithRules schema → has_table (codes "route") schema ≡ false → schema ≡ rule_alone
  routes_missing (inl is) none = is
  routes_missing (inr (inl is)) none = absurd (one_of (codes "route") rule_and_route is route_is_with_rule none)
  routes_missing (inr (inr (inl is))) none = absurd (one_of (codes "route") format_1_alone is route_is_in_format_1 none)
  routes_missing (inr (inr (inr t))) none = absurd (one_of (codes "route") (schema_with t.tables t.indexes t.views) t.is (route_is_second t.tables t.indexes t.views) none)

  pub meta_there : BeginsWithRoutes schema → has_table (codes "meta") schema ≡ true → BeginsWithMeta schema
  meta_there (inl is) there = absurd (none_of (codes "meta") rule_and_route is no_meta_yet there)
  meta_there (inr more) there = more

  pub meta_missing : BeginsWithRoutes schema → has_table (codes "meta") schema ≡ false → schema ≡ rule_and_route
  meta_missing (inl is) none = is
  meta_missing (inr (inl is)) none = absurd (one_of (codes "meta") format_1_alone is meta_is_in_format_1 none)
  meta_missing (inr (inr t)) none = absurd (one_of (codes "meta") (schema_with t.tables t.indexes t.views) t.is (meta_is_third t.tables t.indexes t.views) none)

  pub suppress_there : BeginsWithMeta schema → has_table (codes "suppress") schema ≡ true → IsFormat2 schema
  suppress_there (inl is) there = absurd (none_of (codes "suppress") format_1_alone is no_lengths_in_format_1 there)
  suppress_there (inr all) there = all

  pub suppress_missing : BeginsWithMeta schema → has_table (codes "suppress") schema ≡ false → schema ≡ format_1_alone
  suppress_missing (inl is) none = is
  suppress_missing (inr t) none = absurd (one_of (codes "suppress") (schema_with t.tables t.indexes t.views) t.is (suppress_is_fourth t.tables t.indexes t.views) none)
