-- What the statement of each change leaves.
use Rattle.std.proofs.Common.{◌≡◌, ◌⊎◌, inl, inr, ℕ, Bool, true, false, not, List, [], ◌∷◌, Option, Some, None, Ok, drop, filter, map, IsPermutation, ◌==◌, refl, sym, ap, subst, ◌∙◌}
use Rattle.std.proofs.lemmas.Bool.{eq-eqb, eqb-false, eqb-true, not-false}
use Rattle.std.proofs.lemmas.List.Sorted.{IsPermutation-sym}
use Rattle.std.specs.List.{IsDistinct}
use Rattle.sqlite.specs.Effect.{Database}
use Rattle.sqlite.specs.Held.{Held, state}
use Rattle.sqlite.specs.Schema.{Schema}
use Rattle.sqlite.specs.State.{State as Conn, Executes}
use Rattle.sqlite.specs.Store.{Ghosts}
use Rattle.sqlite.specs.Table.{Table}
use Rattle.sqlite.specs.Term.{Term}
use Rattle.sqlite.specs.Tree.{rowid}
use Rattle.sqlite_rules.proofs.ListLemmas.{all_from, all_has, has_filtered, has_kept}
use Rattle.sqlite_rules.proofs.ProbeLemmas.{has_mapped}
use Rattle.sqlite_rules.specs.Lists.{Has}
use Rattle.sqlite_value.specs.Order.{Row}
use Rattle.prt_addr.specs.Order.{insert_by}
use Rattle.prt_route.specs.Route.{is_listed_before, is_same_key, key_of}
use Rattle.prt_route.specs.RouteChoice.{is_selected}
use Rattle.prt_route.specs.declared.choice.Selector.{Selector}
use Rattle.prt_route.specs.declared.edit.RouteEdit.TheVariants.{Put, Remove, Flush}
use Rattle.prt_route.specs.declared.route.Route.{Route}
use Rattle.prt_route.specs.declared.route.RouteKey.{RouteKey}
use Rattle.prt_rows.proofs.Found.{has_permuted}
use Rattle.prt_rows.proofs.Insertion.{adds_length, adds_rule}
use Rattle.prt_rows.proofs.Keyed.{keyed-permutation}
use Rattle.prt_rows.proofs.Putting.{puts_route}
use Rattle.prt_rows.proofs.RouteInsertion.{adds_route, puts_beside}
use Rattle.prt_rows.proofs.RouteKeys.{row_has_key, split}
use Rattle.prt_rows.proofs.RowTests.{passes_id, passes_key, passes_priority}
use Rattle.prt_rows.proofs.Selecting.{passes_selector}
use Rattle.prt_rows.proofs.Statements.{deletes_route, deletes_routes, deletes_rule, flushes_rules}
use Rattle.prt_rows.specs.Effects.{Adds, AreRouteRows, ChangesOnly, ChangesTwo, DeletesRules, IsKeyed, IsOfNone, Puts, has_same_rowid, passes}
use Rattle.prt_rows.specs.Kept.{id_values, kept_length, kept_rule, key_values}
use Rattle.prt_rows.specs.Meanings.{has_id, has_key, has_priority, is_flushed}
use Rattle.prt_rows.specs.RouteRow.{route_row}
use Rattle.prt_rows.specs.RuleRow.{rule_row}
use Rattle.prt_rows.specs.Selecting.{IsSelector, selector_row}
use Rattle.prt_rows.specs.Statements.{delete_route, delete_rule, flush_routes, flush_rules, insert_route, insert_rule, insert_suppress, put_route}
use Rattle.prt_rows.specs.SuppressRow.{suppress_row}
use Rattle.prt_rows.specs.declared.suppress_row.RuleLength.{RuleLength}
use Rattle.prt_rows.specs.Format.{IsFormat2}
use Rattle.prt_rows.specs.Tables.{meta_table, our_tables, route_table, rule_table, schema_with, suppress_table}
use Rattle.prt_rule.specs.Rule.{is_before}
use Rattle.prt_rule.specs.declared.rule.Rule.{Rule}
use Rattle.prt_version.specs.Change.{put}
use Rattle.prt_version.specs.State.{State}
use Rattle.prt_version.specs.declared.change.Change.{Change}
use Rattle.prt_version.specs.declared.change.Change.TheVariants as change
use Rattle.prt_store.proofs.Spelling.{Covers, IsLengthRow, IsRouteRow, IsRuleRow, covers_if_same, covers_left, covers_placed, filter_all, map_id}
use Rattle.prt_store.proofs.Looks.{ours_there}
use Rattle.prt_store.specs.declared.opening.OurTable.TheVariants as ours
use Rattle.prt_store.proofs.Lengths.{HaveOwnIds, has_length, id_cmp, keyed_lengths, of_rule, one_by_id, was_length}
use Rattle.prt_store.proofs.Members.{has_itself, has_other, inserted_has}
use Rattle.prt_store.specs.Lengths.{length_of, lengths_of}
use Rattle.prt_store.specs.Made.{RunsWith, WritesRows}
use Rattle.prt_store.specs.Stored.{FitsTables, Stores}
use Rattle.prt_store.specs.Written.{IsTyped, length_put, text_of, values_of}

-- the tables keep the rules, their lengths and the routes of the state, whatever their order
pub record Keeps (db : Database) (state : State) : Type 0 where
  pub rules_keyed : IsKeyed (db.trees 0)
  pub routes_keyed : IsKeyed (db.trees 1)
  pub rules : Covers IsRuleRow (db.trees 0) state.rules
  pub routes : Covers IsRouteRow (db.trees 1) state.routes
  pub lengths_keyed : IsKeyed (db.trees 4)
  pub lengths : Covers IsLengthRow (db.trees 4) (lengths_of state.rules)

-- the rules and routes are those of the next state, and the count is still to be set
pub record IsChanged (old mid : Database) (next : State) : Type 0 where
  pub schema : mid.schema ≡ old.schema
  pub kept : Keeps mid next
  pub count : mid.trees 3 ≡ old.trees 3
  pub others : (table : Table) → Has old.schema.tables table → (table.tree ≡ 0 → ⊥) → (table.tree ≡ 1 → ⊥) → (table.tree ≡ 4 → ⊥) → mid.trees table.tree ≡ old.trees table.tree

-- a table of the file that is not ours is one of the others
pub among_others : (schema : Schema) (tables : IsFormat2 schema) (table : Table) → Has schema.tables table → (Has our_tables table → ⊥) → Has tables.tables table
among_others schema tables table there not_ours = after_ours (subst (λ (s : Schema). Has s.tables table) tables.is there)
  where
    after_ours : Has (rule_table ∷ route_table ∷ meta_table ∷ suppress_table ∷ tables.tables) table → Has tables.tables table
    after_ours (inl is) = absurd (not_ours (inl is))
    after_ours (inr (inl is)) = absurd (not_ours (inr (inl is)))
    after_ours (inr (inr (inl is))) = absurd (not_ours (inr (inr (inl is))))
    after_ours (inr (inr (inr (inl is)))) = absurd (not_ours (inr (inr (inr (inl is)))))
    after_ours (inr (inr (inr (inr other)))) = other

not_not : (b : Bool) → b ≡ not (not b)
not_not true = refl
not_not false = refl

id_tie : (a b : Rule) → has_same_rowid (kept_rule a) (kept_rule b) ≡ (a.id == b.id)
id_tie a b = id_cmp a.id b.id

once_ids : (rules : List Rule) → IsDistinct (λ (rule other : Rule). rule.id == other.id) rules → IsDistinct has_same_rowid (map kept_rule rules)
unfolding IsDistinct
once_ids [] distinct = tt
once_ids (rule ∷ rules) distinct = (
  all_from (λ row. has_same_rowid (kept_rule rule) row ≡ false) (map kept_rule rules) (λ row there.
      let m = has_mapped kept_rule rules row there in
      ap (has_same_rowid (kept_rule rule)) m.2 ∙ id_tie rule m.0 ∙ all_has (λ (other : Rule). (rule.id == other.id) ≡ false) rules m.0 distinct.0 m.1),
  once_ids rules distinct.1,
)

pub keyed_rules : (rules : List Rule) → IsDistinct (λ (rule other : Rule). rule.id == other.id) rules → IsKeyed (map kept_rule rules)
keyed_rules rules distinct = record { ints = λ row there. let m = has_mapped kept_rule rules row there in rw m.2 refl; once = once_ids rules distinct }

-- ---- lengths of a rule more

-- the rule that is put has none
covers_more : (rows : List Row) (rules : List Rule) (rule : Rule) → Covers IsLengthRow rows (lengths_of rules) → length_of rule ≡ None → Covers IsLengthRow rows (lengths_of (insert_by is_before rule rules))
covers_more rows rules rule covers none = record {
  sound = λ row there.
      let length = covers.sound row there in
      let whose = was_length rules length.0 length.1 in
      (length.0, has_length (insert_by is_before rule rules) whose.0 length.0 (has_other is_before rule rules whose.0 whose.1) whose.2, length.2);
  complete = λ length there.
      let whose = was_length (insert_by is_before rule rules) length there in
      elim (inserted_has is_before rule rules whose.0 whose.1) [
        | inl is ↦ absurd (let e : Some length ≡ None = sym whose.2 ∙ ap length_of is ∙ none in cc)
        | inr was ↦ covers.complete length (has_length rules whose.0 length was whose.2)
      ];
}

-- and if it has one, its row is there beside the others
covers_one_more : (rows more : List Row) (rules : List Rule) (rule : Rule) (length : RuleLength) → Covers IsLengthRow rows (lengths_of rules) → length_of rule ≡ Some length → ((row : Row) → Has more row → (row ≡ kept_length length) ⊎ Has rows row) → Has more (kept_length length)
    → ((row : Row) → Has rows row → Has more row) → Covers IsLengthRow more (lengths_of (insert_by is_before rule rules))
covers_one_more rows more rules rule length covers own sound here complete = record {
  sound = λ row there. elim (sound row there) [
    | inl is ↦ (length, has_length (insert_by is_before rule rules) rule length (has_itself is_before rule rules) own, is)
    | inr was ↦
        let old = covers.sound row was in
        let whose = was_length rules old.0 old.1 in
        (old.0, has_length (insert_by is_before rule rules) whose.0 old.0 (has_other is_before rule rules whose.0 whose.1) whose.2, old.2)
  ];
  complete = λ other there.
      let whose = was_length (insert_by is_before rule rules) other there in
      elim (inserted_has is_before rule rules whose.0 whose.1) [
        | inl is ↦
            let both : Some other ≡ Some length = sym whose.2 ∙ ap length_of is ∙ own in
            let one : other ≡ length = cc in
            (kept_length length, here, ap kept_length (sym one))
        | inr was ↦ let row = covers.complete other (has_length rules whose.0 other was whose.2) in (row.0, complete row.0 row.1, row.2)
      ];
}

module _ (old : Database) (state : State) (held : Stores old state) where
  abbrev own_ids : HaveOwnIds state.rules
  own_ids = held.fits.sound.distinct_ids

  -- the rowids of lengths are the ids of their rules, which are distinct
  pub lengths_are_keyed : IsKeyed (old.trees 4)
  lengths_are_keyed =
      let back = IsPermutation-sym (old.trees 4) (map kept_length (lengths_of state.rules)) held.lengths in
      keyed-permutation (map kept_length (lengths_of state.rules)) (old.trees 4) back (λ row there. has_permuted (map kept_length (lengths_of state.rules)) (old.trees 4) row back there) (keyed_lengths state.rules own_ids)

  lengths_covered : Covers IsLengthRow (old.trees 4) (lengths_of state.rules)
  lengths_covered = covers_if_same kept_length (λ row. row) (old.trees 4) (lengths_of state.rules) (subst (λ rows. IsPermutation rows (map kept_length (lengths_of state.rules))) (sym (map_id (old.trees 4))) held.lengths)

  pub rules_covered : Covers IsRuleRow (old.trees 0) state.rules
  rules_covered = covers_if_same kept_rule (λ row. row) (old.trees 0) state.rules (subst (λ rows. IsPermutation rows (map kept_rule state.rules)) (sym (map_id (old.trees 0))) held.rules)

  pub routes_covered : Covers IsRouteRow (old.trees 1) state.routes
  routes_covered = covers_if_same route_row (drop 1) (old.trees 1) state.routes held.routes

  -- the rowids of rules are their ids, which are distinct
  pub rules_keyed : IsKeyed (old.trees 0)
  rules_keyed =
      let back = IsPermutation-sym (old.trees 0) (map kept_rule state.rules) held.rules in
      keyed-permutation (map kept_rule state.rules) (old.trees 0) back (λ row there. has_permuted (map kept_rule state.rules) (old.trees 0) row back there) (keyed_rules state.rules held.fits.sound.distinct_ids)

-- The tables hold the rules, with their lengths, and the routes of this state, whatever their count.
pub record Holds (db : Database) (state : State) : Type 0 where
  pub tables : IsFormat2 db.schema
  pub kept : Keeps db state
  pub fits : FitsTables state

pub holds : (db : Database) (state : State) → Stores db state → Holds db state
holds db state held = record {
  tables = held.tables;
  kept = record {
    rules_keyed = rules_keyed db state held;
    routes_keyed = held.keyed;
    rules = rules_covered db state held;
    routes = routes_covered db state held;
    lengths_keyed = lengths_are_keyed db state held;
    lengths = lengths_covered db state held;
  };
  fits = held.fits;
}

module _ (old mid : Conn) (state : State) (held : Holds old.now state) (count : ℕ) where
  -- what was not the table of the statement stays
  stays : (table other : Table) → ChangesOnly table old.now mid.now → Has old.now.schema.tables other → (other.tree == table.tree) ≡ false → mid.now.trees other.tree ≡ old.now.trees other.tree
  stays table other only there differ = only.others other there (eqb-false other.tree table.tree differ)

  -- the routes are those of the next state
  routes_changed : (next : State) → next.rules ≡ state.rules → ChangesOnly route_table old.now mid.now → IsKeyed (mid.now.trees 1) → Covers IsRouteRow (mid.now.trees 1) next.routes → IsChanged old.now mid.now next
  routes_changed next same only keyed routes = record {
    schema = only.schema;
    kept = record {
      rules_keyed = subst IsKeyed (sym rows) held.kept.rules_keyed;
      routes_keyed = keyed;
      rules = subst (λ rules. Covers IsRuleRow (mid.now.trees 0) rules) (sym same) (subst (λ rows. Covers IsRuleRow rows state.rules) (sym rows) held.kept.rules);
      routes = routes;
      lengths_keyed = subst IsKeyed (sym lengths) held.kept.lengths_keyed;
      lengths = subst (λ rules. Covers IsLengthRow (mid.now.trees 4) (lengths_of rules)) (sym same) (subst (λ rows. Covers IsLengthRow rows (lengths_of state.rules)) (sym lengths) held.kept.lengths);
    };
    count = stays route_table meta_table only (ours_there old.now.schema held.tables ours.Meta) refl;
    others = λ table there no_rules no_routes no_lengths. only.others table there no_routes;
  }
    where
      rows : mid.now.trees 0 ≡ old.now.trees 0
      rows = stays route_table rule_table only (ours_there old.now.schema held.tables ours.Rule) refl

      lengths : mid.now.trees 4 ≡ old.now.trees 4
      lengths = stays route_table suppress_table only (ours_there old.now.schema held.tables ours.Suppress) refl

  -- the rules and their lengths are those of the next state
  rules_changed : (next : State) → next.routes ≡ state.routes → ChangesTwo rule_table suppress_table old.now mid.now → IsKeyed (mid.now.trees 0) → Covers IsRuleRow (mid.now.trees 0) next.rules → IsKeyed (mid.now.trees 4)
      → Covers IsLengthRow (mid.now.trees 4) (lengths_of next.rules) → IsChanged old.now mid.now next
  rules_changed next same only keyed rules lengths_keyed lengths =
      let rows = only.others route_table (ours_there old.now.schema held.tables ours.Route) (λ e. absurd (cc)) (λ e. absurd (cc)) in
      record {
        schema = only.schema;
        kept = record {
          rules_keyed = keyed;
          routes_keyed = subst IsKeyed (sym rows) held.kept.routes_keyed;
          rules = rules;
          routes = subst (λ routes. Covers IsRouteRow (mid.now.trees 1) routes) (sym same) (subst (λ rows. Covers IsRouteRow rows state.routes) (sym rows) held.kept.routes);
          lengths_keyed = lengths_keyed;
          lengths = lengths;
        };
        count = only.others meta_table (ours_there old.now.schema held.tables ours.Meta) (λ e. absurd (cc)) (λ e. absurd (cc));
        others = λ table there no_rules no_routes no_lengths. only.others table there no_rules no_lengths;
      }

  -- the rules that pass are gone, and their lengths
  module _ (tests : List Term) (params : Row) (remains : Rule → Bool) (agree : (rule : Rule) (row : Row) → Has state.rules rule → IsRuleRow rule row → passes tests params row ≡ not (remains rule)) (made : DeletesRules tests params old.now mid.now) where
    own_row : (rule : Rule) (length : RuleLength) → length_of rule ≡ Some length → has_same_rowid (kept_length length) (kept_rule rule) ≡ true
    own_row rule length own = id_cmp length.rule rule.id ∙ eq-eqb length.rule rule.id (of_rule rule length own)

    lengths_left : Covers IsLengthRow (mid.now.trees 4) (lengths_of (filter remains state.rules))
    lengths_left = record {
      sound = λ row there.
          let was = made.lengths_sound row there in
          let length = held.kept.lengths.sound row was.0 in
          let rule = was_length state.rules length.0 length.1 in
          let kept = held.kept.rules.complete rule.0 rule.1 in
          let same : has_same_rowid row kept.0 ≡ true = (λ i. has_same_rowid (length.2 i) (kept.2 i)) ∙ own_row rule.0 length.0 rule.2 in
          let stays : remains rule.0 ≡ true = not-false (remains rule.0) (sym (agree rule.0 kept.0 rule.1 kept.2) ∙ was.1 kept.0 kept.1 same) in
          (length.0, has_length (filter remains state.rules) rule.0 length.0 (has_kept remains state.rules rule.0 rule.1 stays) rule.2, length.2);
      complete = λ length there.
          let rule = was_length (filter remains state.rules) length there in
          let left = has_filtered remains state.rules rule.0 rule.1 in
          let row = held.kept.lengths.complete length (has_length state.rules rule.0 length left.0 rule.2) in
          let none : IsOfNone tests params (old.now.trees 0) row.0 = λ other among same.
          let whose = held.kept.rules.sound other among in
          let ids : length.rule ≡ whose.0.id = eqb-true length.rule whose.0.id (sym (id_cmp length.rule whose.0.id) ∙ (λ i. has_same_rowid (sym row.2 i) (sym whose.2 i)) ∙ same) in
          let one : whose.0 ≡ rule.0 = one_by_id state.rules held.fits.sound.distinct_ids whose.0 rule.0 whose.1 left.0 (sym ids ∙ of_rule rule.0 length rule.2) in
          agree whose.0 other whose.1 whose.2 ∙ ap (λ r. not (remains r)) one ∙ ap not left.1 in
          (row.0, made.lengths_complete row.0 row.1 none, row.2);
    }

  -- the row of the rule is there beside the others
  rule_placed : (rule : Rule) → Adds rule_table (kept_rule rule) old.now mid.now → Covers IsRuleRow (mid.now.trees 0) (insert_by is_before rule state.rules)
  rule_placed rule made =
      let placed = covers_placed IsRuleRow (old.now.trees 0) (mid.now.trees 0) state.rules held.kept.rules (λ _. false) (λ _. true) (λ _ _ _ _. refl) (λ row was _. made.complete row was) is_before rule
      (λ row there. elim (made.sound row there) [ inl is ↦ inl is | inr was ↦ inr (was, refl) ]) (kept_rule rule, made.here, refl) in
      subst (λ rules. Covers IsRuleRow (mid.now.trees 0) (insert_by is_before rule rules)) (filter_all state.rules) placed

  route_rows : AreRouteRows (old.now.trees 1)
  route_rows row there = let was = held.kept.routes.sound row there in (was.0, was.2)

  route_placed : (route : Route) → Puts route old.now mid.now → IsChanged old.now mid.now (put state (change.Route (Put route)))
  route_placed route made =
      routes_changed (put state (change.Route (Put route))) refl made.only made.keyed
      (covers_placed IsRouteRow (old.now.trees 1) (mid.now.trees 1) state.routes held.kept.routes (passes has_key (key_values (key_of route))) (λ other. not (is_same_key (key_of other) (key_of route)))
      (λ other row there is. row_has_key row other route is ∙ not_not _) made.complete is_listed_before route made.sound made.here)

  puts : (route : Route) → Executes put_route (route_row route) old mid (Ok count) → IsChanged old.now mid.now (put state (change.Route (Put route)))
  puts route ran =
      let t = held.tables in
      route_placed route (puts_route t.tables t.indexes t.views t.others t.free old mid route count t.is route_rows held.kept.routes_keyed ran)

  joins : (route : Route) → Executes insert_route (route_row route) old mid (Ok count) → IsChanged old.now mid.now (put state (change.RouteAdd route))
  joins route ran =
      let t = held.tables in
      route_placed route (puts_beside route old.now mid.now (adds_route t.tables t.indexes t.views t.others t.free old mid route count t.is route_rows held.kept.routes_keyed ran))

  removes : (key : RouteKey) → Executes delete_route (key_values key) old mid (Ok count) → IsChanged old.now mid.now (put state (change.Route (Remove key)))
  removes key ran =
      let t = held.tables in
      let made = deletes_route t.tables t.indexes t.views t.others old mid t.is (key_values key) count held.kept.routes_keyed ran in
      routes_changed (put state (change.Route (Remove key))) refl made.only made.keyed
      (covers_left IsRouteRow (old.now.trees 1) (mid.now.trees 1) state.routes held.kept.routes (passes has_key (key_values key)) (λ other. not (is_same_key (key_of other) key))
      (λ other row there is. ap (passes has_key (key_values key)) (split row other is) ∙ passes_key (rowid row) other key ∙ not_not _) made.complete made.sound)

  selects : (selector : Selector) → IsSelector selector → Executes flush_routes (selector_row selector) old mid (Ok count) → IsChanged old.now mid.now (put state (change.Route (Flush selector)))
  selects selector is ran =
      let t = held.tables in
      let made = deletes_routes t.tables t.indexes t.views t.others old mid t.is (selector_row selector) count held.kept.routes_keyed ran in
      routes_changed (put state (change.Route (Flush selector))) refl made.only made.keyed
      (covers_left IsRouteRow (old.now.trees 1) (mid.now.trees 1) state.routes held.kept.routes (passes is_flushed (selector_row selector)) (λ other. not (is_selected selector other))
      (λ other row there same.
      ap (passes is_flushed (selector_row selector)) (split row other same) ∙ passes_selector (rowid row) other selector (held.fits.routes other there).prefix is ∙ not_not _)
      made.complete made.sound)

  inserts : (rule : Rule) → length_of rule ≡ None → Executes insert_rule (rule_row rule) old mid (Ok count) → IsChanged old.now mid.now (put state (change.RulePut rule))
  inserts rule none ran =
      let t = held.tables in
      let made = adds_rule t.tables t.indexes t.views t.others old mid rule count t.is ran in
      let rows = stays rule_table suppress_table made.only (ours_there old.now.schema held.tables ours.Suppress) refl in
      rules_changed (put state (change.RulePut rule)) refl (record { schema = made.only.schema; others = λ table there no_rules no_lengths. made.only.others table there no_rules }) (made.keyed held.kept.rules_keyed)
      (rule_placed rule made) (subst IsKeyed (sym rows) held.kept.lengths_keyed)
      (subst (λ rows. Covers IsLengthRow rows (lengths_of (insert_by is_before rule state.rules))) (sym rows) (covers_more (old.now.trees 4) state.rules rule held.kept.lengths none))

  drops : (id : ℕ) → Executes delete_rule (id_values id) old mid (Ok count) → IsChanged old.now mid.now (put state (change.RuleDrop id))
  drops id ran =
      let t = held.tables in
      let made = deletes_rule t.tables t.indexes t.views t.others old mid t.is (id_values id) count held.kept.rules_keyed held.kept.lengths_keyed ran in
      let agree = λ (rule : Rule) (row : Row) (there : Has state.rules rule) (is : IsRuleRow rule row). ap (passes has_id (id_values id)) is ∙ passes_id rule id ∙ not_not _ in
      rules_changed (put state (change.RuleDrop id)) refl made.only made.keyed
      (covers_left IsRuleRow (old.now.trees 0) (mid.now.trees 0) state.rules held.kept.rules (passes has_id (id_values id)) (λ rule. not (rule.id == id)) agree
      made.complete made.sound)
      made.lengths_keyed (lengths_left has_id (id_values id) (λ rule. not (rule.id == id)) agree made)

  flushes : Executes flush_rules [] old mid (Ok count) → IsChanged old.now mid.now (put state change.RuleFlush)
  flushes ran =
      let t = held.tables in
      let made = flushes_rules t.tables t.indexes t.views t.others old mid t.is [] count held.kept.rules_keyed held.kept.lengths_keyed ran in
      let agree = λ (rule : Rule) (row : Row) (there : Has state.rules rule) (is : IsRuleRow rule row). ap (passes has_priority []) is ∙ passes_priority rule in
      rules_changed (put state change.RuleFlush) refl made.only made.keyed
      (covers_left IsRuleRow (old.now.trees 0) (mid.now.trees 0) state.rules held.kept.rules (passes has_priority []) (λ rule. rule.priority == 0) agree
      made.complete made.sound)
      made.lengths_keyed (lengths_left has_priority [] (λ rule. rule.priority == 0) agree made)

  -- a change that puts no length
  changed : (made : Change) → length_put made ≡ None → IsTyped made → Executes (text_of made) (values_of made) old mid (Ok count) → IsChanged old.now mid.now (put state made)
  changed (change.Route (Put route)) none typed ran = puts route ran
  changed (change.Route (Remove key)) none typed ran = removes key ran
  changed (change.Route (Flush selector)) none typed ran = selects selector typed ran
  changed (change.RouteAdd route) none typed ran = joins route ran
  changed (change.RulePut rule) none typed ran = inserts rule none ran
  changed (change.RuleDrop id) none typed ran = drops id ran
  changed change.RuleFlush none typed ran = flushes ran

-- a rule is put, and then its length
module _ (old mid last : Conn) (state : State) (held : Holds old.now state) (rule : Rule) (length : RuleLength) (own : length_of rule ≡ Some length) where
  length_inserted : (one two : ℕ) → Executes insert_rule (rule_row rule) old mid (Ok one) → Executes insert_suppress (suppress_row length) mid last (Ok two) → IsChanged old.now last.now (put state (change.RulePut rule))
  length_inserted one two first second =
      let t = held.tables in
      let rules = adds_rule t.tables t.indexes t.views t.others old mid rule one t.is first in
      let is : mid.now.schema ≡ schema_with t.tables t.indexes t.views = rules.only.schema ∙ t.is in
      let made = adds_length t.tables t.indexes t.views t.others mid last length two is second in
      let in_mid = λ (table : Table) (there : Has old.now.schema.tables table). subst (λ (s : Schema). Has s.tables table) (sym rules.only.schema) there in
      let rule_rows : last.now.trees 0 ≡ mid.now.trees 0 = made.only.others rule_table (in_mid rule_table (ours_there old.now.schema held.tables ours.Rule)) (λ e. absurd (cc)) in
      let length_rows : mid.now.trees 4 ≡ old.now.trees 4 = rules.only.others suppress_table (ours_there old.now.schema held.tables ours.Suppress) (λ e. absurd (cc)) in
      let covers = subst (λ rows. Covers IsLengthRow rows (lengths_of state.rules)) (sym length_rows) held.kept.lengths in
      rules_changed old last state held two (put state (change.RulePut rule)) refl (record {
        schema = made.only.schema ∙ rules.only.schema;
        others = λ table there no_rules no_lengths. made.only.others table (in_mid table there) no_lengths ∙ rules.only.others table there no_rules;
      }) (subst IsKeyed (sym rule_rows) (rules.keyed held.kept.rules_keyed)) (subst (λ rows. Covers IsRuleRow rows (insert_by is_before rule state.rules)) (sym rule_rows) (rule_placed old mid state held one rule rules))
      (made.keyed (subst IsKeyed (sym length_rows) held.kept.lengths_keyed)) (covers_one_more (mid.now.trees 4) (last.now.trees 4) state.rules rule length covers own made.sound made.here made.complete)

-- what the writing of a change leaves
pub changed_by : {S : Type 0} (g : Ghosts S) (made : Change) (old mid : Held S) (state_now : State) → Holds (state g old).now state_now → IsTyped made → WritesRows g made old mid → IsChanged (state g old).now (state g mid).now (put state_now made)
changed_by {S = S} g (change.RulePut rule) old mid now held typed ran = go (length_of rule) refl ran
  where
    go : (own : Option RuleLength) → length_of rule ≡ own → RunsWith g insert_rule (rule_row rule) own old mid → IsChanged (state g old).now (state g mid).now (put now (change.RulePut rule))
    go None is it = changed (state g old) (state g mid) now held it.0 (change.RulePut rule) is typed it.1
    go (Some length) is it = length_inserted (state g old) (state g it.0) (state g mid) now held rule length is it.1.0 it.2.0 it.1.1 it.2.1
changed_by g made old mid now held typed ran = changed (state g old) (state g mid) now held ran.0 made refl typed ran.1
