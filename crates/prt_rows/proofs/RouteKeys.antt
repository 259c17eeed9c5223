-- Rows that have the key of a route.
use Rattle.std.proofs.Common.{◌≡◌, ℕ, ℤ, Some, Bool, true, false, List, [], ◌∷◌, drop, ◌==◌, ◌||◌, inl, inr, refl, sym, ap, ◌∙◌, Ordering, Less, Equal, Greater, eqb}
use Rattle.std.proofs.lemmas.Bool.{eqb-true, eq-eqb, and_parts, and_from}
use Rattle.std.proofs.lemmas.Cmp.{tied_itself}
use Rattle.std.specs.List.{list_any}
use Rattle.std.specs.Ordering.{is_eq, is_ne}
use Rattle.sqlite.specs.Collation.TheVariants.{Binary}
use Rattle.sqlite.specs.Tree.{rowid}
use Rattle.sqlite.specs.declared.types.Value.{Value}
use Rattle.sqlite.specs.declared.types.Value.TheVariants.{Int}
use Rattle.sqlite_rules.specs.Keys.{conflicts, shares}
use Rattle.sqlite_schema.specs.Rules.{agree, differ}
use Rattle.sqlite_schema.specs.declared.schema.Index.{Index}
use Rattle.sqlite_sql.specs.Ops.{binary, is_true}
use Rattle.sqlite_sql.specs.declared.ops.BinaryOp.TheVariants.{Compare}
use Rattle.sqlite_sql.specs.declared.ops.CompareOp.TheVariants.{Eq}
use Rattle.sqlite_value.proofs.OrderLemmas.{value_cmp_total}
use Rattle.sqlite_value.specs.Keys.{first_key}
use Rattle.sqlite_value.specs.Order.{Row, value_cmp}
use Rattle.prt_route.specs.Route.{is_same_key, key_of}
use Rattle.prt_route.specs.declared.route.Route.{Route}
use Rattle.prt_rows.proofs.Keyed.{equal_is}
use Rattle.prt_rows.proofs.RowTests.{and_key, eq_test, passes_key, truth_again}
use Rattle.prt_rows.specs.Effects.{has_key_of}
use Rattle.prt_rows.specs.Kept.{kept_route}
use Rattle.prt_rows.specs.Others.{AreNotOfRoutes}
use Rattle.prt_rows.specs.RouteRow.{route_row}
use Rattle.prt_rows.specs.Tables.{key_places, route_key, route_table}

abbrev pub same_key : Route → Route → Bool
same_key a b = is_same_key (key_of a) (key_of b)

-- a row is its rowid and the rest
pub split : (x : Row) (route : Route) → drop 1 x ≡ route_row route → x ≡ kept_route (rowid x) route
split [] route is = absurd (let e = is in cc)
split (v ∷ x) route is = ap (λ rest. v ∷ rest) is

pub row_has_key : (x : Row) (route other : Route) → drop 1 x ≡ route_row route → has_key_of other x ≡ same_key route other
row_has_key x route other is = ap (has_key_of other) (split x route is) ∙ passes_key (rowid x) route (key_of other)

pub keys_equal : (a b : Route) → same_key a b ≡ true → (a.table ≡ b.table) × (a.prefix.bits ≡ b.prefix.bits) × (a.prefix.len ≡ b.prefix.len) × (a.metric ≡ b.metric)
keys_equal a b same =
    let metric = and_parts _ _ same in
    let table = and_parts _ _ metric.0 in
    let prefix = and_parts _ _ table.1 in
    (eqb-true _ _ table.0, eqb-true _ _ prefix.0, eqb-true _ _ prefix.1, eqb-true _ _ metric.1)

eqb_back : (a b : ℕ) → eqb a b ≡ true → eqb b a ≡ true
eqb_back a b is = eq-eqb b a (sym (eqb-true a b is))

pub same_back : (a b : Route) → same_key a b ≡ true → same_key b a ≡ true
same_back a b same =
    let metric = and_parts _ _ same in
    let table = and_parts _ _ metric.0 in
    let prefix = and_parts _ _ table.1 in
    and_from _ _ (and_from _ _ (eqb_back a.table b.table table.0) (and_from _ _ (eqb_back a.prefix.bits b.prefix.bits prefix.0) (eqb_back a.prefix.len b.prefix.len prefix.1))) (eqb_back a.metric b.metric metric.1)

pub agree_is : (id other : Value) (a b : Route) → agree (record { digits = 0 }) key_places (kept_route id a) key_places (kept_route other b) ≡ same_key a b
unfolding first_key
agree_is id other a b =
    rw (eq_test a.table b.table, eq_test a.prefix.bits b.prefix.bits, eq_test a.prefix.len b.prefix.len, eq_test a.metric b.metric)
    (and_key (a.table == b.table) (a.prefix.bits == b.prefix.bits) (a.prefix.len == b.prefix.len) (a.metric == b.metric))

or_end : (b : Bool) → (b || false) ≡ b
or_end true = refl
or_end false = refl

none_shares : (indexes : List Index) → AreNotOfRoutes indexes → (new row : Row) → list_any (shares (Some key_places) route_table new row) indexes ≡ false
none_shares [] free new row = refl
none_shares (index ∷ indexes) free new row = rw (free index (inl refl)) (none_shares indexes (λ i there. free i (inr there)) new row)

pub conflict_is : (indexes : List Index) → AreNotOfRoutes indexes → (id other : Value) (a b : Route) → conflicts (Some key_places) (route_key ∷ indexes) route_table (kept_route other b) (kept_route id a) ≡ same_key a b
conflict_is indexes free id other a b = rw (none_shares indexes free (kept_route other b) (kept_route id a)) (or_end _ ∙ agree_is id other a b)

not_other : (o : Ordering) → is_ne o ≡ false → o ≡ Equal
not_other Less is = absurd (cc)
not_other Equal is = refl
not_other Greater is = absurd (cc)

pub eq_ints : (m n : ℤ) → is_true (binary (Compare Eq Binary) (Int m) (Int n)) ≡ is_eq (value_cmp (Int m) (Int n))
unfolding binary
eq_ints m n = truth_again _

ne_ints : (m n : ℤ) → differ (Int m) (Int n) ≡ is_ne (value_cmp (Int m) (Int n))
unfolding binary
ne_ints m n = truth_again _

pub tied_if_equal : (v w : Value) (m n : ℤ) → v ≡ Int m → w ≡ Int n → is_true (binary (Compare Eq Binary) v w) ≡ true → value_cmp v w ≡ Equal
tied_if_equal v w m n p q is = rw (p, q) (equal_is _ (sym (eq_ints m n) ∙ (rw (p, q) at is)))

pub equal_if_int : (v : Value) (m : ℤ) → v ≡ Int m → is_true (binary (Compare Eq Binary) v v) ≡ true
equal_if_int v m p = rw p (eq_ints m m ∙ ap is_eq (tied_itself value_cmp_total (Int m)))

pub tied_if_same : (v w : Value) (m n : ℤ) → v ≡ Int m → w ≡ Int n → differ v w ≡ false → value_cmp v w ≡ Equal
tied_if_same v w m n p q is = rw (p, q) (not_other _ (sym (ne_ints m n) ∙ (rw (p, q) at is)))
