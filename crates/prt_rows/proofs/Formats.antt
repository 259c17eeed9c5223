-- Lists that are gone through: columns that are as they are wanted, and what holds of each member.
use Rattle.std.proofs.Common.{◌≡◌, ◌<◌, ◌≤◌, ◌+◌, ◌-◌, ◌↔◌, ℕ, IsTrue, true, false, true≢false, inl, inr, List, [], ◌∷◌, map, drop, take, length, get_or, refl, sym, ap, subst, ◌∙◌, arith}
use Rattle.std.proofs.Math.Seq.{take-length}
use Rattle.std.proofs.lemmas.List.{get_or-map, length-drop, length-map, take_more, take_more_same}
use Rattle.sqlite.specs.Schema.{Schema}
use Rattle.sqlite.specs.Table.{Table}
use Rattle.sqlite_rules.proofs.ListLemmas.{has_at, has_either}
use Rattle.sqlite_rules.specs.Lists.{Has}
use Rattle.sqlite_schema.specs.declared.schema.Index.{Index}
use Rattle.prt_rows.specs.Format.{IsFormat2}
use Rattle.prt_rows.specs.Others.{AreNotOfRoutes, AreOthers, IsOther}
use Rattle.prt_rows.specs.Tables.{meta_table, route_key, route_table, rule_table, schema_with, suppress_table}

-- the first members are those that are wanted, and so is the next
pub one_more_wanted : {X W : Type 0} (make : W → X) (xs : List X) (wanted : List W) (at : ℕ) (x : X) (w : W) → at < length xs → length xs ≡ length wanted → get_or xs at x ≡ make (get_or wanted at w)
    → take at xs ≡ take at (map make wanted) → take (at + 1) xs ≡ take (at + 1) (map make wanted)
one_more_wanted make xs wanted at x w within long is so_far =
    let there : at < length wanted = omega (arith, within, long) in
    take_more_same xs (map make wanted) at x within (rw (length-map wanted make) there) so_far (is ∙ sym (get_or-map make wanted at w x there))

module _ {X : Type 0} (P : X → Type 0) (xs : List X) where
  -- it holds of the first members, and of the next
  pub each_more : (at : ℕ) (x : X) → at < length xs → x ≡ get_or xs at x → P x → ((y : X) → Has (take at xs) y → P y) → (y : X) → Has (take (at + 1) xs) y → P y
  each_more at x within here holds so_far y there =
      elim (has_either (take at xs) (get_or xs at x ∷ []) y (subst (λ l. Has l y) (take_more xs at x within) there)) [
        | inl before ↦ so_far y before
        | inr now ↦ elim now [ inl is ↦ subst P (sym (is ∙ sym here)) holds | inr none ↦ absurd none ]
      ]

  -- it holds of all of them
  pub each_of_all : (at : ℕ) → at ≡ length xs → ((y : X) → Has (take at xs) y → P y) → (y : X) → Has xs y → P y
  each_of_all at end so_far y there = so_far y (subst (λ l. Has l y) (sym (ap (λ n. take n xs) end ∙ take-length xs)) there)

  -- and if it fails of one, not of all
  pub not_of_all : (at : ℕ) (x : X) → at < length xs → x ≡ get_or xs at x → (P x → ⊥) → ((y : X) → Has xs y → P y) → ⊥
  not_of_all at x within here fails all = fails (all x (has_at xs at x within here))

-- the answer to what holds, and to what does not
pub is_so : {P : Type 0} → P → IsTrue true ↔ P
is_so p = (λ _. p, λ _. refl)

pub is_not : {P : Type 0} → (P → ⊥) → IsTrue false ↔ P
is_not none = (λ yes. absurd (true≢false (sym yes)), λ p. absurd (none p))

pub are_others : (tables : List Table) → ((table : Table) → Has tables table → IsOther table) → AreOthers tables
are_others tables each = record {
  rule = λ table there. (each table there).rule;
  route = λ table there. (each table there).route;
  meta = λ table there. (each table there).meta;
  suppress = λ table there. (each table there).suppress;
  elsewhere = λ table there. (each table there).elsewhere;
}

pub each_other : (tables : List Table) → AreOthers tables → (table : Table) → Has tables table → IsOther table
each_other tables others table there =
    record { rule = others.rule table there; route = others.route table there; meta = others.meta table there; suppress = others.suppress table there; elsewhere = others.elsewhere table there }

four_first : (tables : List Table) (a b c d : Table) → 4 ≤ length tables → tables ≡ get_or tables 0 a ∷ get_or tables 1 b ∷ get_or tables 2 c ∷ get_or tables 3 d ∷ drop 4 tables
four_first [] a b c d many = absurd (omega arith)
four_first (x ∷ []) a b c d many = absurd (omega arith)
four_first (x ∷ (y ∷ [])) a b c d many = absurd (omega arith)
four_first (x ∷ (y ∷ (z ∷ []))) a b c d many = absurd (omega arith)
four_first (x ∷ (y ∷ (z ∷ (u ∷ tables)))) a b c d many = refl

one_first : (indexes : List Index) (a : Index) → 0 < length indexes → indexes ≡ get_or indexes 0 a ∷ drop 1 indexes
one_first [] a some = absurd (omega arith)
one_first (x ∷ indexes) a some = refl

-- the schema is what its first tables and its first index, and the rest of it, say
pub schema_is : (schema : Schema) (a b c d : Table) (key : Index) → 4 ≤ length schema.tables → 0 < length schema.indexes → get_or schema.tables 0 a ≡ rule_table → get_or schema.tables 1 b ≡ route_table
    → get_or schema.tables 2 c ≡ meta_table → get_or schema.tables 3 d ≡ suppress_table → get_or schema.indexes 0 key ≡ route_key
    → schema ≡ schema_with (drop 4 schema.tables) (drop 1 schema.indexes) schema.views
schema_is schema a b c d key many some rule route meta suppress index =
    let tables : schema.tables ≡ rule_table ∷ route_table ∷ meta_table ∷ suppress_table ∷ drop 4 schema.tables =
    four_first schema.tables a b c d many ∙ (λ i. rule i ∷ route i ∷ meta i ∷ suppress i ∷ drop 4 schema.tables) in
    let indexes : schema.indexes ≡ route_key ∷ drop 1 schema.indexes = one_first schema.indexes key some ∙ ap (λ first. first ∷ drop 1 schema.indexes) index in
    λ i. record { tables = tables i; indexes = indexes i; views = schema.views }

all_after : {X : Type 0} (n : ℕ) (xs : List X) → take (length xs - n) (drop n xs) ≡ drop n xs
all_after n xs = ap (λ m. take m (drop n xs)) (sym (length-drop n xs)) ∙ take-length (drop n xs)

-- what was found of the first tables and the first index, and of the others
pub is_format : (schema : Schema) (tables : List Table) (indexes : List Index) (a b c d : Table) (key : Index) → tables ≡ schema.tables → indexes ≡ schema.indexes → 4 ≤ length tables → 0 < length indexes
    → get_or tables 0 a ≡ rule_table → get_or tables 1 b ≡ route_table → get_or tables 2 c ≡ meta_table → get_or tables 3 d ≡ suppress_table → get_or indexes 0 key ≡ route_key
    → AreOthers (take (length tables - 4) (drop 4 tables)) → AreNotOfRoutes (take (length indexes - 1) (drop 1 indexes)) → IsFormat2 schema
is_format schema tables indexes a b c d key all every many some rule route meta suppress index others free = record {
  tables = drop 4 tables;
  indexes = drop 1 indexes;
  views = schema.views;
  is =
      schema_is schema a b c d key (subst (λ l. 4 ≤ length l) all many) (subst (λ l. 0 < length l) every some) (ap (λ l. get_or l 0 a) (sym all) ∙ rule) (ap (λ l. get_or l 1 b) (sym all) ∙ route)
      (ap (λ l. get_or l 2 c) (sym all) ∙ meta) (ap (λ l. get_or l 3 d) (sym all) ∙ suppress) (ap (λ l. get_or l 0 key) (sym every) ∙ index)
      ∙ (λ i. schema_with (drop 4 (sym all i)) (drop 1 (sym every i)) schema.views);
  others = subst AreOthers (all_after 4 tables) others;
  free = subst AreNotOfRoutes (all_after 1 indexes) free;
}

-- and what is so of the other indexes
pub others_free : (schema : Schema) (indexes : List Index) → indexes ≡ schema.indexes → IsFormat2 schema → AreNotOfRoutes (take (length indexes - 1) (drop 1 indexes))
others_free schema indexes every format = subst AreNotOfRoutes (sym (all_after 1 indexes ∙ ap (λ l. drop 1 l) (every ∙ ap (λ (s : Schema). s.indexes) format.is))) format.free
