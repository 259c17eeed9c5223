-- Rows that change change what they encode.
use Rattle.std.proofs.Common.{◌≡◌, ◌⊎◌, inl, inr, Bool, true, false, not, List, [], ◌∷◌, drop, filter, map, IsPermutation, refl, sym, ap, subst, ◌∙◌}
use Rattle.std.proofs.lemmas.Bool.{not-false}
use Rattle.std.proofs.lemmas.Cmp.{tied_itself}
use Rattle.std.proofs.lemmas.List.Sorted.{IsPermutation-sym}
use Rattle.std.specs.Ordering.{is_eq}
use Rattle.sqlite.specs.Tree.{rowid}
use Rattle.sqlite_rules.proofs.ListLemmas.{has_filtered, has_kept}
use Rattle.sqlite_rules.proofs.ProbeLemmas.{has_mapped, mapped_has}
use Rattle.sqlite_rules.specs.Lists.{Has}
use Rattle.sqlite_value.proofs.OrderLemmas.{value_cmp_total}
use Rattle.sqlite_value.specs.Order.{Row}
use Rattle.prt_addr.specs.Order.{insert_by}
use Rattle.prt_route.specs.declared.route.Route.{Route}
use Rattle.prt_rows.proofs.Found.{has_permuted}
use Rattle.prt_rows.specs.Effects.{HasSame, IsKeyed, has_same_rowid}
use Rattle.prt_rows.specs.Kept.{kept_length, kept_rule}
use Rattle.prt_rows.specs.RouteRow.{route_row}
use Rattle.prt_rows.specs.declared.suppress_row.RuleLength.{RuleLength}
use Rattle.prt_rule.specs.declared.rule.Rule.{Rule}
use Rattle.prt_store.proofs.Members.{has_itself, has_other, inserted_has}
use Rattle.prt_store.proofs.Once.{IsOnce, once_mapped, same_members}

-- each row is that of one of the values, and each value has a row
pub record Covers {X : Type 0} (IsRowOf : X → Row → Type 0) (rows : List Row) (values : List X) : Type 0 where
  pub sound : (row : Row) → Has rows row → (value : X) × Has values value × IsRowOf value row
  pub complete : (value : X) → Has values value → (row : Row) × Has rows row × IsRowOf value row

-- the rowid of a rule is its id
abbrev pub IsRuleRow : Rule → Row → Type 0
IsRuleRow rule row = row ≡ kept_rule rule

-- the rowid of a length is the id of its rule
abbrev pub IsLengthRow : RuleLength → Row → Type 0
IsLengthRow length row = row ≡ kept_length length

-- a route has any rowid
abbrev pub IsRouteRow : Route → Row → Type 0
IsRouteRow route row = drop 1 row ≡ route_row route

pub map_id : {X : Type 0} (xs : List X) → map (λ x. x) xs ≡ xs
map_id [] = refl
map_id (x ∷ xs) = ap (λ ys. x ∷ ys) (map_id xs)

-- what is seen of the rows is what is written for the values
module _ {X : Type 0} (write : X → Row) (part : Row → Row) (rows : List Row) (values : List X) where
  pub covers_if_same : IsPermutation (map part rows) (map write values) → Covers (λ value row. part row ≡ write value) rows values
  covers_if_same same = record {
    sound = λ row there.
        let m = has_mapped write values (part row) (has_permuted _ _ (part row) (IsPermutation-sym _ _ same) (mapped_has part rows row there)) in
        (m.0, m.1, m.2);
    complete = λ value there.
        let m = has_mapped part rows (write value) (has_permuted _ _ (write value) same (mapped_has write values value there)) in
        (m.0, m.1, sym m.2);
  }

  pub same_if_covers : Covers (λ value row. part row ≡ write value) rows values → IsOnce (map part rows) → IsOnce (map write values) → IsPermutation (map part rows) (map write values)
  same_if_covers covers once also = same_members (map part rows) (map write values) once also
      (λ x there.
      let m = has_mapped part rows x there in
      let v = covers.sound m.0 m.1 in
      subst (Has (map write values)) (sym (m.2 ∙ v.2)) (mapped_has write values v.0 v.1))
      (λ x there.
      let m = has_mapped write values x there in
      let r = covers.complete m.0 m.1 in
      subst (Has (map part rows)) (sym (m.2 ∙ sym r.2)) (mapped_has part rows r.0 r.1))

module _ {X : Type 0} (IsRowOf : X → Row → Type 0) (olds news : List Row) (values : List X) (held : Covers IsRowOf olds values)
    (passes : Row → Bool) (stays : X → Bool) (agree : (value : X) (row : Row) → Has values value → IsRowOf value row → passes row ≡ not (stays value))
    (complete : (row : Row) → Has olds row → passes row ≡ false → Has news row) where
  stays_if : (value : X) (row : Row) → Has values value → IsRowOf value row → passes row ≡ false → stays value ≡ true
  stays_if value row there is fails = not-false (stays value) (sym (agree value row there is) ∙ fails)

  -- a value that stays keeps its row
  still_there : (value : X) → Has (filter stays values) value → (row : Row) × Has news row × IsRowOf value row
  still_there value there =
      let was = has_filtered stays values value there in
      let row = held.complete value was.0 in
      (row.0, complete row.0 row.1 (agree value row.0 was.0 row.2 ∙ ap not was.1), row.2)

  left_over : (row : Row) → Has olds row → passes row ≡ false → (value : X) × Has (filter stays values) value × IsRowOf value row
  left_over row was fails =
      let value = held.sound row was in
      (value.0, has_kept stays values value.0 value.1 (stays_if value.0 row value.1 value.2 fails), value.2)

  -- the rows that pass are gone
  pub covers_left : ((row : Row) → Has news row → Has olds row × (passes row ≡ false)) → Covers IsRowOf news (filter stays values)
  covers_left sound = record { sound = λ row there. let was = sound row there in left_over row was.0 was.1; complete = still_there }

  -- the rows that pass are gone, and one more is there
  pub covers_placed : (before : X → X → Bool) (value : X) → ((row : Row) → Has news row → IsRowOf value row ⊎ (Has olds row × (passes row ≡ false))) → ((row : Row) × Has news row × IsRowOf value row)
      → Covers IsRowOf news (insert_by before value (filter stays values))
  covers_placed before value sound here = record {
    sound = λ row there. elim (sound row there) [
      | inl is ↦ (value, has_itself before value (filter stays values), is)
      | inr was ↦ let old = left_over row was.0 was.1 in (old.0, has_other before value (filter stays values) old.0 old.1, old.2)
    ];
    complete = λ other there. elim (inserted_has before value (filter stays values) other there) [
      | inl is ↦ (here.0, here.1, subst (λ v. IsRowOf v here.0) (sym is) here.2)
      | inr was ↦ still_there other was
    ];
  }

pub filter_all : {X : Type 0} (xs : List X) → filter (λ _. true) xs ≡ xs
filter_all [] = refl
filter_all (x ∷ xs) = ap (λ ys. x ∷ ys) (filter_all xs)

-- ---- rows that are the same

once_if_keyed : (rows : List Row) → IsKeyed rows → IsOnce rows
once_if_keyed rows keyed = subst IsOnce (map_id rows) (once_mapped (λ row. row) has_same_rowid rows keyed.once (λ row other there also same. ap (λ x. has_same_rowid row x) (sym same) ∙ ap is_eq (tied_itself value_cmp_total (rowid row))))

-- rows that cover values are theirs, if those of both are keyed
pub rows_if_covers : {X : Type 0} (kept : X → Row) (rows : List Row) (values : List X) → IsKeyed rows → IsKeyed (map kept values) → Covers (λ value row. row ≡ kept value) rows values → IsPermutation rows (map kept values)
rows_if_covers kept rows values keyed also covers =
    subst (λ same. IsPermutation same (map kept values)) (map_id rows) (same_if_covers kept (λ row. row) rows values covers (subst IsOnce (sym (map_id rows)) (once_if_keyed rows keyed)) (once_if_keyed (map kept values) also))

pub same_rows : (rows others : List Row) → IsKeyed rows → IsKeyed others → HasSame rows others → IsPermutation rows others
same_rows rows others keyed also same = same_members rows others (once_if_keyed rows keyed) (once_if_keyed others also) same.sound same.complete

pub rows_of_permutation : (rows others : List Row) → IsPermutation rows others → HasSame rows others
rows_of_permutation rows others same = record { sound = λ row there. has_permuted others rows row (IsPermutation-sym rows others same) there; complete = λ row there. has_permuted rows others row same there }
