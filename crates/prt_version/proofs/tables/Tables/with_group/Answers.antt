use Rattle.std.proofs.Common.{◌≡◌, ◌+◌, ◌-◌, ◌≤◌, ◌∙◌, List, Some, ap, arith, length, subst, sym}
use Rattle.prt_route.specs.Edit.{after_edit}
use Rattle.prt_version.specs.Groups.{AreGroups, joined}
use Rattle.prt_version.specs.Shape.{IsShape, tables_of}
use Rattle.prt_version.specs.Tables.{AreTables, TableRows, all_rows, named_table, tables_with}
use Rattle.prt_version.specs.declared.limits.TheConstants.{MOST_ROUTES}
use Rattle.prt_version.proofs.Grouped.{count_changed, group_are, group_within, groups_rows, groups_with, some_groups, tables_within}
use Rattle.prt_version.proofs.tables.Tables.with_group.Goals as goal

pub tables_with-requires : goal.tables_with-requires
tables_with-requires c =
    let are : AreGroups c.deref.result.now = subst AreGroups (sym c.deref.ensures.value) (subst IsShape c.in-Many.is c.self.invariant.tables).0 in
    subst AreTables (sym c.as_slice-own.ensures) (group_are c.deref.result.now c.in-Some.number c.split_groups.result.0.now c.split_groups.result.2.now c.split_groups.result.1.now are c.split_groups.ensures.whole c.split_groups.ensures.lower c.split_groups.ensures.higher)

pub count_rows-requires : goal.count_rows-requires
count_rows-requires c =
    let are : AreGroups c.deref.result.now = subst AreGroups (sym c.deref.ensures.value) (subst IsShape c.in-Many.is c.self.invariant.tables).0 in
    let view : all_rows (joined c.deref.result.now) ≡ c.args.self.now = ap (λ groups. all_rows (joined groups)) c.deref.ensures.value ∙ ap (λ shape. all_rows (tables_of shape)) (sym c.in-Many.is) ∙ c.self.view_is in
    let within : length (all_rows c.split_groups.result.1.now.tables) ≤ length (all_rows (joined c.deref.result.now)) = group_within c.deref.result.now c.in-Some.number c.split_groups.result.0.now c.split_groups.result.2.now c.split_groups.result.1.now are c.split_groups.ensures.whole c.split_groups.ensures.lower c.split_groups.ensures.higher in
    let room : length (all_rows (joined c.deref.result.now)) ≤ MOST_ROUTES = subst (λ routes. length routes ≤ MOST_ROUTES) (c.self.view_is ∙ sym view) c.self.invariant.room in
    subst (λ (tables : List TableRows). length (all_rows tables) ≤ MOST_ROUTES) (sym c.as_slice-own.ensures) (let fits : length (all_rows c.split_groups.result.1.now.tables) ≤ MOST_ROUTES = omega arith in fits)

pub overflow_sub-len : goal.overflow_sub-len
overflow_sub-len c =
    let are : AreGroups c.deref.result.now = subst AreGroups (sym c.deref.ensures.value) (subst IsShape c.in-Many.is c.self.invariant.tables).0 in
    let view : all_rows (joined c.deref.result.now) ≡ c.args.self.now = ap (λ groups. all_rows (joined groups)) c.deref.ensures.value ∙ ap (λ shape. all_rows (tables_of shape)) (sym c.in-Many.is) ∙ c.self.view_is in
    let within : length (all_rows c.split_groups.result.1.now.tables) ≤ length (all_rows (joined c.deref.result.now)) = group_within c.deref.result.now c.in-Some.number c.split_groups.result.0.now c.split_groups.result.2.now c.split_groups.result.1.now are c.split_groups.ensures.whole c.split_groups.ensures.lower c.split_groups.ensures.higher in
    let full : c.self.inside.len ≡ length (all_rows (joined c.deref.result.now)) = c.self.invariant.count ∙ ap length (c.self.view_is ∙ sym view) in
    let count : c.count_rows.result ≡ length (all_rows c.split_groups.result.1.now.tables) = c.count_rows.ensures ∙ ap (λ (tables : List TableRows). length (all_rows tables)) c.as_slice-own.ensures in
    omega arith

pub count_rows-requires-2 : goal.count_rows-requires-2
count_rows-requires-2 c =
    let are : AreGroups c.deref.result.now = subst AreGroups (sym c.deref.ensures.value) (subst IsShape c.in-Many.is c.self.invariant.tables).0 in
    let view : all_rows (joined c.deref.result.now) ≡ c.args.self.now = ap (λ groups. all_rows (joined groups)) c.deref.ensures.value ∙ ap (λ shape. all_rows (tables_of shape)) (sym c.in-Many.is) ∙ c.self.view_is in
    let named : named_table c.args.edit.now ≡ Some c.in-Some.number = sym c.named_table.ensures ∙ c.in-Some.is in
    let made : c.in_ok-tables.tables.items ≡ tables_with c.args.edit.now c.split_groups.result.1.now.tables = c.in_ok-tables.ensures ∙ ap (tables_with c.args.edit.now) c.as_slice-own.ensures in
    let within : length (all_rows c.in_ok-tables.tables.items) ≤ length (after_edit c.args.edit.now c.args.self.now) = tables_within c.deref.result.now c.in-Some.number c.split_groups.result.0.now c.split_groups.result.2.now c.split_groups.result.1.now are c.split_groups.ensures.whole c.split_groups.ensures.lower c.split_groups.ensures.higher c.args.edit.now named c.args.self.now view c.in_ok-tables.tables.items made in
    let most : length (after_edit c.args.edit.now c.args.self.now) ≤ MOST_ROUTES = c.requires in
    subst (λ (tables : List TableRows). length (all_rows tables) ≤ MOST_ROUTES) (sym c.deref-2.ensures.value) (let fits : length (all_rows c.in_ok-tables.tables.items) ≤ MOST_ROUTES = omega arith in fits)

pub overflow_add-len : goal.overflow_add-len
overflow_add-len c =
    let are : AreGroups c.deref.result.now = subst AreGroups (sym c.deref.ensures.value) (subst IsShape c.in-Many.is c.self.invariant.tables).0 in
    let view : all_rows (joined c.deref.result.now) ≡ c.args.self.now = ap (λ groups. all_rows (joined groups)) c.deref.ensures.value ∙ ap (λ shape. all_rows (tables_of shape)) (sym c.in-Many.is) ∙ c.self.view_is in
    let named : named_table c.args.edit.now ≡ Some c.in-Some.number = sym c.named_table.ensures ∙ c.in-Some.is in
    let made : c.in_ok-tables.tables.items ≡ tables_with c.args.edit.now c.split_groups.result.1.now.tables = c.in_ok-tables.ensures ∙ ap (tables_with c.args.edit.now) c.as_slice-own.ensures in
    let full : c.self.inside.len ≡ length (all_rows (joined c.deref.result.now)) = c.self.invariant.count ∙ ap length (c.self.view_is ∙ sym view) in
    let count : c.count_rows.result ≡ length (all_rows c.split_groups.result.1.now.tables) = c.count_rows.ensures ∙ ap (λ (tables : List TableRows). length (all_rows tables)) c.as_slice-own.ensures in
    let count_after : c.count_rows-2.result ≡ length (all_rows c.in_ok-tables.tables.items) = c.count_rows-2.ensures ∙ ap (λ (tables : List TableRows). length (all_rows tables)) c.deref-2.ensures.value in
    let changed : c.self.inside.len - c.count_rows.result + c.count_rows-2.result ≡ length (after_edit c.args.edit.now c.args.self.now) = ap (λ n. n - c.count_rows.result + c.count_rows-2.result) full ∙ count_changed c.deref.result.now c.in-Some.number c.split_groups.result.0.now c.split_groups.result.2.now c.split_groups.result.1.now are c.split_groups.ensures.whole c.split_groups.ensures.lower c.split_groups.ensures.higher c.args.edit.now named c.args.self.now view c.in_ok-tables.tables.items made c.count_rows.result c.count_rows-2.result count count_after in
    let most : length (after_edit c.args.edit.now c.args.self.now) ≤ MOST_ROUTES = c.requires in
    omega arith

pub invariant_of-result : goal.invariant_of-result
invariant_of-result c =
    let are : AreGroups c.deref.result.now = subst AreGroups (sym c.deref.ensures.value) (subst IsShape c.in-Many.is c.self.invariant.tables).0 in
    let view : all_rows (joined c.deref.result.now) ≡ c.args.self.now = ap (λ groups. all_rows (joined groups)) c.deref.ensures.value ∙ ap (λ shape. all_rows (tables_of shape)) (sym c.in-Many.is) ∙ c.self.view_is in
    let named : named_table c.args.edit.now ≡ Some c.in-Some.number = sym c.named_table.ensures ∙ c.in-Some.is in
    let made : c.in_ok-tables.tables.items ≡ tables_with c.args.edit.now c.split_groups.result.1.now.tables = c.in_ok-tables.ensures ∙ ap (tables_with c.args.edit.now) c.as_slice-own.ensures in
    let full : c.self.inside.len ≡ length (all_rows (joined c.deref.result.now)) = c.self.invariant.count ∙ ap length (c.self.view_is ∙ sym view) in
    let count : c.count_rows.result ≡ length (all_rows c.split_groups.result.1.now.tables) = c.count_rows.ensures ∙ ap (λ (tables : List TableRows). length (all_rows tables)) c.as_slice-own.ensures in
    let count_after : c.count_rows-2.result ≡ length (all_rows c.in_ok-tables.tables.items) = c.count_rows-2.ensures ∙ ap (λ (tables : List TableRows). length (all_rows tables)) c.deref-2.ensures.value in
    let changed : c.self.inside.len - c.count_rows.result + c.count_rows-2.result ≡ length (after_edit c.args.edit.now c.args.self.now) = ap (λ n. n - c.count_rows.result + c.count_rows-2.result) full ∙ count_changed c.deref.result.now c.in-Some.number c.split_groups.result.0.now c.split_groups.result.2.now c.split_groups.result.1.now are c.split_groups.ensures.whole c.split_groups.ensures.lower c.split_groups.ensures.higher c.args.edit.now named c.args.self.now view c.in_ok-tables.tables.items made c.count_rows.result c.count_rows-2.result count count_after in
    let rows : all_rows (joined c.in_ok-groups.groups.items) ≡ after_edit c.args.edit.now c.args.self.now = groups_rows c.deref.result.now c.in-Some.number c.split_groups.result.0.now c.split_groups.result.2.now c.split_groups.result.1.now are c.split_groups.ensures.whole c.split_groups.ensures.lower c.split_groups.ensures.higher c.args.edit.now named c.args.self.now view c.in_ok-tables.tables.items made c.in_ok-of.field-0 c.in_ok-of.ensures.tables c.in_ok-of.ensures.group c.in_ok-groups.groups.items c.in_ok-groups.ensures in
    record {
      tables = (groups_with c.deref.result.now c.in-Some.number c.split_groups.result.0.now c.split_groups.result.2.now c.split_groups.result.1.now are c.split_groups.ensures.whole c.split_groups.ensures.lower c.split_groups.ensures.higher c.args.edit.now named c.args.self.now view c.in_ok-tables.tables.items made c.in_ok-of.field-0 c.in_ok-of.ensures.tables c.in_ok-of.ensures.group c.in_ok-groups.groups.items c.in_ok-groups.ensures, some_groups c.deref.result.now c.in-Some.number c.split_groups.result.0.now c.split_groups.result.2.now c.split_groups.result.1.now are c.split_groups.ensures.whole c.split_groups.ensures.lower c.split_groups.ensures.higher c.args.edit.now named c.args.self.now view c.in_ok-tables.tables.items made c.in_ok-of.field-0 c.in_ok-of.ensures.tables c.in_ok-of.ensures.group c.in_ok-groups.groups.items c.in_ok-groups.ensures);
      count = changed ∙ ap length (sym rows);
      room = subst (λ routes. length routes ≤ MOST_ROUTES) (sym rows) c.requires;
    }

pub returns : goal.returns
returns c =
    let are : AreGroups c.deref.result.now = subst AreGroups (sym c.deref.ensures.value) (subst IsShape c.in-Many.is c.self.invariant.tables).0 in
    let view : all_rows (joined c.deref.result.now) ≡ c.args.self.now = ap (λ groups. all_rows (joined groups)) c.deref.ensures.value ∙ ap (λ shape. all_rows (tables_of shape)) (sym c.in-Many.is) ∙ c.self.view_is in
    let named : named_table c.args.edit.now ≡ Some c.in-Some.number = sym c.named_table.ensures ∙ c.in-Some.is in
    let made : c.in_ok-tables.tables.items ≡ tables_with c.args.edit.now c.split_groups.result.1.now.tables = c.in_ok-tables.ensures ∙ ap (tables_with c.args.edit.now) c.as_slice-own.ensures in
    groups_rows c.deref.result.now c.in-Some.number c.split_groups.result.0.now c.split_groups.result.2.now c.split_groups.result.1.now are c.split_groups.ensures.whole c.split_groups.ensures.lower c.split_groups.ensures.higher c.args.edit.now named c.args.self.now view c.in_ok-tables.tables.items made c.in_ok-of.field-0 c.in_ok-of.ensures.tables c.in_ok-of.ensures.group c.in_ok-groups.groups.items c.in_ok-groups.ensures
