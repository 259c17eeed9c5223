use Rattle.std.proofs.Common.{◌≡◌, ◌∙◌, ap, subst, sym}
use Rattle.std.proofs.lemmas.Result.{IfOk-weaker}
use Rattle.prt_route.specs.Edit.{after_edit}
use Rattle.prt_version.specs.Groups.{joined}
use Rattle.prt_version.specs.Shape.{IsShape, tables_of}
use Rattle.prt_version.specs.Tables.{AreTables, all_rows, tables_with}
use Rattle.prt_version.proofs.ByTable.{all_rows_with, are_all_with}
use Rattle.prt_version.proofs.tables.Tables.list_with.Goals as goal

pub returns-in-Few-clause-are : goal.returns-in-Few-clause-are
returns-in-Few-clause-are c =
    IfOk-weaker c.tables_with.result (λ tables. tables.items ≡ tables_with c.args.edit.now c.deref.result.now) (λ tables. AreTables tables.items)
    (λ tables made. are_all_with c.args.edit.now c.in-Few.tables.items c.deref.result.now tables.items (subst IsShape c.in-Few.is c.self.invariant.tables) c.deref.ensures.value made) c.tables_with.ensures

pub returns-in-Few-clause-rows : goal.returns-in-Few-clause-rows
returns-in-Few-clause-rows c =
    let view : all_rows c.in-Few.tables.items ≡ c.args.self.now = ap (λ shape. all_rows (tables_of shape)) (sym c.in-Few.is) ∙ c.self.view_is in
    IfOk-weaker c.tables_with.result (λ tables. tables.items ≡ tables_with c.args.edit.now c.deref.result.now) (λ tables. all_rows tables.items ≡ after_edit c.args.edit.now c.args.self.now)
    (λ tables made. all_rows_with c.args.edit.now c.args.self.now c.in-Few.tables.items c.deref.result.now tables.items (subst IsShape c.in-Few.is c.self.invariant.tables) view c.deref.ensures.value made) c.tables_with.ensures

pub returns-in_ok-tables-in-Many-clause-are : goal.returns-in_ok-tables-in-Many-clause-are
returns-in_ok-tables-in-Many-clause-are c =
    let given : c.deref-in-Many-2.result.now ≡ joined c.in-Many.groups.items = c.deref-in-Many-2.ensures.value ∙ c.in_ok-tables-in-Many.ensures ∙ ap joined c.deref-in-Many.ensures.value in
    IfOk-weaker c.tables_with-in-Many.result (λ tables. tables.items ≡ tables_with c.args.edit.now c.deref-in-Many-2.result.now) (λ tables. AreTables tables.items)
    (λ tables made. are_all_with c.args.edit.now (joined c.in-Many.groups.items) c.deref-in-Many-2.result.now tables.items (subst IsShape c.in-Many.is c.self.invariant.tables).0.tables given made) c.tables_with-in-Many.ensures

pub returns-in_ok-tables-in-Many-clause-rows : goal.returns-in_ok-tables-in-Many-clause-rows
returns-in_ok-tables-in-Many-clause-rows c =
    let given : c.deref-in-Many-2.result.now ≡ joined c.in-Many.groups.items = c.deref-in-Many-2.ensures.value ∙ c.in_ok-tables-in-Many.ensures ∙ ap joined c.deref-in-Many.ensures.value in
    let view : all_rows (joined c.in-Many.groups.items) ≡ c.args.self.now = ap (λ shape. all_rows (tables_of shape)) (sym c.in-Many.is) ∙ c.self.view_is in
    IfOk-weaker c.tables_with-in-Many.result (λ tables. tables.items ≡ tables_with c.args.edit.now c.deref-in-Many-2.result.now) (λ tables. all_rows tables.items ≡ after_edit c.args.edit.now c.args.self.now)
    (λ tables made. all_rows_with c.args.edit.now c.args.self.now (joined c.in-Many.groups.items) c.deref-in-Many-2.result.now tables.items (subst IsShape c.in-Many.is c.self.invariant.tables).0.tables view given made) c.tables_with-in-Many.ensures
