use Rattle.std.proofs.Common.{rules}
use Rattle.std.proofs.lemmas.List.Sorted.{answers_always}
use Rattle.prt_version.specs.Tables.{TableRows}
use Rattle.prt_version.proofs.ByTable.{found_rows, missing_rows}
use Rattle.prt_version.proofs.shared_table.find_table.Goals as goal

pub returns-in-Ok : goal.returns-in-Ok
returns-in-Ok c =
    found_rows _ _ c.in-Ok.place c.index-tables-place.result c.requires c.in-Ok.ensures.bound c.index-tables-place.is
    (c.in-Ok.ensures.position (λ (table : TableRows). table.number) (answers_always _ _ _ (λ f a r g h. search rules)) c.index-tables-place.result)

pub returns-in-Err : goal.returns-in-Err
returns-in-Err c = missing_rows _ _ c.in-Err.field-0 c.requires (c.in-Err.ensures.position (λ (table : TableRows). table.number) (answers_always _ _ _ (λ f a r g h. search rules)))
