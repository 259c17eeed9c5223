use Rattle.std.proofs.Common.{[], ◌∷◌}
use Rattle.std.specs.List.{AllByRecursion as Each}
use Rattle.prt_store.proofs.Anywhere.{asked_all, finds_as}
use Rattle.prt_store.specs.Shown.{ShowsContents, ShowsNoRow}
use Rattle.prt_store.specs.declared.opening.OurTable.{OurTable}
use Rattle.prt_store.specs.declared.opening.OurTable.TheVariants.{Meta, Route, Rule, Suppress}
use Rattle.prt_store.proofs.opening.are_empty.Goals as goal

pub returns-clause-finds : goal.returns-clause-finds
returns-clause-finds g c =
    let start = c.args.conn.now in
    let none = ShowsNoRow g.S.Store start in
    let contents = ShowsContents g.S.Store start in
    finds_as g.S.Store (Each none (Meta ∷ (Rule ∷ (Route ∷ (Suppress ∷ []))))) ((table : OurTable) → none table) contents start c.have_no_rows.new.conn contents c.have_no_rows.result (asked_all g.S.Store start) (λ some. some) c.have_no_rows.ensures.finds
