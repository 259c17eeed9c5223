use Rattle.std.proofs.Common.{inr, sym, ap, subst, ◌∙◌, arith}
use Rattle.sqlite.specs.Effect.{Database}
use Rattle.sqlite.specs.Files.{file_state}
use Rattle.sqlite.specs.State.{HasCleanDisk}
use Rattle.prt_store.specs.Stored.{Stores}
use Rattle.prt_disk_tests.proofs.store.reopening.reopened.Goals as goal

pub returns-in-Ok : goal.returns-in-Ok
returns-in-Ok g c clean stored held =
    let conn = c.in_ok-conn.conn in
    let there = λ (early : HasCleanDisk (file_state conn)). subst (λ (db : Database). Stores db stored) (sym (c.in_ok-conn.ensures early ∙ ap (λ h. (file_state h).committed) c.release.ensures)) held in
    let early : HasCleanDisk (file_state conn) = omega (arith, (c.in-Ok.ensures.survives_ok (λ early. inr (inr (inr (inr (there early).tables))))).clean, clean) in
    c.in-Ok.ensures.stored clean stored (there early)
