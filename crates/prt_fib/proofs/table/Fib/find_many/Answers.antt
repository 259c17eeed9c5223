use Rattle.std.proofs.Common.{◌++◌, ◌∷◌, [], map, take, Some, sym, ap, ◌∙◌, arith, length-set}
use Rattle.std.specs.List.{slice_get}
use Rattle.std.proofs.lemmas.List.{map_more, take_more_set, map-append}
use Rattle.prt_addr.specs.declared.addr.Addr.{Addr}
use Rattle.prt_fib.specs.Fib.{outcome_to}
use Rattle.prt_fib.proofs.table.Fib.find_many.Goals as goal

pub loop-i-preserved : goal.loop-i-preserved
loop-i-preserved c =
    let table = c.args.self.now in
    let numbers = c.loop-i.numbers in
    let i = c.loop-i.i in
    let destinations = c.args.destinations.now in
    record {
      same = length-set numbers i c.number.result ∙ c.loop-i.invariant.same;
      done = ap (map (slice_get table.outcomes)) (take_more_set numbers i c.number.result (omega (arith, c.loop-i.invariant.same)))
          ∙ map-append (slice_get table.outcomes) (take i numbers) (c.number.result ∷ [])
          ∙ ap (λ os. os ++ slice_get table.outcomes c.number.result ∷ []) c.loop-i.invariant.done
          ∙ ap (λ o. map (λ (dst : Addr). Some (outcome_to table.state table.packet dst.0)) (take i destinations) ++ o ∷ []) c.number.ensures.value
          ∙ sym (map_more (λ (dst : Addr). Some (outcome_to table.state table.packet dst.0)) destinations i _ (omega arith));
    }
