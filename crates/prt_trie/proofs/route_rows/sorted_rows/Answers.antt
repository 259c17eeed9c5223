use Rattle.std.proofs.Common.{◌<◌, ◌^◌, List, subst}
use Rattle.std.specs.Prelude.{IsPermutation}
use Rattle.std.proofs.lemmas.List.Sorted.{All-permutation}
use Rattle.std.proofs.lemmas.Map.Keys.{IsDistinct-IsPermutation}
use Rattle.prt_addr.specs.Sound.{IsPrefix}
use Rattle.prt_route.specs.declared.route.Route.{Route}
use Rattle.prt_trie.specs.Table.{has_same_key}
use Rattle.prt_trie.proofs.Order.{key_both_ways, one_table_moved, sorted_rises}
use Rattle.prt_trie.proofs.route_rows.sorted_rows.Goals as goal

pub returns-clause-table : goal.returns-clause-table
returns-clause-table c =
    let rows : List Route = c.sort_rows.new.rows.items in
    let moved : IsPermutation c.args.given.now rows = subst (λ xs. IsPermutation xs rows) c.in_ok-rows.ensures.items c.sort_rows.ensures.same in
    record {
      one_table = one_table_moved c.args.given.now rows moved c.requires.one_table;
      rising = sorted_rises rows c.sort_rows.ensures.sorted (IsDistinct-IsPermutation has_same_key key_both_ways c.args.given.now rows moved c.requires.distinct);
      prefixes = All-permutation (λ row. IsPrefix row.prefix) c.args.given.now rows moved c.read_all.ensures.prefixes;
      metrics = All-permutation (λ row. row.metric < 2 ^ 32) c.args.given.now rows moved c.read_all.ensures.metrics;
    }
