-- The routes of a tree.
use Rattle.std.specs.Prelude.{List}
use Rattle.prt_route.specs.declared.route.Route.{Route}
use Rattle.prt_trie.specs.declared.tree.Division.{Division}
use Rattle.prt_trie.specs.declared.tree.Division.TheVariants.{ByOctets, Undivided}

abbrev pub rows_of : Division → List Route
rows_of (Undivided bucket) = bucket
rows_of (ByOctets branch) = branch
