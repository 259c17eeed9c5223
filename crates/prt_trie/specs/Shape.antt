-- The routes of a branch.
use Rattle.std.specs.Prelude.{List}
use Rattle.prt_route.specs.declared.route.Route.{Route}
use Rattle.prt_trie.specs.declared.branch.Shape.{Shape}
use Rattle.prt_trie.specs.declared.branch.Shape.TheVariants.{Whole, Split}

abbrev pub rows_of : {P : Type 0} → Shape P → List Route
rows_of (Whole leaf) = leaf
rows_of (Split pieces) = pieces.1
