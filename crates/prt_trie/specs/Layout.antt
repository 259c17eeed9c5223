-- The routes of a bucket.
use Rattle.std.specs.Prelude.{List}
use Rattle.prt_route.specs.declared.route.Route.{Route}
use Rattle.prt_trie.specs.declared.bucket.Layout.{Layout}
use Rattle.prt_trie.specs.declared.bucket.Layout.TheVariants.{Few, Many}

abbrev pub rows_of : Layout → List Route
rows_of (Few leaf) = leaf
rows_of (Many chunks) = chunks
