-- The words for the kinds of routes.
use Rattle.std.specs.Prelude.{ℕ, List, codes}
use Rattle.prt_route.specs.declared.kind.Kind.{Kind}
use Rattle.prt_route.specs.declared.kind.Kind.TheVariants.{Unicast, Blackhole, Unreachable, Prohibit, Throw}

abbrev pub kind_name : Kind → List ℕ
kind_name Unicast = codes "unicast"
kind_name Blackhole = codes "blackhole"
kind_name Unreachable = codes "unreachable"
kind_name Prohibit = codes "prohibit"
kind_name Throw = codes "throw"
