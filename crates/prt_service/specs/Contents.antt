-- How many tables have routes.
use Rattle.std.specs.Prelude.{ℕ, ◌+◌, ◌==◌, Bool, false, cond, List, [], ◌∷◌, Option, Some, None}
use Rattle.prt_route.specs.declared.route.Route.{Route}

-- the table is the one that came last
abbrev pub is_last : Option ℕ → ℕ → Bool
is_last None table = false
is_last (Some last) table = last == table

-- how many tables begin among these routes, after a route of this table
abbrev pub tables_after : Option ℕ → List Route → ℕ
tables_after last [] = 0
tables_after last (route ∷ routes) = cond (is_last last route.table) 0 1 + tables_after (Some route.table) routes

-- how many tables these routes are of, which are listed table by table
abbrev pub tables_of : List Route → ℕ
tables_of = tables_after None
