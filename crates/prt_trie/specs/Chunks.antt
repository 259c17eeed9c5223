-- The routes of a table in chunks, each with some rows of one prefix.
use Rattle.std.specs.Prelude.{◌≡◌, ◌<◌, Bool, true, nat_lt, List, [], ◌∷◌, length, take}
use Rattle.std.specs.List.{flat_map, AllByRecursion as Each}
use Rattle.prt_addr.specs.Prefix.{is_same_prefix}
use Rattle.prt_route.specs.Route.{key_of, less_then}
use Rattle.prt_route.specs.declared.edit.RouteEdit.{RouteEdit}
use Rattle.prt_route.specs.declared.edit.RouteEdit.TheVariants.{Put, Remove, Flush}
use Rattle.prt_route.specs.declared.route.Route.{Route}
use Rattle.prt_route.specs.declared.route.RouteKey.{RouteKey}
use Rattle.prt_trie.specs.Table.{IsTable}

-- the rows of one chunk after those of the other
abbrev pub rows_of_chunks : List (List Route) → List Route
rows_of_chunks chunks = flat_map (λ rows. rows) chunks

-- the first row of each chunk
abbrev pub heads_of : List (List Route) → List Route
heads_of chunks = flat_map (λ rows. take 1 rows) chunks

-- the rows have the prefix of the head
abbrev pub AreAlike : Route → List Route → Type 0
AreAlike head rows = Each (λ row. is_same_prefix head.prefix row.prefix ≡ true) rows

-- one row or more of one prefix, and no more than a change may copy
abbrev pub IsChunk : List Route → Type 0
IsChunk [] = ⊥
IsChunk (head ∷ rows) = AreAlike head rows × (length rows < 256)

-- the chunks of a table's rows
pub record AreChunks (chunks : List (List Route)) : Type 0 where
  pub table : IsTable (rows_of_chunks chunks)
  pub each : Each IsChunk chunks

-- in the order of listings the key comes before the row
abbrev pub is_key_before : RouteKey → Route → Bool
is_key_before key row = less_then key.table row.table
    (less_then key.prefix.bits row.prefix.bits (less_then key.prefix.len row.prefix.len (nat_lt key.metric row.metric)))

-- it comes after the row
abbrev pub is_key_after : RouteKey → Route → Bool
is_key_after key row = less_then row.table key.table
    (less_then row.prefix.bits key.prefix.bits (less_then row.prefix.len key.prefix.len (nat_lt row.metric key.metric)))

-- the edit is of the route with the key
abbrev pub IsOfKey : RouteKey → RouteEdit → Type 0
IsOfKey key (Put route) = key_of route ≡ key
IsOfKey key (Remove other) = other ≡ key
IsOfKey key (Flush selector) = ⊥
