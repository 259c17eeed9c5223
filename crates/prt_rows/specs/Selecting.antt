-- What is passed of a selector to the statement that deletes routes by it.
use Rattle.std.specs.Prelude.{◌+◌, ◌-◌, ◌^◌, [], ◌∷◌, option_map}
use Rattle.sqlite_value.specs.Order.{Row}
use Rattle.prt_addr.specs.Sound.{IsPrefix}
use Rattle.prt_route.specs.declared.choice.Range.{Range}
use Rattle.prt_route.specs.declared.choice.Range.TheVariants.{All, Root, Covering, Exact}
use Rattle.prt_route.specs.declared.choice.Selector.{Selector}
use Rattle.prt_rows.specs.Cell.{IsOptionalName, number, optional_name, optional_number}
use Rattle.prt_rows.specs.RouteRow.{kind_code}
use Rattle.prt_rows.specs.declared.selector.Bounds.{Bounds}

-- the addresses and the lengths of the prefixes of a range, and an address before the end of each
abbrev pub bounds_of : Range → Bounds
bounds_of All = record { low = 0; high = 2 ^ 32 - 1; shortest = 0; longest = 32; inside = 0 }
bounds_of (Root block) = record { low = block.bits; high = block.bits + (2 ^ (32 - block.len) - 1); shortest = block.len; longest = 32; inside = 0 }
bounds_of (Covering block) = record { low = 0; high = block.bits; shortest = 0; longest = block.len; inside = block.bits }
bounds_of (Exact block) = record { low = block.bits; high = block.bits; shortest = block.len; longest = block.len; inside = 0 }

-- the parameters of the statement
abbrev pub selector_row : Selector → Row
selector_row selector =
    let bounds = bounds_of selector.range in
    optional_number selector.table ∷ number bounds.low ∷ number bounds.high ∷ number bounds.shortest ∷ number bounds.longest ∷ number bounds.inside
    ∷ optional_number (option_map kind_code selector.kind) ∷ optional_number selector.proto ∷ optional_number selector.scope ∷ optional_name selector.dev ∷ []

-- the prefix of the range has no host bits
abbrev pub HasPrefix : Range → Type 0
HasPrefix All = Unit {0}
HasPrefix (Root block) = IsPrefix block
HasPrefix (Covering block) = IsPrefix block
HasPrefix (Exact block) = IsPrefix block

-- what every selector has
pub record IsSelector (selector : Selector) : Type 0 where
  pub range : HasPrefix selector.range
  pub dev : IsOptionalName selector.dev
