-- What is in a cell for a value.
use Rattle.std.specs.Prelude.{◌≡◌, ◌≤◌, ℕ, pos, negsuc, Bool, true, false, List, [], ◌∷◌, Option, Some, None, IfSome, option_map}
use Rattle.sqlite_value.specs.declared.value.Value.{Value}
use Rattle.sqlite_value.specs.declared.value.Value.TheVariants.{Int, Text}
use Rattle.prt_addr.specs.Block.{Block}
use Rattle.prt_addr.specs.Word.{Word}
use Rattle.prt_addr.specs.declared.addr.Addr.{Addr}
use Rattle.prt_route.specs.Name.{is_name}

pub record IsWithin (low high n : ℕ) : Type 0 where
  pub least : low ≤ n
  pub most : n ≤ high

-- a number of 32 bits
abbrev pub IsNumber : ℕ → Type 0
IsNumber = IsWithin 0 4294967295

abbrev pub IsByte : ℕ → Type 0
IsByte = IsWithin 0 255

abbrev pub number : ℕ → Value
number n = Int (pos n)

-- -1 if there is none
abbrev pub optional_number : Option ℕ → Value
optional_number None = Int (negsuc 0)
optional_number (Some n) = number n

abbrev pub optional_addr : Option Addr → Value
optional_addr addr = optional_number (option_map (λ addr. addr.0) addr)

abbrev pub IsOptionalAddr : Option Addr → Type 0
IsOptionalAddr addr = IfSome addr (λ addr. IsNumber addr.0)

-- the empty text if there is none
abbrev pub optional_name : Option Word → Value
optional_name None = Text []
optional_name (Some name) = Text name

abbrev pub IsOptionalName : Option Word → Type 0
IsOptionalName name = IfSome name (λ name. is_name name ≡ true)

abbrev pub flag : Bool → Value
flag false = number 0
flag true = number 1

-- the two cells of a prefix
abbrev pub prefix_cells : Block → List Value
prefix_cells block = number block.bits ∷ number block.len ∷ []
