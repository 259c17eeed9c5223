-- Numbers that have names: tables, protocols and scopes.
use Rattle.std.specs.Prelude.{ℕ, nat_le, ◌==◌, if◌then◌else◌, List, [], ◌∷◌, Option, Some, None, bytes_eq, codes}
use Rattle.std.specs.Option.{option_or}
use Rattle.prt_addr.specs.Number.{number}
use Rattle.prt_addr.specs.Word.{Word, keep}

abbrev pub local_table : ℕ
local_table = 255

abbrev pub main_table : ℕ
main_table = 254

abbrev pub default_table : ℕ
default_table = 253

abbrev pub boot_protocol : ℕ
boot_protocol = 3

abbrev pub global_scope : ℕ
global_scope = 0

abbrev pub link_scope : ℕ
link_scope = 253

abbrev pub tables : List (Word × ℕ)
tables = (codes "local", local_table) ∷ (codes "main", main_table) ∷ (codes "default", default_table) ∷ []

abbrev pub protocols : List (Word × ℕ)
protocols = (codes "kernel", 2) ∷ (codes "boot", boot_protocol) ∷ (codes "static", 4) ∷ (codes "ra", 9) ∷ (codes "zebra", 11)
    ∷ (codes "bird", 12) ∷ (codes "dhcp", 16) ∷ (codes "bgp", 186) ∷ (codes "isis", 187) ∷ (codes "ospf", 188) ∷ (codes "rip", 189) ∷ []

abbrev pub scopes : List (Word × ℕ)
scopes = (codes "global", global_scope) ∷ (codes "site", 200) ∷ (codes "link", link_scope) ∷ (codes "host", 254) ∷ (codes "nowhere", 255) ∷ []

-- the name of a number in such a list
abbrev pub name_in : List (Word × ℕ) → ℕ → Option Word
name_in [] n = None
name_in (row ∷ rows) n = if row.1 == n then Some row.0 else name_in rows n

-- the number of a name in such a list
abbrev pub number_in : List (Word × ℕ) → Word → Option ℕ
number_in [] w = None
number_in (row ∷ rows) w = if bytes_eq row.0 w then Some row.1 else number_in rows w

-- the number that a word expresses, by one of these names or in digits
abbrev pub spelled_number : List (Word × ℕ) → Word → Option ℕ
spelled_number names w = option_or (number_in names w) (number w)

-- the table that a word expresses: from 1 on
abbrev pub table : Word → Option ℕ
table w = keep (λ n. nat_le 1 n) (spelled_number tables w)

-- the same up to 255
abbrev pub spelled_byte : List (Word × ℕ) → Word → Option ℕ
spelled_byte names w = keep (λ n. nat_le n 255) (spelled_number names w)

abbrev pub protocol : Word → Option ℕ
protocol w = spelled_byte protocols w

abbrev pub scope : Word → Option ℕ
scope w = spelled_byte scopes w
