-- Names of tables and of routing protocols: what the files of /etc/iproute2 say.
use Rattle.std.specs.Prelude.{ℕ, List, [], ◌∷◌, map, flat_map, Option, Some, None, Result, Ok, Err}
use Rattle.prt_addr.specs.Number.{number}
use Rattle.prt_addr.specs.Word.{Word}
use Rattle.prt_command.specs.Reading.{line_words}
use Rattle.prt_refusals.specs.declared.refusal.Refusal.{Refusal}
use Rattle.prt_import.specs.Lines.{lines_of}
use Rattle.prt_import.specs.declared.names.HostNames.{HostNames}
use Rattle.prt_import.specs.declared.names.Names.{Names}

abbrev pub TableNames : Type 0
TableNames = List (Word × ℕ)

-- the name and the number of each
abbrev pub names_of : Names → TableNames
names_of names = map (λ entry. (entry.name.items, entry.number)) names.entries.items

-- The names that a host has for tables, and those for routing protocols.
pub record KnownNames : Type 0 where
  pub tables : TableNames
  pub protocols : TableNames

abbrev pub known_names : HostNames → KnownNames
known_names names = record { tables = names_of names.tables; protocols = names_of names.protocols }

abbrev pub named : Word → Option ℕ → TableNames
named w None = []
named w (Some n) = (w, n) ∷ []

-- a line that is a number and a name; any other says nothing
abbrev pub entry_of : Result (List Word) Refusal → TableNames
entry_of (Ok (n ∷ (w ∷ ws))) = named w (number n)
entry_of (Ok (n ∷ [])) = []
entry_of (Ok []) = []
entry_of (Err e) = []

-- the names that a file has
abbrev pub file_names : List ℕ → TableNames
file_names text = flat_map (λ line. entry_of (line_words line)) (lines_of text)
