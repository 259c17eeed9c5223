-- What the steps of reading a prefix return.
use Rattle.std.specs.Prelude.{ℕ, List, [], Option, Some, None}
use Rattle.prt_addr.specs.Block.{Block}
use Rattle.prt_addr.specs.Word.{Word, parts_at}
use Rattle.prt_addr.specs.declared.addr.Addr.{Addr}

-- the parts of what comes after a separator; none if there is no separator
abbrev pub parts_of_rest : ℕ → Option Word → List Word
parts_of_rest separator None = []
parts_of_rest separator (Some w) = parts_at separator w

-- an address and a length as a block
abbrev pub block_from : Addr × ℕ → Block
block_from x = record { bits = x.0.0; len = x.1 }
