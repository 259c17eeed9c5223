-- Pieces of a compiled table, each of the addresses of one first octet.
use Rattle.std.specs.Prelude.{ℕ, ◌≡◌, ◌⊎◌, ◌+◌, ◌*◌, ◌<◌, ◌≤◌, false, List, length, slice_index, slice_range, Some}
use Rattle.std.specs.List.{slice_get, Contains}
use Rattle.std.specs.List.Sorted.{IsStrictlyIncreasing}
use Rattle.prt_addr.specs.Block.{Block}
use Rattle.prt_addr.specs.Prefix.{contains}
use Rattle.prt_rule.specs.declared.packet.Packet.{Packet}
use Rattle.prt_version.specs.Select.{select}
use Rattle.prt_version.specs.State.{State}
use Rattle.prt_partition.specs.Cuts.{cuts_of, destination_cuts}
use Rattle.prt_partition.specs.declared.sameness.Outcome.{Outcome}
use Rattle.prt_fib.specs.Fib.{outcome_to}
use Rattle.prt_fib.specs.Places.{AreBlocks, AreStartsFrom, IsCount, IsStart}
use Rattle.prt_fib.specs.declared.piece.Piece.{Piece}

-- its parts fit one another
pub record IsPiece (base : ℕ) (piece : Piece) : Type 0 where
  pub starts : AreStartsFrom base piece.starts.items
  pub same : length piece.numbers.items ≡ length piece.starts.items
  pub blocks : AreBlocks piece.size base piece.starts.items piece.directory.items

-- outcomes of the packet change at starts alone, and each start has the number of the outcome there
pub record AreTold (state : State) (packet : Packet) (outcomes : List Outcome) (base : ℕ) (starts numbers : List ℕ) : Type 0 where
  pub cuts : (cut : ℕ) → Contains (destination_cuts state) cut → base ≤ cut → cut < base + 16777216 → IsStart starts cut
  pub told : (k : ℕ) → k < length starts → slice_get outcomes (slice_index numbers k) ≡ Some (outcome_to state packet (slice_index starts k))

-- the piece is right for the packet in the state
abbrev pub Tells : State → Packet → List Outcome → ℕ → Piece → Type 0
Tells state packet outcomes base piece = AreTold state packet outcomes base piece.starts.items piece.numbers.items

-- there is a piece for each first octet, and each is right
pub record AreFiled (state : State) (packet : Packet) (outcomes : List Outcome) (pieces : List Piece) : Type 0 where
  pub size : length pieces ≡ 256
  pub each : (k : ℕ) (piece : Piece) → slice_get pieces k ≡ Some piece → IsPiece (k * 16777216) piece × Tells state packet outcomes (k * 16777216) piece

-- ---- how they are made

-- all starts of a state: numbers in order, among them each cut and the first address of each first octet
pub record AreAllStarts (state : State) (starts : List ℕ) : Type 0 where
  pub rise : IsStrictlyIncreasing starts
  pub cuts : (cut : ℕ) → Contains (destination_cuts state) cut → Contains starts cut
  pub bases : (k : ℕ) → k < 256 → Contains starts (k * 16777216)

-- the piece has the starts from the base up to the next piece, with their numbers
pub record IsPartOf (starts numbers : List ℕ) (base : ℕ) (piece : Piece) : Type 0 where
  pub low : ℕ
  pub high : ℕ
  pub low_is : IsCount starts base low
  pub high_is : IsCount starts (base + 16777216) high
  pub starts_are : piece.starts.items ≡ slice_range starts low high
  pub numbers_are : piece.numbers.items ≡ slice_range numbers low high
  pub fits : IsPiece base piece

pub record ArePartsOf (starts numbers : List ℕ) (pieces : List Piece) : Type 0 where
  pub size : length pieces ≡ 256
  pub each : (k : ℕ) (piece : Piece) → slice_get pieces k ≡ Some piece → IsPartOf starts numbers (k * 16777216) piece

-- ---- how they follow a change

-- the states differ for packets to the prefix alone, and a cut of the next is one of the state before or of the prefix
pub record IsChangedAt (state next : State) (prefix : Block) : Type 0 where
  pub quiet : (packet : Packet) → contains prefix packet.dst ≡ false → select next packet ≡ select state packet
  pub cuts : (cut : ℕ) → Contains (destination_cuts next) cut → Contains (destination_cuts state) cut ⊎ Contains (cuts_of prefix) cut

-- what had a number keeps it
abbrev pub Keeps : List Outcome → List Outcome → Type 0
Keeps old new = (length old ≤ length new) × ((k : ℕ) → k < length old → slice_get new k ≡ slice_get old k)
