-- Where addresses fall among the starts of ranges.
use Rattle.std.specs.Prelude.{ℕ, ◌≡◌, ◌+◌, ◌*◌, ◌/◌, ◌%◌, ◌<◌, ◌≤◌, List, length, slice_index}
use Rattle.std.specs.List.Sorted.{IsStrictlyIncreasing}
use Rattle.prt_fib.specs.declared.directory.BlockSize.{BlockSize}
use Rattle.prt_fib.specs.declared.directory.BlockSize.TheVariants.{Large, Small}

-- the start at the place is the last one at the number or before it
pub record IsPlace (starts : List ℕ) (n place : ℕ) : Type 0 where
  pub within : place < length starts
  pub from : slice_index starts place ≤ n
  pub to : place + 1 < length starts → n < slice_index starts (place + 1)

-- one of the starts is the number
abbrev pub IsStart : List ℕ → ℕ → Type 0
IsStart starts n = (k : ℕ) × (k < length starts) × (slice_index starts k ≡ n)

-- starts among the 16,777,216 addresses from the base on, of which the base is the first
pub record AreStartsFrom (base : ℕ) (starts : List ℕ) : Type 0 where
  pub rise : IsStrictlyIncreasing starts
  pub some : 0 < length starts
  pub begin : slice_index starts 0 ≡ base
  pub below : (k : ℕ) → k < length starts → slice_index starts k < base + 16777216

-- how many addresses a block has, and how many blocks the addresses of a piece
abbrev pub addresses_of : BlockSize → ℕ
addresses_of Large = 65536
addresses_of Small = 16384

abbrev pub count_of : BlockSize → ℕ
count_of Large = 256
count_of Small = 1024

-- the block of an address in its piece
abbrev pub block_of : BlockSize → ℕ → ℕ
block_of Large addr = addr / 65536 % 256
block_of Small addr = addr / 16384 % 1024

-- the place of the first address of each block, and the last place
pub record AreBlocks (size : BlockSize) (base : ℕ) (starts directory : List ℕ) : Type 0 where
  pub count : length directory ≡ count_of size + 1
  pub places : (block : ℕ) → block ≤ count_of size → IsPlace starts (base + block * addresses_of size) (slice_index directory block)

-- the number at the place of an address
abbrev pub IsNumberAt : List ℕ → List ℕ → ℕ → ℕ → Type 0
IsNumberAt starts numbers n number = (place : ℕ) × IsPlace starts n place × (slice_index numbers place ≡ number)

-- so many of the starts are below the number
pub record IsCount (starts : List ℕ) (n count : ℕ) : Type 0 where
  pub within : count ≤ length starts
  pub below : (k : ℕ) → k < count → slice_index starts k < n
  pub above : (k : ℕ) → count ≤ k → k < length starts → n ≤ slice_index starts k
