-- Prefixes: reading, matching and text.
use Rattle.std.specs.Prelude.{ℕ, ◌-◌, ◌/◌, ◌^◌, Bool, ◌&&◌, ◌==◌, nat_le, if◌then◌else◌, List, [], ◌∷◌, ◌++◌, Option, Some, None, Result, Ok, Err}
use Rattle.std.specs.Prelude.{option_and_then, option_map, codes, decimal}
use Rattle.prt_addr.specs.Word.{Word, parts_at, is_one_of}
use Rattle.prt_addr.specs.Decimal.{decimal_within}
use Rattle.prt_addr.specs.Addr.{address, addr_text}
use Rattle.prt_addr.specs.Block.{Block, host_bits}
use Rattle.prt_addr.specs.declared.addr.Addr.{Addr}
use Rattle.prt_refusals.specs.declared.refusal.Refusal.{Refusal}
use Rattle.prt_refusals.specs.declared.refusal.Refusal.TheVariants.{BadPrefix, HostBits}

-- Basic Match: the address has the prefix's bits, as far as the prefix's length
abbrev pub contains : Block → Addr → Bool
contains block addr = addr.0 / 2 ^ (32 - block.len) == block.bits / 2 ^ (32 - block.len)

-- the prefix has the other's bits, as far as the other's length, and isn't shorter
abbrev pub within : Block → Block → Bool
within block other = contains other (record { 0 = block.bits }) && nat_le other.len block.len

abbrev pub is_same_prefix : Block → Block → Bool
is_same_prefix a b = a.bits == b.bits && a.len == b.len

-- the same bits without those after the length
abbrev pub masked : Block → Block
masked block = record { bits = block.bits - host_bits block; len = block.len }

-- 0.0.0.0/0, and its words
abbrev pub everything : Block
everything = record { bits = 0; len = 0 }

abbrev pub everything_words : List Word
everything_words = codes "default" ∷ codes "all" ∷ codes "any" ∷ []

-- an address, or an address and a length of one or two digits, 0 to 32
abbrev pub block_of : List Word → Option Block
block_of [] = None
block_of (bits ∷ []) = option_map (λ addr. record { bits = addr.0; len = 32 }) (address bits)
block_of (bits ∷ len ∷ []) = option_and_then (λ addr. option_map (λ n. record { bits = addr.0; len = n }) (decimal_within 2 32 len)) (address bits)
block_of (bits ∷ len ∷ more ∷ others) = None

-- the block that a word expresses, with its host bits
abbrev pub block : Word → Option Block
block w = if is_one_of w everything_words then Some everything else block_of (parts_at 47 w)

-- a block without host bits, or the refusal
abbrev pub without_host_bits : Option Block → Result Block Refusal
without_host_bits None = Err BadPrefix
without_host_bits (Some b) = if host_bits b == 0 then Ok b else Err HostBits

-- the prefix that a word expresses, or the refusal
abbrev pub prefix : Word → Result Block Refusal
prefix w = without_host_bits (block w)

-- the block that a word expresses, host bits cleared
abbrev pub net : Word → Option Block
net w = option_map masked (block w)

-- an address, and its length unless that is 32
abbrev pub prefix_text : Block → List ℕ
prefix_text b = addr_text (record { 0 = b.bits }) ++ (if b.len == 32 then [] else codes "/" ++ decimal b.len)
