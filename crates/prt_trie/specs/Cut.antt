-- How routes are divided into pieces.
use Rattle.std.specs.Prelude.{ℕ, ◌+◌, ◌/◌, ◌%◌, ◌^◌, nat_lt, if◌then◌else◌}
use Rattle.prt_addr.specs.Block.{Block}
use Rattle.prt_addr.specs.declared.addr.Addr.{Addr}
use Rattle.prt_trie.specs.declared.cut.Cut.{Cut}
use Rattle.prt_trie.specs.declared.cut.Cut.TheVariants.{FirstOctet, SecondOctet, ThirdOctet}

-- the shortest length of the prefixes that have the octet whole
abbrev pub long_of : Cut → ℕ
long_of FirstOctet = 8
long_of SecondOctet = 16
long_of ThirdOctet = 24

-- the octet of an address
abbrev pub octet_of : Cut → ℕ → ℕ
octet_of FirstOctet bits = bits / 2 ^ 24
octet_of SecondOctet bits = bits / 2 ^ 16 % 256
octet_of ThirdOctet bits = bits / 2 ^ 8 % 256

-- the piece of a prefix: 0 if it hasn't the octet whole, otherwise one more than the octet
abbrev pub number_in : Cut → Block → ℕ
number_in cut prefix = if nat_lt prefix.len (long_of cut) then 0 else octet_of cut prefix.bits + 1

-- the piece of the longer prefixes that an address may be in
abbrev pub number_for : Cut → Addr → ℕ
number_for cut addr = octet_of cut addr.0 + 1
