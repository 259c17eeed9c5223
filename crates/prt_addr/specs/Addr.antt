-- IPv4 addresses in dotted decimal notation.
use Rattle.std.specs.Prelude.{ℕ, ◌+◌, ◌*◌, ◌/◌, ◌%◌, ◌^◌, nat_le, List, ◌++◌, length, map, slice_index, Option, option_map, codes, decimal}
use Rattle.prt_addr.specs.Word.{Word, parts_at, keep, all_of}
use Rattle.prt_addr.specs.Decimal.{decimal_within}
use Rattle.prt_addr.specs.declared.addr.Addr.{Addr}

-- a part of an address: one to three digits, 0 to 255
abbrev pub octet : Word → Option ℕ
octet part = decimal_within 3 255 part

-- the address of these octets from the left on; missing ones are 0
abbrev pub address_of : List ℕ → Addr
address_of octets = record { 0 = slice_index octets 0 * 2 ^ 24 + slice_index octets 1 * 2 ^ 16 + slice_index octets 2 * 2 ^ 8 + slice_index octets 3 }

-- the octets that the dotted parts of a word express: one to four
abbrev pub octets_of : Word → Option (List ℕ)
octets_of w = keep (λ octets. nat_le (length octets) 4) (all_of (map octet (parts_at 46 w)))

-- the address that a word expresses
abbrev pub address : Word → Option Addr
address w = option_map address_of (octets_of w)

-- four parts with dots between them
abbrev pub addr_text : Addr → List ℕ
addr_text addr = decimal (addr.0 / 2 ^ 24) ++ codes "." ++ decimal (addr.0 / 2 ^ 16 % 256) ++ codes "." ++ decimal (addr.0 / 2 ^ 8 % 256)
    ++ codes "." ++ decimal (addr.0 % 256)
