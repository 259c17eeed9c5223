-- The places and numbers that words name.
use Rattle.std.specs.Prelude.{◌≡◌, ◌==◌, ◌&&◌, ◌||◌, ℕ, nat_le, Bool, true, false, Option, Some, is_some, option_and_then, option_map}
use Rattle.std.specs.List.{after_first, before_first, list_any}
use Rattle.std.specs.Net.Addr.{ipv4_bits}
use Rattle.std.specs.Net.Socket.{v4_ip, v4_port}
use Rattle.std.specs.declared.net.socket_addr.SocketAddrV4.{SocketAddrV4}
use Rattle.prt_addr.specs.Addr.{address}
use Rattle.prt_addr.specs.Decimal.{decimal_value}
use Rattle.prt_addr.specs.Word.{Word, keep}
use Rattle.prt_addr.specs.declared.addr.Addr.{Addr}
use Rattle.prt_args.specs.declared.server_place.ServerPlace.{ServerPlace}
use Rattle.prt_args.specs.declared.server_place.ServerPlace.TheVariants.{Address, Folder}

-- `:` (58) and `/` (47)
abbrev pub is_colon : ℕ → Bool
is_colon byte = byte == 58

abbrev pub is_slash : ℕ → Bool
is_slash byte = byte == 47

-- the number that decimal digits express, if it is within these limits
abbrev pub number_within : (least most : ℕ) → Word → Option ℕ
number_within least most word = keep (λ number. nat_le least number && nat_le number most) (decimal_value word)

abbrev pub port : Word → Option ℕ
port = number_within 0 65535

-- an address as in a command, `:` and a port
abbrev pub address_and_port : Word → Option (Addr × ℕ)
address_and_port word = option_and_then (λ address. option_map (λ port. (address, port)) (port (after_first is_colon word)))
    (address (before_first is_colon word))

-- the address and the port of a place
abbrev pub ends_of : SocketAddrV4 → Addr × ℕ
ends_of place = (record { 0 = ipv4_bits (v4_ip place) }, v4_port place)

-- the word has a `/`
abbrev pub is_folder : Word → Bool
is_folder word = list_any is_slash word

-- a word with a `/` names a folder, any other one an address and a port
abbrev pub IsPlace : Word → ServerPlace → Type 0
IsPlace word (Folder path) = (is_folder word ≡ true) × (path.now ≡ word)
IsPlace word (Address place) = (is_folder word ≡ false) × (address_and_port word ≡ Some (ends_of place))

-- the word names a place
abbrev pub names_place : Word → Bool
names_place word = is_folder word || is_some (address_and_port word)
