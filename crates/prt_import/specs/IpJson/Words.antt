-- The words of a line, and those that `ip` writes for the names in its JSON: ip-route(8), ip-rule(8).
use Rattle.std.specs.Prelude.{ℕ, Bool, not, ◌&&◌, ◌==◌, nat_lt, if◌then◌else◌, List, [], ◌∷◌, ◌++◌, length, Option, Some, None, unwrap_or, bytes_eq, codes}
use Rattle.std.specs.List.{list_all, list_any}
use Rattle.prt_addr.specs.Word.{Word}
use Rattle.prt_import.specs.declared.ip_json.naming.Naming.{Naming}
use Rattle.prt_import.specs.declared.ip_json.naming.Naming.TheVariants.{Rule, Route, Own, Nameless}

-- ---- words

-- no white space and no control byte
abbrev pub is_word_byte : ℕ → Bool
is_word_byte b = nat_lt 32 b && not (b == 127)

abbrev pub is_word : List ℕ → Bool
is_word text = not (length text == 0) && list_all is_word_byte text

-- What is written for a value that no line has: two words, so that one of them is where an item begins. No item begins so, and no
-- destination is read so: a line with them is reported as one that can't be kept.
abbrev pub unsaid : List ℕ
unsaid = codes "{} {}"

-- a text as a word
abbrev pub word : List ℕ → List ℕ
word text = if is_word text then text else unsaid

-- ---- names

-- in these pairs of names and texts, the text of a name
abbrev pub text_in : List (Word × List ℕ) → Word → Option (List ℕ)
text_in [] name = None
text_in (row ∷ rows) name = if bytes_eq row.0 name then Some row.1 else text_in rows name

abbrev pub rule_labels : List (Word × List ℕ)
rule_labels =
    (codes "src", codes " from")
    ∷ (codes "dst", codes " to")
    ∷ (codes "table", codes " lookup")
    ∷ (codes "suppress_prefixlen", codes " suppress_prefixlength")
    ∷ (codes "protocol", codes " proto")
    ∷ (codes "flow_from", codes " realms")
    ∷ (codes "flow_to", codes " realms")
    ∷ (codes "sport_start", codes " sport")
    ∷ (codes "dport_start", codes " dport")
    ∷ (codes "uid_start", codes " uidrange")
    ∷ (codes "nat_gateway", codes " map-to")
    ∷ (codes "action", [])
    ∷ []

-- also those of the next hops and of the metrics of a route
abbrev pub route_labels : List (Word × List ℕ)
route_labels =
    (codes "gateway", codes " via")
    ∷ (codes "protocol", codes " proto")
    ∷ (codes "prefsrc", codes " src")
    ∷ (codes "flow", codes " realms")
    ∷ (codes "flags", [])
    ∷ (codes "metrics", [])
    ∷ (codes "nexthops", [])
    ∷ (codes "congestion", codes " congctl")
    ∷ []

-- the names that are written as themselves, with null
abbrev pub null_labels : List (Word × List ℕ)
null_labels =
    (codes "not", codes " not")
    ∷ (codes "nop", codes " nop")
    ∷ (codes "masquerade", codes " masquerade")
    ∷ (codes "unresolved", codes " [unresolved]")
    ∷ (codes "iif_detached", codes " [detached]")
    ∷ (codes "oif_detached", codes " [detached]")
    ∷ (codes "l3mdev", codes " lookup [l3mdev-table]")
    ∷ (codes "ecn", codes " features ecn")
    ∷ (codes "tcp_usec_ts", codes " tcp_usec_ts")
    ∷ []

-- a name as it is
abbrev pub own_label : Word → List ℕ
own_label name = codes " " ++ word name

-- what is written for a name
abbrev pub label : Naming → Word → List ℕ
label Rule name = unwrap_or (text_in rule_labels name) (own_label name)
label Route name = unwrap_or (text_in route_labels name) (own_label name)
label Own name = own_label name
label Nameless name = []

-- ---- names after names

-- What comes between the value of the first name and that of the second one, if this follows at once.
pub record Joint : Type 0 where
  pub first : Word
  pub second : Word
  pub between : List ℕ

abbrev pub joint : Word → Word → List ℕ → Joint
joint first second between = record { first = first; second = second; between = between }

abbrev pub joints : List Joint
joints =
    joint (codes "type") (codes "dst") (codes " ")
    ∷ joint (codes "src") (codes "srclen") (codes "/")
    ∷ joint (codes "dst") (codes "dstlen") (codes "/")
    ∷ joint (codes "fwmark") (codes "fwmask") (codes "/")
    ∷ joint (codes "flow_from") (codes "flow_to") (codes "/")
    ∷ joint (codes "from") (codes "to") (codes "/")
    ∷ joint (codes "sport_start") (codes "sport_end") (codes "-")
    ∷ joint (codes "dport_start") (codes "dport_end") (codes "-")
    ∷ joint (codes "uid_start") (codes "uid_end") (codes "-")
    ∷ []

abbrev pub between_in : List Joint → Word → Word → Option (List ℕ)
between_in [] first second = None
between_in (j ∷ js) first second = if bytes_eq j.first first && bytes_eq j.second second then Some j.between else between_in js first second

-- ---- objects inside objects

-- how the members are named in the value of a member
abbrev pub inside : Naming → Word → Naming
inside Route name = if bytes_eq (codes "nexthops") name then Route
    else (if bytes_eq (codes "metrics") name then Route
    else (if bytes_eq (codes "via") name then Nameless else (if bytes_eq (codes "flow") name then Nameless else Own)))
inside naming name = Own

-- each next hop has a line
abbrev pub item_start : Naming → Word → List ℕ
item_start Route name = if bytes_eq (codes "nexthops") name then codes "\n\tnexthop" else []
item_start naming name = []

-- an array or an object is known in these members of a route
abbrev pub nesting_names : List Word
nesting_names = codes "flags" ∷ codes "metrics" ∷ codes "nexthops" ∷ codes "via" ∷ codes "flow" ∷ []

-- after any other array or object, what no line has
abbrev pub item_end : Naming → Word → List ℕ
item_end Route name = if list_any (λ known. bytes_eq known name) nesting_names then [] else codes " " ++ unsaid
item_end naming name = codes " " ++ unsaid
