-- Texts that are not the listing that is read: parts of one, those of another program or family, and those of options that change it.
use Rattle.std.specs.Prelude.{ℕ, ◌-◌, Bool, true, false, not, ◌&&◌, ◌||◌, ◌==◌, if◌then◌else◌, is_some, List, [], ◌∷◌, length, Option, Some, None}
use Rattle.std.specs.Prelude.{bytes_eq, codes, slice_get}
use Rattle.std.specs.Char.{is_ascii_digit}
use Rattle.std.specs.List.{list_all, list_any}
use Rattle.std.specs.Option.{option_or}
use Rattle.prt_addr.specs.Word.{Word, is_one_of}
use Rattle.prt_command.specs.Reading.{words}
use Rattle.prt_import.specs.Lines.{lines_of}
use Rattle.prt_import.specs.NewLines.{priority_of}
use Rattle.prt_import.specs.Script.{is_rule}
use Rattle.prt_import.specs.Steps.{dropping_types, other_types}
use Rattle.prt_import.specs.declared.known.Object.{Object}
use Rattle.prt_import.specs.declared.known.Object.TheVariants.{Rule, Route}
use Rattle.prt_import.specs.declared.listed.NoListing.{NoListing}
use Rattle.prt_import.specs.declared.listed.NoListing.TheVariants.{Empty, Cut, NoLine, OtherFamily, Numeric, OneLine, Details, Busybox}
use Rattle.prt_import.specs.declared.listed.Feature.{Feature}
use Rattle.prt_import.specs.declared.listed.Feature.TheVariants.{HasWord, Begins, EndsWithSpace, HasProtocol}

-- ---- words

abbrev pub has_colon : Word → Bool
has_colon w = list_any (λ b. b == 58) w

abbrev pub is_number : Word → Bool
is_number w = not (length w == 0) && list_all is_ascii_digit w

-- digits, dots and a slash
abbrev pub is_address_byte : ℕ → Bool
is_address_byte b = is_ascii_digit b || b == 46 || b == 47

abbrev pub is_address : Word → Bool
is_address w = not (length w == 0) && list_all is_address_byte w

-- ---- signs of another form in two words, one after the other

-- numbers that `ip` never prints but with -N: each has a name from the start
abbrev pub numbered_tables : List Word
numbered_tables = codes "253" ∷ codes "254" ∷ codes "255" ∷ []

abbrev pub numbered_scopes : List Word
numbered_scopes = codes "253" ∷ codes "254" ∷ []

abbrev pub numbered_protocols : List Word
numbered_protocols = codes "2" ∷ codes "4" ∷ []

-- protocols that `ip` never prints of a rule but with -d
abbrev pub detailed_protocols : List Word
detailed_protocols = codes "kernel" ∷ codes "unspec" ∷ []

-- preferences, which routes of IPv6 have
abbrev pub preferences : List Word
preferences = codes "low" ∷ codes "medium" ∷ codes "high" ∷ []

abbrev pub rule_sign : Word → Word → Option NoListing
rule_sign before w =
    if bytes_eq (codes "lookup") before && is_one_of w numbered_tables then Some Numeric else
    (if bytes_eq (codes "proto") before && is_one_of w detailed_protocols then Some Details else
    (if (bytes_eq (codes "from") before || bytes_eq (codes "to") before) && has_colon w then Some OtherFamily else None))

abbrev pub is_numeric_item : Word → Word → Bool
is_numeric_item before w =
    (bytes_eq (codes "table") before && is_one_of w numbered_tables)
    || ((bytes_eq (codes "scope") before && is_one_of w numbered_scopes)
    || (bytes_eq (codes "proto") before && is_one_of w numbered_protocols))

abbrev pub route_sign : Word → Word → Option NoListing
route_sign before w =
    if is_numeric_item before w then Some Numeric else
    (if bytes_eq (codes "\\") w && not (bytes_eq (codes "dev") before) then Some OneLine else
    (if (bytes_eq (codes "via") before && has_colon w) || (bytes_eq (codes "pref") before && is_one_of w preferences) then Some OtherFamily else None))

abbrev pub pair_sign : Object → Word → Word → Option NoListing
pair_sign Rule before w = rule_sign before w
pair_sign Route before w = route_sign before w

-- the first sign in these words after this one
abbrev pub sign_after : Object → Word → List Word → Option NoListing
sign_after object before [] = None
sign_after object before (w ∷ ws) = option_or (pair_sign object before w) (sign_after object w ws)

-- ---- lines

-- a number is a type with -N, and `unicast` is printed with -d alone
abbrev pub destination_sign : Word → Option NoListing
destination_sign w =
    if is_number w then Some Numeric else
    (if bytes_eq (codes "unicast") w then Some Details else
    (if has_colon w then Some OtherFamily else None))

abbrev pub line_sign : List Word → Option NoListing
line_sign [] = None
line_sign (w ∷ ws) = if is_some (priority_of w) then sign_after Rule w ws else option_or (destination_sign w) (sign_after Route w ws)

-- the first sign in these lines
abbrev pub lines_sign : List (List ℕ) → Option NoListing
lines_sign [] = None
lines_sign (line ∷ lines) = option_or (line_sign (words line)) (lines_sign lines)

-- ---- what some line of a text has

abbrev pub is_byte : ℕ → Option ℕ → Bool
is_byte b None = false
is_byte b (Some last) = last == b

abbrev pub ends_with : ℕ → List ℕ → Bool
ends_with b text = is_byte b (slice_get text (length text - 1))

abbrev pub begins : List Word → Bool
begins [] = false
begins (w ∷ ws) = is_some (priority_of w) || (is_one_of w dropping_types || (is_one_of w other_types || (bytes_eq (codes "default") w || is_address w)))

abbrev pub has_any_word : List Word → Bool
has_any_word [] = false
has_any_word (w ∷ ws) = true

abbrev pub tells_protocol : Word → Bool
tells_protocol w = bytes_eq (codes "proto") w || bytes_eq (codes "not") w

abbrev pub has : Feature → List ℕ → Bool
has HasWord line = has_any_word (words line)
has Begins line = begins (words line)
has EndsWithSpace line = is_rule (words line) && ends_with 32 line
has HasProtocol line = list_any tells_protocol (words line)

abbrev pub any_has : Feature → List (List ℕ) → Bool
any_has property lines = list_any (has property) lines

-- a rule's line with a space at its end, and neither `not` nor `proto` anywhere
abbrev pub is_busybox : List (List ℕ) → Bool
is_busybox lines = any_has EndsWithSpace lines && not (any_has HasProtocol lines)

-- ---- texts

-- by the form of its lines
abbrev pub form_fault : List (List ℕ) → Option NoListing
form_fault lines = if is_busybox lines then Some Busybox else (if any_has Begins lines then None else Some NoLine)

abbrev pub listing_fault : List ℕ → Option NoListing
listing_fault text =
    if not (any_has HasWord (lines_of text)) then Some Empty else
    (if not (ends_with 10 text) then Some Cut else
    option_or (lines_sign (lines_of text)) (form_fault (lines_of text)))
