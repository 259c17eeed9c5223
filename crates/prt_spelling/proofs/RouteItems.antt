-- What the lines of routes say, item by item.
use Rattle.std.proofs.Common.{◌≡◌, ℕ, ◌+◌, ◌^◌, ◌<◌, ◌≤◌, Bool, true, false, List, [], ◌∷◌, ◌++◌, Option, Some, None, Ok, IfSome, is_some, option_map, refl, ap, ◌∙◌, arith, nat_le}
use Rattle.std.specs.Prelude.{codes, decimal, ◌==◌, if◌then◌else◌, unwrap_or}
use Rattle.std.specs.Option.{ok_or, option_or}
use Rattle.std.specs.List.{filter_map}
use Rattle.std.proofs.lemmas.Bool.Decides.{nat_tests}
use Rattle.prt_addr.specs.Addr.{addr_text}
use Rattle.prt_addr.specs.Block.{Block}
use Rattle.prt_addr.specs.Number.{number}
use Rattle.prt_addr.specs.Prefix.{everything, net, prefix, prefix_text}
use Rattle.prt_addr.specs.Sound.{IsPrefix}
use Rattle.prt_addr.specs.Word.{Word, keep}
use Rattle.prt_addr.specs.declared.addr.Addr.{Addr}
use Rattle.prt_refusals.specs.declared.refusal.Refusal.TheVariants.{BadAddress, BadName, BadNumber, BadTable}
use Rattle.prt_route.specs.Dev.{device}
use Rattle.prt_route.specs.Kind.{kind_name}
use Rattle.prt_route.specs.Names.{protocol, protocols, scope, scopes, table, tables}
use Rattle.prt_route.specs.declared.kind.Kind.{Kind}
use Rattle.prt_route.specs.declared.kind.Kind.TheVariants.{Unicast, Blackhole, Unreachable, Prohibit, Throw}
use Rattle.prt_command.specs.Items.{no_items}
use Rattle.prt_command.specs.LineKinds.{LineKind, is_to, route_edit_line, route_edit_words, word_in}
use Rattle.prt_command.specs.Scan.{item_by, item_ends, items_of, plain_by, plain_from, what_follows}
use Rattle.prt_command.specs.Steps.{and_items}
use Rattle.prt_command.specs.Then.{map_ok}
use Rattle.prt_command.specs.Values.{prefix_word}
use Rattle.prt_command.specs.declared.item.Item.TheVariants as item
use Rattle.prt_command.specs.declared.item.Items.{Items}
use Rattle.prt_command.specs.declared.item.ItemWord.TheVariants.{Keyword}
use Rattle.prt_command.specs.declared.item.PrefixWord.TheVariants as before
use Rattle.prt_command.specs.declared.item.Slot.TheVariants.{Destination, Via, Dev, Table, Proto, Scope, Src, Metric}
use Rattle.prt_command.specs.declared.item.Target.{Target}
use Rattle.prt_listing.specs.Parts.{is_everything, part, prefix_or, table_text}
use Rattle.prt_spelling.specs.Fits.{AddrFits}
use Rattle.prt_spelling.specs.Parts.{proto_part, protocol_text, said, scope_part, scope_text}
use Rattle.prt_spelling.specs.Plain.{is_plain_name}
use Rattle.prt_spelling.specs.declared.form.NameForm.{NameForm}
use Rattle.prt_spelling.specs.declared.form.NameForm.TheVariants.{ByName, ByNumber}
use Rattle.prt_spelling.proofs.Digits.{decimal_is, number_back}
use Rattle.prt_spelling.proofs.Letters.{begin_more, digits_begin, no_item, no_kind, no_protocol, no_scope, no_table, no_to}
use Rattle.prt_spelling.proofs.Texts.{IsWord, Reads, ReadsOne, joined, opened_goes, reads_keyword, reads_left_out, reads_shown, word_text}
use Rattle.prt_spelling.proofs.Values.{address_back, address_begins, block_at, net_back, prefix_back, spelled_back}
use Rattle.prt_spelling.proofs.Words.{address_word, both_true, decimal_word, name_facts, named_word, prefix_word as prefix_is_word}

-- ---- what a line says of each part

pub unsaid_back_by : (unsaid n : ℕ) (b : Bool) → (n == unsaid) ≡ b → unwrap_or (if b then None else Some n) unsaid ≡ n
unsaid_back_by unsaid n true is = let e : unsaid ≡ n = grind (arith, nat_tests) in e
unsaid_back_by unsaid n false is = refl

pub unsaid_back : (unsaid n : ℕ) → unwrap_or (said unsaid n) unsaid ≡ n
unsaid_back unsaid n = unsaid_back_by unsaid n (n == unsaid) refl

abbrev pub with_via : Items → Option Addr → Items
with_via given o = record given { via = o }

abbrev pub with_dev : Items → Option Word → Items
with_dev given o = record given { dev = o }

abbrev pub with_table : Items → Option ℕ → Items
with_table given o = record given { table = o }

abbrev pub with_proto : Items → Option ℕ → Items
with_proto given o = record given { proto = o }

abbrev pub with_scope : Items → Option ℕ → Items
with_scope given o = record given { scope = o }

abbrev pub with_src : Items → Option Addr → Items
with_src given o = record given { src = o }

abbrev pub with_metric : Items → Option ℕ → Items
with_metric given o = record given { metric = o }

pub via_reads : (o : Option Addr) (given : Items) → given.via ≡ None → IfSome o AddrFits → ReadsOne route_edit_line 19 given (with_via given o) (part (codes "via") (option_map addr_text o))
via_reads None given new fits = reads_left_out route_edit_line 19 given (with_via given None) (ap (with_via given) new)
via_reads (Some addr) given new fits =
    reads_keyword route_edit_line 3 15 given Via (codes "via") (addr_text addr) (item.Via addr) refl (ap is_some new) (ap (λ o. map_ok item.Via (ok_or o BadAddress)) (address_back addr fits))
    (record { some = omega arith; plain = refl; short = omega arith }) (address_word addr fits)

pub src_reads : (o : Option Addr) (given : Items) → given.src ≡ None → IfSome o AddrFits → ReadsOne route_edit_line 19 given (with_src given o) (part (codes "src") (option_map addr_text o))
src_reads None given new fits = reads_left_out route_edit_line 19 given (with_src given None) (ap (with_src given) new)
src_reads (Some addr) given new fits =
    reads_keyword route_edit_line 3 15 given Src (codes "src") (addr_text addr) (item.Src addr) refl (ap is_some new) (ap (λ o. map_ok item.Src (ok_or o BadAddress)) (address_back addr fits))
    (record { some = omega arith; plain = refl; short = omega arith }) (address_word addr fits)

pub name_read : (w : Word) → is_plain_name (Some w) ≡ true → device w ≡ Some w
name_read w h = let is = (name_facts w h).0 in ap (λ b. if b then Some w else None) is

pub dev_reads : (line : LineKind) → word_in line.entries (codes "dev") ≡ Some (Keyword Dev) → (o : Option Word) (given : Items) → given.dev ≡ None → is_plain_name o ≡ true → ReadsOne line 19 given (with_dev given o) (part (codes "dev") o)
dev_reads line begins None given new plain = reads_left_out line 19 given (with_dev given None) (ap (with_dev given) new)
dev_reads line begins (Some w) given new plain =
    reads_keyword line 3 15 given Dev (codes "dev") w (item.Dev w) begins (ap is_some new) (ap (λ o. map_ok item.Dev (ok_or o BadName)) (name_read w plain))
    (record { some = omega arith; plain = refl; short = omega arith }) (name_facts w plain).1

pub from_one : (n : ℕ) → nat_le 1 n ≡ true → 1 ≤ n
from_one n h = grind (arith, nat_tests, h)

least : (n : ℕ) → 1 ≤ n → nat_le 1 n ≡ true
least n some = grind (arith, nat_tests)

is_byte : (n : ℕ) → n ≤ 255 → nat_le n 255 ≡ true
is_byte n fits = grind (arith, nat_tests)

pub table_back : (n : ℕ) → 1 ≤ n → n < 2 ^ 32 → table (table_text n) ≡ Some n
table_back n some fits =
    ap (keep (λ n. nat_le 1 n)) (spelled_back tables n (refl, (refl, (refl, tt))) (λ b. no_table (decimal n) b) fits)
    ∙ ap (λ b. if b then Some n else None) (least n some)

pub table_by : (n : ℕ) (b : Bool) (given : Items) → given.table ≡ None → 1 ≤ n → n < 2 ^ 32 → ReadsOne route_edit_line 16 given (with_table given (if b then None else Some n)) (part (codes "table") (if b then None else Some (table_text n)))
table_by n true given new some fits = reads_left_out route_edit_line 16 given (with_table given None) (ap (with_table given) new)
table_by n false given new some fits =
    reads_keyword route_edit_line 5 10 given Table (codes "table") (table_text n) (item.Table n) refl (ap is_some new) (ap (λ o. map_ok item.Table (ok_or o BadTable)) (table_back n some fits))
    (record { some = omega arith; plain = refl; short = omega arith }) (named_word tables n refl fits)

pub protocol_back : (form : NameForm) (n : ℕ) → n ≤ 255 → protocol (protocol_text form n) ≡ Some n
protocol_back ByName n fits =
    ap (keep (λ n. nat_le n 255)) (spelled_back protocols n (refl, (refl, (refl, (refl, (refl, (refl, (refl, (refl, (refl, (refl, (refl, tt))))))))))) (λ b. no_protocol (decimal n) b) (omega arith))
    ∙ ap (λ b. if b then Some n else None) (is_byte n fits)
protocol_back ByNumber n fits =
    let is = decimal_is n (omega arith) in
    ap (λ o. keep (λ n. nat_le n 255) (option_or o (number (decimal n)))) (no_protocol (decimal n) (digits_begin (decimal n) is.some is.digits))
    ∙ ap (keep (λ n. nat_le n 255)) (number_back n (omega arith))
    ∙ ap (λ b. if b then Some n else None) (is_byte n fits)

protocol_word : (form : NameForm) (n : ℕ) → n ≤ 255 → IsWord 10 (protocol_text form n)
protocol_word ByName n fits = named_word protocols n refl (omega (arith, fits))
protocol_word ByNumber n fits = named_word [] n refl (omega (arith, fits))

pub proto_reads : (form : NameForm) (line : LineKind) → word_in line.entries (codes "proto") ≡ Some (Keyword Proto) → (o : Option ℕ) (given : Items) → given.proto ≡ None → IfSome o (λ n. n ≤ 255) → ReadsOne line 16 given (with_proto given o) (proto_part form o)
proto_reads form line begins None given new fits = reads_left_out line 16 given (with_proto given None) (ap (with_proto given) new)
proto_reads form line begins (Some n) given new fits =
    reads_keyword line 5 10 given Proto (codes "proto") (protocol_text form n) (item.Proto n) begins (ap is_some new) (ap (λ o. map_ok item.Proto (ok_or o BadNumber)) (protocol_back form n fits))
    (record { some = omega arith; plain = refl; short = omega arith }) (protocol_word form n fits)

pub scope_back : (form : NameForm) (n : ℕ) → n ≤ 255 → scope (scope_text form n) ≡ Some n
scope_back ByName n fits =
    ap (keep (λ n. nat_le n 255)) (spelled_back scopes n (refl, (refl, (refl, (refl, (refl, tt))))) (λ b. no_scope (decimal n) b) (omega arith))
    ∙ ap (λ b. if b then Some n else None) (is_byte n fits)
scope_back ByNumber n fits =
    let is = decimal_is n (omega arith) in
    ap (λ o. keep (λ n. nat_le n 255) (option_or o (number (decimal n)))) (no_scope (decimal n) (digits_begin (decimal n) is.some is.digits))
    ∙ ap (keep (λ n. nat_le n 255)) (number_back n (omega arith))
    ∙ ap (λ b. if b then Some n else None) (is_byte n fits)

scope_word : (form : NameForm) (n : ℕ) → n ≤ 255 → IsWord 10 (scope_text form n)
scope_word ByName n fits = named_word scopes n refl (omega (arith, fits))
scope_word ByNumber n fits = named_word [] n refl (omega (arith, fits))

pub scope_reads : (form : NameForm) (line : LineKind) → word_in line.entries (codes "scope") ≡ Some (Keyword Scope) → (o : Option ℕ) (given : Items) → given.scope ≡ None → IfSome o (λ n. n ≤ 255) → ReadsOne line 16 given (with_scope given o) (scope_part form o)
scope_reads form line begins None given new fits = reads_left_out line 16 given (with_scope given None) (ap (with_scope given) new)
scope_reads form line begins (Some n) given new fits =
    reads_keyword line 5 10 given Scope (codes "scope") (scope_text form n) (item.Scope n) begins (ap is_some new) (ap (λ o. map_ok item.Scope (ok_or o BadNumber)) (scope_back form n fits))
    (record { some = omega arith; plain = refl; short = omega arith }) (scope_word form n fits)

pub metric_reads : (o : Option ℕ) (given : Items) → given.metric ≡ None → IfSome o (λ n. n < 2 ^ 32) → ReadsOne route_edit_line 17 given (with_metric given o) (part (codes "metric") (option_map decimal o))
metric_reads None given new fits = reads_left_out route_edit_line 17 given (with_metric given None) (ap (with_metric given) new)
metric_reads (Some n) given new fits =
    reads_keyword route_edit_line 6 10 given Metric (codes "metric") (decimal n) (item.Metric n) refl (ap is_some new) (ap (λ o. map_ok item.Metric (ok_or o BadNumber)) (number_back n fits))
    (record { some = omega arith; plain = refl; short = omega arith }) (decimal_word 10 n (omega arith) (omega (arith, fits)) (omega (arith, fits)))

-- ---- the kind and the destination

-- The word of a destination.
pub record IsDestination (w : Word) (p : Block) : Type 0 where
  word : IsWord 18 w
  reads : prefix w ≡ Ok p
  no_item : word_in route_edit_words w ≡ None
  no_to : is_to w ≡ false
  no_kind : prefix_word Destination w ≡ None

pub everything_is : (p : Block) → is_everything p ≡ true → everything ≡ p
everything_is p h =
    let each = both_true (p.bits == 0) (p.len == 0) h in
    let bits : 0 ≡ p.bits = grind (arith, nat_tests, each.0) in
    let len : 0 ≡ p.len = grind (arith, nat_tests, each.1) in
    ap (λ bits. block_at bits 0) bits ∙ ap (λ len. block_at p.bits len) len

word_by : (word : Word) (p : Block) (b : Bool) → net word ≡ Some everything → IsWord 18 word → IsPrefix p → is_everything p ≡ b → (net (if b then word else prefix_text p) ≡ Some p) × IsWord 18 (if b then word else prefix_text p)
word_by word p true is shown fits all = (is ∙ ap (λ p. Some p) (everything_is p all), shown)
word_by word p false is shown fits all = (net_back p fits, prefix_is_word p fits)

-- a prefix, if this word is shown for all addresses
pub word_of_block : (word : Word) (p : Block) → net word ≡ Some everything → IsWord 18 word → IsPrefix p → (net (prefix_or word p) ≡ Some p) × IsWord 18 (prefix_or word p)
word_of_block word p is shown fits = word_by word p (is_everything p) is shown fits refl

destination_by : (p : Block) (b : Bool) → IsPrefix p → is_everything p ≡ b → IsDestination (if b then codes "default" else prefix_text p) p
destination_by p true is all = record { word = record { some = omega arith; plain = refl; short = omega arith }; reads = ap (λ p. Ok p) (everything_is p all); no_item = refl; no_to = refl; no_kind = refl }
destination_by p false is all =
    let begun = begin_more _ _ (address_begins (record { 0 = p.bits }) is.fits) in
    record { word = prefix_is_word p is; reads = prefix_back p is; no_item = no_item (prefix_text p) begun; no_to = no_to (prefix_text p) begun; no_kind = no_kind (prefix_text p) begun }

destination_is : (p : Block) → IsPrefix p → IsDestination (prefix_or (codes "default") p) p
destination_is p is = destination_by p (is_everything p) is refl

abbrev pub target_by : Option Kind → Block → Target
target_by kind p = record { kind = kind; prefix = p }

abbrev pub with_target : Option Kind → Block → Items
with_target kind p = record no_items { destination = Some (target_by kind p) }

plain_goes : (w : Word) (p : Block) → IsDestination w p → (rest : List Word) → items_of route_edit_line no_items (w ∷ rest) ≡ items_of route_edit_line (with_target None p) rest
plain_goes w p is rest =
    ap (λ o. and_items route_edit_line no_items (item_by o (Some Destination) no_items w rest) rest) is.no_item
    ∙ ap (λ b. and_items route_edit_line no_items (if b then what_follows false (plain_from Destination no_items) rest else plain_from Destination no_items w rest) rest) is.no_to
    ∙ ap (λ o. and_items route_edit_line no_items (plain_by Destination o no_items w rest) rest) is.no_kind
    ∙ ap (λ r. and_items route_edit_line no_items (item_ends (map_ok item.Destination (map_ok (target_by None) r))) rest) is.reads

kind_goes : (kind : Kind) (w : Word) (p : Block) → word_in route_edit_words (kind_name kind) ≡ None → is_to (kind_name kind) ≡ false → prefix_word Destination (kind_name kind) ≡ Some (before.Kind kind) → IsDestination w p → (rest : List Word) → items_of route_edit_line no_items (kind_name kind ∷ w ∷ rest) ≡ items_of route_edit_line (with_target (Some kind) p) rest
kind_goes kind w p none to names is rest =
    opened_goes route_edit_line no_items Destination (before.Kind kind) (kind_name kind) w (item.Destination (target_by (Some kind) p)) refl none to names refl (ap (λ r. map_ok item.Destination (map_ok (target_by (Some kind)) r)) is.reads) rest

kind_reads : (kind : Kind) (w : Word) (p : Block) (k : ℕ) (last : Items) (parts : List (Option (List ℕ))) → IsWord 11 (kind_name kind) → word_in route_edit_words (kind_name kind) ≡ None → is_to (kind_name kind) ≡ false → prefix_word Destination (kind_name kind) ≡ Some (before.Kind kind) → IsDestination w p → Reads route_edit_line k (with_target (Some kind) p) last parts → Reads route_edit_line (11 + (1 + (18 + (1 + k)))) no_items last (Some (kind_name kind) ∷ Some w ∷ parts)
kind_reads kind w p k last parts word none to names is rest = record {
  ws = kind_name kind ∷ w ∷ rest.ws;
  text = joined 11 (18 + (1 + k)) (kind_name kind) (w ∷ filter_map (λ text. text) parts) (kind_name kind ∷ []) (w ∷ rest.ws) (word_text 11 (kind_name kind) word) (joined 18 k w (filter_map (λ text. text) parts) (w ∷ []) rest.ws (word_text 18 w is.word) rest.text);
  goes = λ others. kind_goes kind w p none to names is (rest.ws ++ others) ∙ rest.goes others;
}

pub destination_reads : (kind : Option Kind) (p : Block) (k : ℕ) (last : Items) (parts : List (Option (List ℕ))) → IsPrefix p → Reads route_edit_line k (with_target kind p) last parts → Reads route_edit_line (11 + (1 + (18 + (1 + k)))) no_items last (option_map kind_name kind ∷ Some (prefix_or (codes "default") p) ∷ parts)
destination_reads None p k last parts is rest =
    let w : Word = prefix_or (codes "default") p in
    let d = destination_is p is in
    (reads_left_out route_edit_line 11 no_items no_items refl).more (18 + (1 + k)) last (Some w ∷ parts)
    ((reads_shown route_edit_line 18 no_items (with_target None p) w (w ∷ []) (word_text 18 w d.word) (plain_goes w p d)).more k last parts rest)
destination_reads (Some Unicast) p k last parts is rest = kind_reads Unicast (prefix_or (codes "default") p) p k last parts (record { some = omega arith; plain = refl; short = omega arith }) refl refl refl (destination_is p is) rest
destination_reads (Some Blackhole) p k last parts is rest = kind_reads Blackhole (prefix_or (codes "default") p) p k last parts (record { some = omega arith; plain = refl; short = omega arith }) refl refl refl (destination_is p is) rest
destination_reads (Some Unreachable) p k last parts is rest = kind_reads Unreachable (prefix_or (codes "default") p) p k last parts (record { some = omega arith; plain = refl; short = omega arith }) refl refl refl (destination_is p is) rest
destination_reads (Some Prohibit) p k last parts is rest = kind_reads Prohibit (prefix_or (codes "default") p) p k last parts (record { some = omega arith; plain = refl; short = omega arith }) refl refl refl (destination_is p is) rest
destination_reads (Some Throw) p k last parts is rest = kind_reads Throw (prefix_or (codes "default") p) p k last parts (record { some = omega arith; plain = refl; short = omega arith }) refl refl refl (destination_is p is) rest
