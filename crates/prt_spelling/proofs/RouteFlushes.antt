-- The line of routes to be flushed asks for that.
use Rattle.std.proofs.Common.{◌≡◌, ℕ, ◌^◌, ◌<◌, ◌≤◌, Bool, true, false, not, [], ◌∷◌, Option, Some, None, Ok, IfSome, is_some, option_map, refl, ap, ◌∙◌, arith}
use Rattle.std.specs.Prelude.{bytes_eq, codes, decimal, ◌||◌, if◌then◌else◌, unwrap_or}
use Rattle.std.specs.Option.{ok_or}
use Rattle.prt_addr.specs.Block.{Block}
use Rattle.prt_addr.specs.Sound.{IsPrefix}
use Rattle.prt_addr.specs.Word.{Word}
use Rattle.prt_refusals.specs.declared.refusal.Refusal.TheVariants.{BadPrefix, BadTable, TooBroad, UnknownWord}
use Rattle.prt_route.specs.Kind.{kind_name}
use Rattle.prt_route.specs.Names.{name_in, table, tables}
use Rattle.prt_route.specs.declared.choice.Range as ranges
use Rattle.prt_route.specs.declared.choice.Range.TheVariants.{All, Root, Covering, Exact}
use Rattle.prt_route.specs.declared.choice.Selector.{Selector}
use Rattle.prt_route.specs.declared.kind.Kind.{Kind}
use Rattle.prt_route.specs.declared.kind.Kind.TheVariants.{Unicast, Blackhole, Unreachable, Prohibit, Throw}
use Rattle.prt_command.specs.Items.{no_items}
use Rattle.prt_command.specs.LineKinds.{is_to, route_list_line, route_list_words, word_in}
use Rattle.prt_command.specs.Requests.{refuse_if, route_flush_request, selected_table, selector_of}
use Rattle.prt_command.specs.Then.{◌>>=◌, map_ok}
use Rattle.prt_command.specs.Values.{kind_of, prefix_word, range_by, which_tables}
use Rattle.prt_command.specs.declared.item.Item.TheVariants as item
use Rattle.prt_command.specs.declared.item.Items.{Items}
use Rattle.prt_command.specs.declared.item.PrefixWord.{PrefixWord}
use Rattle.prt_command.specs.declared.item.PrefixWord.TheVariants as before
use Rattle.prt_command.specs.declared.item.Slot.TheVariants.{OfKind, Range, Tables}
use Rattle.prt_command.specs.declared.item.WhichTables.{WhichTables}
use Rattle.prt_command.specs.declared.item.WhichTables.TheVariants as which
use Rattle.prt_command.specs.declared.request.Command.TheVariants as commands
use Rattle.prt_command.specs.declared.request.Request.TheVariants as requests
use Rattle.prt_listing.specs.Parts.{part, prefix_or, spaced, table_text}
use Rattle.prt_spelling.specs.Fits.{RangeFits, SelectorFits}
use Rattle.prt_spelling.specs.Parts.{range_part, ranged, selector_parts, tables_text}
use Rattle.prt_spelling.specs.Plain.{is_plain_name}
use Rattle.prt_spelling.specs.Spelled.{is_from_one, is_spelled_selector}
use Rattle.prt_spelling.specs.declared.form.NameForm.{NameForm}
use Rattle.prt_spelling.proofs.Digits.{decimal_is}
use Rattle.prt_spelling.proofs.Letters.{digits_begin, no_all}
use Rattle.prt_spelling.proofs.Reading.{IsReadAs, read_by_parts}
use Rattle.prt_spelling.proofs.Texts.{IsWord, Reads, ReadsOne, opened_goes, reads_keyword, reads_left_out, reads_none, reads_two}
use Rattle.prt_spelling.proofs.RouteItems.{dev_reads, from_one, proto_reads, scope_reads, table_back, with_proto, with_scope, word_of_block}
use Rattle.prt_spelling.proofs.Words.{both_true, name_passes, named_word}

abbrev with_range : Items → Option ranges.Range → Items
with_range given o = record given { range = o }

abbrev with_tables : Items → Option WhichTables → Items
with_tables given o = record given { tables = o }

abbrev with_kind : Items → Option Kind → Items
with_kind given o = record given { of_kind = o }

-- ---- the range

abbrev said_range : ranges.Range → Option ranges.Range
said_range All = None
said_range range = Some range

ranged_reads : (w : Word) (b : PrefixWord) (range : ranges.Range) (p : Block) → word_in route_list_words w ≡ None → is_to w ≡ false → prefix_word Range w ≡ Some b → range_by (Some b) p ≡ range → IsWord 5 w → IsPrefix p → ReadsOne route_list_line 24 no_items (with_range no_items (Some range)) (ranged w p)
ranged_reads w b range p none to names is word fits =
    let block = word_of_block (codes "default") p refl (record { some = omega arith; plain = refl; short = omega arith }) fits in
    let v : Word = prefix_or (codes "default") p in
    reads_two route_list_line 5 18 no_items (with_range no_items (Some range)) w v word block.1
    (opened_goes route_list_line no_items Range b w v (item.Range range) refl none to names refl (ap (λ o. map_ok item.Range (map_ok (range_by (Some b)) (ok_or o BadPrefix))) block.0 ∙ ap (λ range. Ok (item.Range range)) is))

range_reads : (range : ranges.Range) → RangeFits range → ReadsOne route_list_line 24 no_items (with_range no_items (said_range range)) (range_part range)
range_reads All fits = reads_left_out route_list_line 24 no_items no_items refl
range_reads (Root p) fits = ranged_reads (codes "root") before.Root (Root p) p refl refl refl refl (record { some = omega arith; plain = refl; short = omega arith }) fits
range_reads (Covering p) fits = ranged_reads (codes "match") before.Match (Covering p) p refl refl refl refl (record { some = omega arith; plain = refl; short = omega arith }) fits
range_reads (Exact p) fits = ranged_reads (codes "exact") before.Exact (Exact p) p refl refl refl refl (record { some = omega arith; plain = refl; short = omega arith }) fits

-- ---- the table

abbrev not_all : Word → Bool
not_all w = not (bytes_eq (codes "all") w)

is_not : (b : Bool) → not b ≡ true → b ≡ false
is_not true h = absurd cc
is_not false h = refl

one_table_by : (n : ℕ) (o : Option Word) → name_in tables n ≡ o → n < 2 ^ 32 → bytes_eq (codes "all") (unwrap_or o (decimal n)) ≡ false
one_table_by n (Some v) is fits = is_not (bytes_eq (codes "all") v) (name_passes not_all tables n v refl is)
one_table_by n None is fits = let digits = decimal_is n (omega arith) in no_all (decimal n) (digits_begin (decimal n) digits.some digits.digits)

which_back : (n : ℕ) → 1 ≤ n → n < 2 ^ 32 → which_tables (table_text n) ≡ Ok (which.One n)
which_back n some fits =
    ap (λ b. if b then Ok which.All else map_ok which.One (ok_or (table (table_text n)) BadTable)) (one_table_by n (name_in tables n) refl fits)
    ∙ ap (λ o. map_ok which.One (ok_or o BadTable)) (table_back n some fits)

abbrev which_of : Option ℕ → WhichTables
which_of None = which.All
which_of (Some n) = which.One n

tables_read : (o : Option ℕ) (given : Items) → given.tables ≡ None → is_from_one o ≡ true → IfSome o (λ n. n < 2 ^ 32) → ReadsOne route_list_line 16 given (with_tables given (Some (which_of o))) (part (codes "table") (Some (tables_text o)))
tables_read None given new some fits =
    reads_keyword route_list_line 5 10 given Tables (codes "table") (codes "all") (item.Tables which.All) refl (ap is_some new) refl
    (record { some = omega arith; plain = refl; short = omega arith }) (record { some = omega arith; plain = refl; short = omega arith })
tables_read (Some n) given new some fits =
    reads_keyword route_list_line 5 10 given Tables (codes "table") (table_text n) (item.Tables (which.One n)) refl (ap is_some new) (ap (map_ok item.Tables) (which_back n (from_one n some) fits))
    (record { some = omega arith; plain = refl; short = omega arith }) (named_word tables n refl fits)

-- ---- the kind

type_reads_by : (kind : Kind) (given : Items) → given.of_kind ≡ None → kind_of (kind_name kind) ≡ Some kind → IsWord 11 (kind_name kind) → ReadsOne route_list_line 16 given (with_kind given (Some kind)) (part (codes "type") (Some (kind_name kind)))
type_reads_by kind given new is word =
    reads_keyword route_list_line 4 11 given OfKind (codes "type") (kind_name kind) (item.OfKind kind) refl (ap is_some new) (ap (λ o. map_ok item.OfKind (ok_or o UnknownWord)) is)
    (record { some = omega arith; plain = refl; short = omega arith }) word

type_reads : (o : Option Kind) (given : Items) → given.of_kind ≡ None → ReadsOne route_list_line 16 given (with_kind given o) (part (codes "type") (option_map kind_name o))
type_reads None given new = reads_left_out route_list_line 16 given (with_kind given None) (ap (with_kind given) new)
type_reads (Some Unicast) given new = type_reads_by Unicast given new refl (record { some = omega arith; plain = refl; short = omega arith })
type_reads (Some Blackhole) given new = type_reads_by Blackhole given new refl (record { some = omega arith; plain = refl; short = omega arith })
type_reads (Some Unreachable) given new = type_reads_by Unreachable given new refl (record { some = omega arith; plain = refl; short = omega arith })
type_reads (Some Prohibit) given new = type_reads_by Prohibit given new refl (record { some = omega arith; plain = refl; short = omega arith })
type_reads (Some Throw) given new = type_reads_by Throw given new refl (record { some = omega arith; plain = refl; short = omega arith })

-- ---- all parts, and what they ask for

-- what the line says
abbrev selector_items : Selector → Items
selector_items selector = record no_items {
  range = said_range selector.range;
  tables = Some (which_of selector.table);
  of_kind = selector.kind;
  proto = selector.proto;
  scope = selector.scope;
  dev = selector.dev;
}

selector_reads : (form : NameForm) (selector : Selector) → SelectorFits selector → is_from_one selector.table ≡ true → is_plain_name selector.dev ≡ true → Reads route_list_line 113 no_items (selector_items selector) (selector_parts form selector)
selector_reads form selector fits some plain =
    let last : Items = selector_items selector in
    let g1 : Items = with_range no_items (said_range selector.range) in
    let g2 : Items = with_tables g1 (Some (which_of selector.table)) in
    let g3 : Items = with_kind g2 selector.kind in
    let g4 : Items = with_proto g3 selector.proto in
    let g5 : Items = with_scope g4 selector.scope in
    (range_reads selector.range fits.range).more 88 last _
    ((tables_read selector.table g1 refl some fits.table).more 71 last _
    ((type_reads selector.kind g2 refl).more 54 last _
    ((proto_reads form route_list_line refl selector.proto g3 refl fits.proto).more 37 last _
    ((scope_reads form route_list_line refl selector.scope g4 refl fits.scope).more 20 last _
    ((dev_reads route_list_line refl selector.dev g5 refl plain).more 0 last []
    (reads_none route_list_line last))))))

-- a table is given
some_given : (a b c d : Bool) → not (a || (b || (c || (d || true)))) ≡ false
some_given true b c d = refl
some_given false true c d = refl
some_given false false true d = refl
some_given false false false true = refl
some_given false false false false = refl

table_back_of : (o : Option ℕ) → selected_table (Some (which_of o)) ≡ o
table_back_of None = refl
table_back_of (Some n) = refl

range_back : (range : ranges.Range) → unwrap_or (said_range range) All ≡ range
range_back All = refl
range_back (Root p) = refl
range_back (Covering p) = refl
range_back (Exact p) = refl

abbrev selected : Option ℕ → ranges.Range → Selector → Selector
selected table range selector = record selector { table = table; range = range }

selector_asks : (selector : Selector) → route_flush_request (selector_items selector) ≡ Ok (requests.Command (commands.RouteFlush selector))
selector_asks selector =
    ap (λ b. refuse_if b TooBroad >>= λ _. Ok (requests.Command (commands.RouteFlush (selector_of (selector_items selector))))) (some_given (is_some selector.dev) (is_some selector.proto) (is_some selector.scope) (is_some (said_range selector.range)))
    ∙ ap (λ table. Ok (requests.Command (commands.RouteFlush (selected table (unwrap_or (said_range selector.range) All) selector)))) (table_back_of selector.table)
    ∙ ap (λ range. Ok (requests.Command (commands.RouteFlush (selected selector.table range selector)))) (range_back selector.range)

-- the line of routes to be flushed
pub selector_read : (form : NameForm) (selector : Selector) → SelectorFits selector → is_spelled_selector selector ≡ true → IsReadAs (spaced (Some (codes "route flush") ∷ selector_parts form selector)) (commands.RouteFlush selector)
selector_read form selector fits spelled =
    let each = both_true (is_from_one selector.table) (is_plain_name selector.dev) spelled in
    read_by_parts (codes "route flush") (codes "route") (codes "flush") route_list_line route_flush_request 11 113 (selector_items selector) (selector_parts form selector) (commands.RouteFlush selector)
    (record { words = refl; plain = refl; short = omega arith }) (λ ws. refl)
    (selector_reads form selector fits each.0 each.1) (omega arith) (selector_asks selector)
