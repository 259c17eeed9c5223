-- What a line asks for is storable.
use Rattle.std.proofs.Common.{◌≡◌, ◌≤◌, ◌<◌, ◌^◌, ℕ, zero, List, [], ◌∷◌, Bool, true, false, Option, Some, None, is_some, drop, IfSome, IfOk, IfErr, IsTrue, rules, Result, Ok, Err, refl, sym, ap, subst, arith}
use Rattle.std.proofs.lemmas.Bool.{and_from, and_parts, leb-true}
use Rattle.std.proofs.lemmas.Bool.Decides.{nat_tests}
use Rattle.std.specs.Prelude.{◌&&◌, ◌||◌, ◌==◌, not, nat_le, nat_lt, is_none, if◌then◌else◌, bytes_eq, codes, unwrap_or}
use Rattle.std.specs.Option.{ok_or, option_or}
use Rattle.prt_addr.specs.Block.{Block}
use Rattle.prt_addr.specs.Decimal.{decimal_value}
use Rattle.prt_addr.specs.Number.{begins_hex, hex_value, number}
use Rattle.prt_refusals.specs.Refusal.{code_of}
use Rattle.prt_addr.specs.Word.{Word, is_one_of, keep}
use Rattle.prt_addr.specs.declared.addr.Addr.{Addr}
use Rattle.prt_refusals.specs.declared.refusal.Refusal.{Refusal}
use Rattle.prt_refusals.specs.declared.refusal.Refusal.TheVariants.{UnknownObject, UnknownVerb, MissingDestination, NoNextHop, NextHopNotAllowed, SuppressNotAllowed, TooBroad, BadTable}
use Rattle.prt_route.specs.Names.{default_table, local_table, main_table, number_in, spelled_number, table, tables}
use Rattle.prt_route.specs.Storable.{is_storable_route, suits}
use Rattle.prt_route.specs.declared.kind.Kind.{Kind}
use Rattle.prt_route.specs.declared.kind.Kind.TheVariants.{Unicast, Blackhole, Unreachable, Prohibit, Throw}
use Rattle.prt_route.specs.declared.route.Route.{Route}
use Rattle.prt_rule.specs.declared.rule.Action as rule
use Rattle.prt_rule.specs.declared.rule.Action.TheVariants.{Lookup}
use Rattle.prt_command.specs.Grammar.{ItemPlace, start, IsItem, alone, valued, followed, AreItems, none, more, put_all}
use Rattle.prt_command.specs.LineKinds.{Entry, LineKind, word_in}
use Rattle.prt_command.specs.Items.{no_items, put, is_empty}
use Rattle.prt_command.specs.Reading.{items_request, lone_verb, meaning_of, object_of, object_request, skip_word, verb_of, verb_request, words_request}
use Rattle.prt_command.specs.Requests.{has_next_hop, is_lookup, is_unicast, new_route, refuse_if, route_by, route_of, route_request, selector_of, rule_choice, rule_of, suppresses_without_lookup, unless_empty}
use Rattle.prt_command.specs.Scan.{items_of}
use Rattle.prt_rule.specs.Storable.{is_length, is_storable_rule}
use Rattle.prt_command.specs.Storable.{IsStorable, IsStorableRequest, IsStorableLine}
use Rattle.prt_command.specs.Then.{◌>>=◌, map_ok}
use Rattle.prt_command.specs.Values.{value}
use Rattle.prt_command.specs.declared.item.Item.{Item}
use Rattle.prt_command.specs.declared.item.Item.TheVariants as item
use Rattle.prt_command.specs.declared.item.ItemWord.{ItemWord}
use Rattle.prt_command.specs.declared.item.ItemWord.TheVariants.{Keyword, Alone}
use Rattle.prt_command.specs.declared.item.Items.{Items}
use Rattle.prt_command.specs.declared.item.PrefixWord.{PrefixWord}
use Rattle.prt_command.specs.declared.item.Slot.{Slot}
use Rattle.prt_command.specs.declared.item.Slot.TheVariants.{Destination, Via, Dev, Table, Proto, Scope, Src, Metric, Range, Tables, OfKind, Address, Source, Iif, Mark, Inverted, From, To, Fwmark, Priority, Action, Suppress}
use Rattle.prt_command.specs.declared.request.Command.{Command}
use Rattle.prt_command.specs.declared.request.Command.TheVariants as commands
use Rattle.prt_command.specs.declared.request.Request.{Request}
use Rattle.prt_command.specs.declared.verb.Object.{Object}
use Rattle.prt_command.specs.declared.verb.ObjectVerb.{ObjectVerb}
use Rattle.prt_command.specs.declared.verb.ObjectVerb.TheVariants.{RouteAdd, RouteChange, RouteReplace, RouteDel, RouteFlush, RouteShow, RouteGet, RuleAdd, RuleDel, RuleFlush, RuleShow}
use Rattle.prt_command.proofs.Faults.{Fine, fault_fine, fine_err, fine_ok}
use Rattle.prt_command.proofs.GrammarLaws.{fault, good_of_items}
use Rattle.prt_command.proofs.Results.{ok_result, err_result, ok_inj, some_inj}
use Rattle.prt_command.proofs.Values.{map_ok_all}

-- ---- the number of a table

-- The number of a table of which a row may be put.
pub record IsTable (table : ℕ) : Type 0 where
  pub from : 1 ≤ table
  pub fits : table < 2 ^ 32

keep_by : {X : Type 0} (test : X → Bool) (y x : X) (b : Bool) → test y ≡ b → (if b then Some y else None) ≡ Some x → test x ≡ true
keep_by test y x true e h = subst (λ z. test z ≡ true) (some_inj y x h) e
keep_by test y x false e h = absurd cc

-- what is kept passes the test
keep_passes : {X : Type 0} (test : X → Bool) (o : Option X) (x : X) → keep test o ≡ Some x → test x ≡ true
keep_passes test None x h = absurd cc
keep_passes test (Some y) x h = keep_by test y x (test y) refl h

keep_from_by : {X : Type 0} (y x : X) (b : Bool) → (if b then Some y else None) ≡ Some x → Some y ≡ Some x
keep_from_by y x true h = h
keep_from_by y x false h = absurd cc

keep_from : {X : Type 0} (test : X → Bool) (o : Option X) (x : X) → keep test o ≡ Some x → o ≡ Some x
keep_from test None x h = absurd cc
keep_from test (Some y) x h = keep_from_by y x (test y) h

number_fits : (w : Word) (n : ℕ) → number w ≡ Some n → n < 2 ^ 32
number_fits w n h = let l : n ≤ 4294967295 = leb-true _ _ (keep_passes (λ n. nat_le n 4294967295) (if begins_hex w then hex_value (drop 2 w) else decimal_value w) n h) in omega (arith, l)

named_table : (a b c : Bool) (n : ℕ) → (if a then Some local_table else if b then Some main_table else if c then Some default_table else None) ≡ Some n → n < 2 ^ 32
named_table true b c n h = subst (λ (n : ℕ). n < 2 ^ 32) (some_inj local_table n h) (omega arith)
named_table false true c n h = subst (λ (n : ℕ). n < 2 ^ 32) (some_inj main_table n h) (omega arith)
named_table false false true n h = subst (λ (n : ℕ). n < 2 ^ 32) (some_inj default_table n h) (omega arith)
named_table false false false n h = absurd cc

spelled_fits : (o : Option ℕ) (w : Word) (n : ℕ) → ((m : ℕ) → o ≡ Some m → m < 2 ^ 32) → option_or o (number w) ≡ Some n → n < 2 ^ 32
spelled_fits (Some m) w n named h = subst (λ (n : ℕ). n < 2 ^ 32) (some_inj m n h) (named m refl)
spelled_fits None w n named h = number_fits w n h

table_is : (w : Word) (n : ℕ) → table w ≡ Some n → IsTable n
table_is w n h = record {
  from = leb-true _ _ (keep_passes (λ n. nat_le 1 n) (spelled_number tables w) n h);
  fits = spelled_fits (number_in tables w) w n (λ m e. named_table (bytes_eq (codes "local") w) (bytes_eq (codes "main") w) (bytes_eq (codes "default") w) m e) (keep_from (λ n. nat_le 1 n) (spelled_number tables w) n h);
}

storable_table : (n : ℕ) → IsTable n → (nat_le 1 n && nat_lt n (2 ^ 32)) ≡ true
storable_table n is = and_from (nat_le 1 n) (nat_lt n (2 ^ 32)) (grind (arith, nat_tests, is.from)) (grind (arith, nat_tests, is.fits))

ok_or_some : {X : Type 0} (o : Option X) (e : Refusal) (x : X) → ok_or o e ≡ Ok x → o ≡ Some x
ok_or_some None e x h = absurd cc
ok_or_some (Some y) e x h = ap (λ z. Some z) (ok_inj y x h)

-- ---- the items of a line

abbrev IsStorableRoute : Route → Type 0
IsStorableRoute route = IsTrue (is_storable_route route)

-- of a rule without a length
abbrev IsStorableAction : rule.Action → Type 0
IsStorableAction action = IsTrue (is_storable_rule action None)

-- what an item says of a table, an action and a length is storable
abbrev pub IsSoundItem : Item → Type 0
IsSoundItem (item.Table n) = IsTable n
IsSoundItem (item.Action action) = IsStorableAction action
IsSoundItem (item.Suppress len) = IsTrue (nat_le len 32)
IsSoundItem _ = Unit {0}

abbrev pub IsSoundWord : ItemWord → Type 0
IsSoundWord (Keyword slot) = Unit {0}
IsSoundWord (Alone x) = IsSoundItem x

-- the same of all items of a line
abbrev pub IsSound : Items → Type 0
IsSound items = IfSome items.table IsTable × IfSome items.action IsStorableAction × IfSome items.suppress (λ len. IsTrue (nat_le len 32))

put_sound : (x : Item) (items : Items) → IsSoundItem x → IsSound items → IsSound (put x items)
put_sound (item.Table n) items is sound = (is, sound.1, sound.2)
put_sound (item.Action action) items is sound = (sound.0, is, sound.2)
put_sound (item.Suppress len) items is sound = (sound.0, sound.1, is)
put_sound x items is sound = sound

word_by : (b : Bool) (begun i : ItemWord) (rest : Option ItemWord) → IsSoundWord begun → (rest ≡ Some i → IsSoundWord i) → (if b then Some begun else rest) ≡ Some i → IsSoundWord i
word_by true begun i rest is next h = subst IsSoundWord (some_inj begun i h) is
word_by false begun i rest is next h = next h

abbrev pub AreSoundWords : List Entry → Type 0
AreSoundWords [] = Unit {0}
AreSoundWords (entry ∷ entries) = IsSoundWord entry.1 × AreSoundWords entries

word_sound : (entries : List Entry) (w : Word) (i : ItemWord) → AreSoundWords entries → word_in entries w ≡ Some i → IsSoundWord i
word_sound [] w i are h = absurd cc
word_sound (entry ∷ entries) w i are h = word_by (is_one_of w entry.0) entry.1 i (word_in entries w) are.0 (word_sound entries w i are.1) h

lookup_sound : (w : Word) (action : rule.Action) → map_ok Lookup (ok_or (table w) BadTable) ≡ Ok action → IsStorableAction action
lookup_sound w action h = map_ok_all IsStorableAction Lookup _ action h (λ n e. and_from _ _ (keep_passes (λ n. nat_le 1 n) (spelled_number tables w) n (ok_or_some _ _ n e)) refl)

value_sound : (slot : Slot) (b : Option PrefixWord) (w : Word) (x : Item) → value slot b w ≡ Ok x → IsSoundItem x
value_sound Destination b w x h = map_ok_all IsSoundItem item.Destination _ x h (λ y e. tt)
value_sound Via b w x h = map_ok_all IsSoundItem item.Via _ x h (λ y e. tt)
value_sound Dev b w x h = map_ok_all IsSoundItem item.Dev _ x h (λ y e. tt)
value_sound Table b w x h = map_ok_all IsSoundItem item.Table _ x h (λ n e. table_is w n (ok_or_some _ _ n e))
value_sound Proto b w x h = map_ok_all IsSoundItem item.Proto _ x h (λ y e. tt)
value_sound Scope b w x h = map_ok_all IsSoundItem item.Scope _ x h (λ y e. tt)
value_sound Src b w x h = map_ok_all IsSoundItem item.Src _ x h (λ y e. tt)
value_sound Metric b w x h = map_ok_all IsSoundItem item.Metric _ x h (λ y e. tt)
value_sound Range b w x h = map_ok_all IsSoundItem item.Range _ x h (λ y e. tt)
value_sound Tables b w x h = map_ok_all IsSoundItem item.Tables _ x h (λ y e. tt)
value_sound OfKind b w x h = map_ok_all IsSoundItem item.OfKind _ x h (λ y e. tt)
value_sound Address b w x h = map_ok_all IsSoundItem item.Address _ x h (λ y e. tt)
value_sound Source b w x h = map_ok_all IsSoundItem item.Source _ x h (λ y e. tt)
value_sound Iif b w x h = map_ok_all IsSoundItem item.Iif _ x h (λ y e. tt)
value_sound Mark b w x h = map_ok_all IsSoundItem item.Mark _ x h (λ y e. tt)
value_sound Inverted b w x h = subst IsSoundItem (ok_inj item.Inverted x h) tt
value_sound From b w x h = map_ok_all IsSoundItem item.From _ x h (λ y e. tt)
value_sound To b w x h = map_ok_all IsSoundItem item.To _ x h (λ y e. tt)
value_sound Fwmark b w x h = map_ok_all IsSoundItem item.Fwmark _ x h (λ y e. tt)
value_sound Priority b w x h = map_ok_all IsSoundItem item.Priority _ x h (λ y e. tt)
value_sound Action b w x h = map_ok_all IsSoundItem item.Action _ x h (λ action e. lookup_sound w action e)
value_sound Suppress b w x h = map_ok_all IsSoundItem item.Suppress _ x h (λ len e. keep_passes (λ n. nat_le n 32) (number w) len (ok_or_some _ _ len e))

item_sound : (line : LineKind) (place : ItemPlace) (w : Word) (own : List Word) (x : Item) → AreSoundWords line.entries → IsItem line place w own x → IsSoundItem x
item_sound line place w own x are (alone w2 x2 e) = word_sound line.entries w (Alone x) are e
item_sound line place w own x are (valued p w2 slot b x2 is e) = value_sound slot b w x e
item_sound line place w own x are (followed p next w2 v own2 slot x2 f i) = item_sound line next v own2 x are i

items_sound : (line : LineKind) (ws : List Word) (taken : List Item) (given : Items) → AreSoundWords line.entries → AreItems line ws taken → IsSound given → IsSound (put_all taken given)
items_sound line ws taken given are none sound = sound
items_sound line ws taken given are (more w own rest x others i a) sound = items_sound line rest others (put x given) are a (put_sound x given (item_sound line start w own x are i) sound)

entries_sound : (verb : ObjectVerb) → AreSoundWords (meaning_of verb).line.entries
entries_sound RouteAdd = search rules
entries_sound RouteChange = search rules
entries_sound RouteReplace = search rules
entries_sound RouteDel = search rules
entries_sound RouteFlush = search rules
entries_sound RouteShow = search rules
entries_sound RouteGet = search rules
entries_sound RuleAdd = search rules
entries_sound RuleDel = search rules
entries_sound RuleFlush = search rules
entries_sound RuleShow = search rules

-- ---- what the items ask for

bare_by : (via : Option Addr) (dev : Option Word) (src : Option Addr) → ((is_some via || is_some dev) || is_some src) ≡ false → (is_none via && is_none dev && is_none src && 0 == 0) ≡ true
bare_by None None None h = refl
bare_by None None (Some s) h = absurd cc
bare_by None (Some d) src h = absurd cc
bare_by (Some v) dev src h = absurd cc

-- The answer for good items is storable, or one of the first eighteen refusals.
pub record IsFineFor {X : Type 0} (P : X → Type 0) (r : Result X Refusal) : Type 0 where
  pub accepted : (x : X) → r ≡ Ok x → P x
  pub fine : Fine r

fine_for_ok : {X : Type 0} (P : X → Type 0) (x : X) → P x → IsFineFor P (ok_result x)
fine_for_ok P x is = record { accepted = λ y h. subst P (ok_inj x y h) is; fine = fine_ok x }

fine_for_err : {X : Type 0} (P : X → Type 0) (e : Refusal) → code_of e ≤ 18 → IsFineFor P (err_result e)
fine_for_err P e l = record { accepted = λ y h. absurd cc; fine = fine_err e l }

fine_for_then : {X Y : Type 0} (Q : X → Type 0) (P : Y → Type 0) (r : Result X Refusal) (f : X → Result Y Refusal) → IsFineFor Q r → ((x : X) → Q x → IsFineFor P (f x)) → IsFineFor P (r >>= f)
fine_for_then Q P (Ok x) f is next = next x (is.accepted x refl)
fine_for_then Q P (Err e) f is next = fine_for_err P e (is.fine.number e refl)

some_for : {X : Type 0} (o : Option X) (e : Refusal) → code_of e ≤ 18 → IsFineFor (λ x. Unit {0}) (ok_or o e)
some_for None e l = fine_for_err _ e l
some_for (Some x) e l = fine_for_ok _ x tt

refuse_for : (b : Bool) (e : Refusal) → code_of e ≤ 18 → IsFineFor (λ _. b ≡ false) (refuse_if b e)
refuse_for true e l = fine_for_err _ e l
refuse_for false e l = fine_for_ok _ tt refl

table_for : (o : Option ℕ) → IfSome o IsTable → IsTable (unwrap_or o main_table)
table_for None is = record { from = omega arith; fits = omega arith }
table_for (Some n) is = is

action_for : (o : Option rule.Action) → IfSome o IsStorableAction → IsStorableAction (unwrap_or o (Lookup main_table))
action_for None is = refl
action_for (Some action) is = is

length_for : (o : Option ℕ) → IfSome o (λ len. IsTrue (nat_le len 32)) → is_length o ≡ true
length_for None is = refl
length_for (Some len) is = is

-- a length comes only with a lookup
rule_for : (action : rule.Action) (suppress : Option ℕ) → IsStorableAction action → IfSome suppress (λ len. IsTrue (nat_le len 32)) → is_some suppress && not (is_lookup action) ≡ false → IsTrue (is_storable_rule action suppress)
rule_for (Lookup table) suppress is length apart = and_from _ _ (and_parts _ _ is).0 (length_for suppress length)
rule_for _ None is length apart = refl
rule_for _ (Some len) is length apart = absurd cc

not_false : (b : Bool) → not b ≡ false → b ≡ true
not_false true h = refl
not_false false h = absurd cc

suits_for : (items : Items) (kind : Kind) (prefix : Block) → is_unicast kind && not (has_next_hop items) ≡ false → not (is_unicast kind) && (has_next_hop items || is_some items.src) ≡ false → suits kind (route_of items kind prefix) ≡ true
suits_for items Unicast prefix a b = not_false _ a
suits_for items Blackhole prefix a b = bare_by items.via items.dev items.src b
suits_for items Unreachable prefix a b = bare_by items.via items.dev items.src b
suits_for items Prohibit prefix a b = bare_by items.via items.dev items.src b
suits_for items Throw prefix a b = bare_by items.via items.dev items.src b

route_for : (items : Items) (kind : Kind) (prefix : Block) → IsSound items → IsFineFor IsStorableRoute (route_by items kind prefix)
route_for items kind prefix sound =
    fine_for_then _ IsStorableRoute _ _ (refuse_for (is_unicast kind && not (has_next_hop items)) NoNextHop (omega arith)) (λ _ a.
    fine_for_then _ IsStorableRoute _ _ (refuse_for (not (is_unicast kind) && (has_next_hop items || is_some items.src)) NextHopNotAllowed (omega arith)) (λ _ b.
    fine_for_ok IsStorableRoute (route_of items kind prefix) (and_from _ _ (storable_table _ (table_for items.table sound.0)) (suits_for items kind prefix a b))))

route_request_for : (command : Route → Command) → ((route : Route) → IsStorableRoute route → IsStorable (command route)) → (items : Items) → IsSound items → IsFineFor IsStorableRequest (route_request command items)
route_request_for command storable items sound =
    fine_for_then IsStorableRoute IsStorableRequest (new_route items) _
    (fine_for_then _ IsStorableRoute _ _ (some_for items.destination MissingDestination (omega arith)) (λ target _. route_for items (unwrap_or target.kind Unicast) target.prefix sound))
    (λ route is. fine_for_ok IsStorableRequest _ (storable route is))

command_for : (items : Items) (command : Command) → IsStorable command → IsFineFor IsStorableRequest (unless_empty items command)
command_for items command is = fine_for_then _ IsStorableRequest _ _ (refuse_for (is_empty items) TooBroad (omega arith)) (λ _ _. fine_for_ok IsStorableRequest _ is)

asks_for : (verb : ObjectVerb) (items : Items) → IsSound items → IsFineFor IsStorableRequest ((meaning_of verb).asks items)
asks_for RouteAdd items sound = route_request_for commands.RouteAdd (λ route is. is) items sound
asks_for RouteChange items sound = route_request_for commands.RouteChange (λ route is. is) items sound
asks_for RouteReplace items sound = route_request_for commands.RouteReplace (λ route is. is) items sound
asks_for RouteDel items sound = fine_for_then _ IsStorableRequest _ _ (some_for items.destination MissingDestination (omega arith)) (λ target _. fine_for_ok IsStorableRequest _ tt)
asks_for RouteFlush items sound = command_for items (commands.RouteFlush (selector_of items)) tt
asks_for RouteShow items sound = fine_for_ok IsStorableRequest _ tt
asks_for RouteGet items sound = fine_for_then _ IsStorableRequest _ _ (some_for items.address MissingDestination (omega arith)) (λ dst _. fine_for_ok IsStorableRequest _ tt)
asks_for RuleAdd items sound =
    fine_for_then _ IsStorableRequest _ _ (refuse_for (suppresses_without_lookup (rule_of items)) SuppressNotAllowed (omega arith))
    (λ _ apart. fine_for_ok IsStorableRequest _ (rule_for (unwrap_or items.action (Lookup main_table)) items.suppress (action_for items.action sound.1) sound.2 apart))
asks_for RuleDel items sound = command_for items (commands.RuleDel (rule_choice items)) tt
asks_for RuleFlush items sound = fine_for_ok IsStorableRequest _ tt
asks_for RuleShow items sound = fine_for_ok IsStorableRequest _ tt

-- ---- a line

read_for : (verb : ObjectVerb) (ws : List Word) (r : Result Items Refusal) → items_of (meaning_of verb).line no_items ws ≡ r → IsFineFor IsSound r
read_for verb ws (Ok items) read =
    let d = good_of_items (meaning_of verb).line ws zero no_items items read (omega arith) in
    fine_for_ok IsSound items (subst IsSound (sym d.is) (items_sound (meaning_of verb).line ws d.taken no_items (entries_sound verb) d.good.spelled (tt, tt, tt)))
read_for verb ws (Err e) read =
    let d = fault (meaning_of verb).line ws zero no_items e read (omega arith) in
    fine_for_err IsSound e (fault_fine (meaning_of verb).line (put_all d.taken no_items) start d.w d.rest e d.first)

verb_for : (verb : ObjectVerb) (ws : List Word) → IsFineFor IsStorableRequest (items_request (meaning_of verb) ws)
verb_for verb ws = fine_for_then IsSound IsStorableRequest (items_of (meaning_of verb).line no_items ws) _ (read_for verb ws _ refl) (λ items sound. asks_for verb items sound)

object_for : (object : Object) (ws : List Word) → IsFineFor IsStorableRequest (verb_request object ws)
object_for object [] = verb_for (lone_verb object) []
object_for object (w ∷ ws) = fine_for_then _ IsStorableRequest _ _ (some_for (verb_of object w) UnknownVerb (omega arith)) (λ verb _. verb_for verb ws)

words_for : (ws : List Word) → IsFineFor IsStorableRequest (object_request ws)
words_for [] = fine_for_err _ UnknownObject (omega arith)
words_for (w ∷ ws) = fine_for_then _ IsStorableRequest _ _ (some_for (object_of w) UnknownObject (omega arith)) (λ object _. object_for object ws)

text_for : (ws : List Word) → IsFineFor IsStorableLine (words_request ws)
text_for [] = fine_for_ok IsStorableLine None tt
text_for (w ∷ ws) = fine_for_then IsStorableRequest IsStorableLine _ _ (words_for (skip_word (codes "-4") (skip_word (codes "ip") (w ∷ ws)))) (λ request is. fine_for_ok IsStorableLine (Some request) is)

by_result : (r : Result (Option Request) Refusal) → IsFineFor IsStorableLine r → IfOk r IsStorableLine × IfErr r (λ refusal. code_of refusal ≤ 18)
by_result (Ok request) is = (is.accepted request refl, tt)
by_result (Err refusal) is = (tt, is.fine.number refusal refl)

-- what a text asks for is storable, and its refusal is one of the first eighteen
pub text_is : (ws : List Word) (r : Result (Option Request) Refusal) → r ≡ words_request ws → IfOk r IsStorableLine × IfErr r (λ refusal. code_of refusal ≤ 18)
text_is ws r is = by_result r (subst (IsFineFor IsStorableLine) (sym is) (text_for ws))
