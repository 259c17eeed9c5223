-- A line can express each command that a line asks for.
use Rattle.std.proofs.Common.{◌≡◌, ℕ, ◌+◌, suc, Bool, true, false, not, List, [], ◌∷◌, ◌++◌, Option, Some, None, IfOk, IfSome, Result, Ok, Err, is_some, rules, refl, sym, ap, subst, arith, nat_le}
use Rattle.std.specs.Prelude.{bytes_eq, codes, nat_lt, ◌==◌, ◌&&◌, ◌||◌, if◌then◌else◌, unwrap_or}
use Rattle.std.specs.List.{list_all, onto_first, slice_split, AllByRecursion as Each}
use Rattle.std.specs.Option.{ok_or}
use Rattle.std.proofs.lemmas.Bool.{and_from}
use Rattle.std.proofs.lemmas.Bool.Decides.{nat_tests}
use Rattle.std.proofs.lemmas.List.Splits.{slice_split-cons_no, slice_split-cons_yes}
use Rattle.prt_addr.proofs.Each.{each_filtered}
use Rattle.prt_addr.specs.Number.{number}
use Rattle.prt_addr.specs.Word.{Word, is_one_of, is_white, keep}
use Rattle.prt_refusals.specs.declared.refusal.Refusal.{Refusal}
use Rattle.prt_refusals.specs.declared.refusal.Refusal.TheVariants.{BadTable, LineTooLong, MissingDestination, NextHopNotAllowed, NoNextHop, NotAscii, SuppressNotAllowed, TooBroad, UnknownObject, UnknownVerb}
use Rattle.prt_route.specs.Name.{is_name}
use Rattle.prt_route.specs.Names.{main_table, spelled_number, table, tables}
use Rattle.prt_route.specs.Storable.{is_storable_route}
use Rattle.prt_route.specs.declared.kind.Kind.TheVariants.{Unicast}
use Rattle.prt_route.specs.declared.route.Route.{Route}
use Rattle.prt_rule.specs.Storable.{is_length, is_storable_rule}
use Rattle.prt_rule.specs.declared.rule.Action as rule
use Rattle.prt_rule.specs.declared.rule.Action.TheVariants as actions
use Rattle.prt_command.specs.Grammar.{ItemPlace, start, after_to, at_value, IsPlain, no_word, word_after_to, MustBeFollowed, keyword, to_word, before_prefix, IsValue, bare, any_word, IsItem, alone, valued, followed, AreItems, none, more, put_all}
use Rattle.prt_command.specs.Items.{is_empty, no_items, put, slot_of}
use Rattle.prt_command.specs.LineKinds.{Entry, LineKind, rule_edit_line, word_in}
use Rattle.prt_command.specs.Reading.{before_comment, has_bytes, is_text_byte, items_request, line_words, lone_verb, meaning_of, object_of, object_request, reading, skip_word, verb_of, verb_request, words, words_request}
use Rattle.prt_command.specs.Requests.{has_next_hop, is_unicast, new_route, refuse_if, route_choice, route_of, route_request, rule_choice, rule_of, selected_table, selector_of, suppresses_without_lookup}
use Rattle.prt_command.specs.Spelling.{Spells}
use Rattle.prt_command.specs.Storable.{IsStorable, IsStorableLine}
use Rattle.prt_command.specs.Then.{◌>>=◌, map_ok}
use Rattle.prt_command.specs.Values.{value}
use Rattle.prt_command.specs.declared.item.Item.{Item}
use Rattle.prt_command.specs.declared.item.Item.TheVariants as item
use Rattle.prt_command.specs.declared.item.ItemWord.{ItemWord}
use Rattle.prt_command.specs.declared.item.ItemWord.TheVariants.{Keyword, Alone}
use Rattle.prt_command.specs.declared.item.Items.{Items}
use Rattle.prt_command.specs.declared.item.PrefixWord.{PrefixWord}
use Rattle.prt_command.specs.declared.item.Slot.{Slot}
use Rattle.prt_command.specs.declared.item.Slot.TheVariants as slots
use Rattle.prt_command.specs.declared.item.WhichTables.{WhichTables}
use Rattle.prt_command.specs.declared.item.WhichTables.TheVariants as which
use Rattle.prt_command.specs.declared.request.Command.{Command}
use Rattle.prt_command.specs.declared.request.Command.TheVariants as commands
use Rattle.prt_command.specs.declared.request.Request.{Request}
use Rattle.prt_command.specs.declared.request.Request.TheVariants as requests
use Rattle.prt_command.specs.declared.verb.Object.{Object}
use Rattle.prt_command.specs.declared.verb.ObjectVerb.{ObjectVerb}
use Rattle.prt_command.specs.declared.verb.ObjectVerb.TheVariants.{RouteAdd, RouteChange, RouteReplace, RouteDel, RouteFlush, RouteShow, RouteGet, RuleAdd, RuleDel, RuleFlush, RuleShow}
use Rattle.prt_command.proofs.ReadingLaws.{spells}
use Rattle.prt_command.proofs.Results.{ok_inj, some_inj}
use Rattle.prt_command.proofs.Stored.{text_is}
use Rattle.prt_command.proofs.Values.{map_ok_all, slot_kept}
use Rattle.prt_spelling.specs.Plain.{is_plain_byte, is_plain_name}
use Rattle.prt_spelling.specs.Spelled.{gives_some, is_from_one, is_spelled, is_spelled_action, is_spelled_choice, is_spelled_rule_choice, is_spelled_selector}
use Rattle.prt_spelling.proofs.Words.{both_true}

-- ---- the words of a line

abbrev IsPlainWord : Word → Type 0
IsPlainWord w = list_all is_plain_byte w ≡ true

abbrev IsNoHash : ℕ → Type 0
IsNoHash b = (b == 35) ≡ false

plain_black : (b : ℕ) → is_text_byte b ≡ true → IsNoHash b → is_white b ≡ false → is_plain_byte b ≡ true
plain_black b text other black = grind (arith, nat_tests, text, other, black)

onto_plain : (b : ℕ) (ws : List Word) → is_plain_byte b ≡ true → Each IsPlainWord ws → Each IsPlainWord (onto_first b ws)
onto_plain b [] plain each = (and_from (is_plain_byte b) true plain refl, tt)
onto_plain b (w ∷ ws) plain each = (and_from (is_plain_byte b) (list_all is_plain_byte w) plain each.0, each.1)

split_by : (b : ℕ) (t : List ℕ) (c : Bool) → is_white b ≡ c → is_text_byte b ≡ true → IsNoHash b → Each IsPlainWord (slice_split is_white t) → Each IsPlainWord (slice_split is_white (b ∷ t))
split_by b t true is text other rest = subst (Each IsPlainWord) (sym (slice_split-cons_yes is_white b t is)) (refl, rest)
split_by b t false is text other rest = subst (Each IsPlainWord) (sym (slice_split-cons_no is_white b t is)) (onto_plain b (slice_split is_white t) (plain_black b text other is) rest)

split_plain : (t : List ℕ) → list_all is_text_byte t ≡ true → Each IsNoHash t → Each IsPlainWord (slice_split is_white t)
split_plain [] text other = (refl, tt)
split_plain (b ∷ t) text other =
    let each = both_true (is_text_byte b) (list_all is_text_byte t) text in
    split_by b t (is_white b) refl each.0 other.0 (split_plain t each.1 other.1)

one_plus : (n : ℕ) → 1 + n ≡ suc n
one_plus n = omega arith

before_by : (b : ℕ) (bs : List ℕ) (c : Bool) → (b == 35) ≡ c → Each IsNoHash (before_comment bs) → Each IsNoHash (before_comment (b ∷ bs))
before_by b bs true is rest = simp is tt
before_by b bs false is rest = simp (is, one_plus) (refl, rest)

before_plain : (line : List ℕ) → Each IsNoHash (before_comment line)
before_plain [] = tt
before_plain (b ∷ bs) = before_by b bs (b == 35) refl (before_plain bs)

line_by : (long text : Bool) (t : List ℕ) (ws : List Word) → list_all is_text_byte t ≡ text → Each IsNoHash t → (refuse_if long LineTooLong >>= λ _. refuse_if (not text) NotAscii >>= λ _. Ok (words t)) ≡ Ok ws → Each IsPlainWord ws
line_by true text t ws is other h = absurd cc
line_by false false t ws is other h = absurd cc
line_by false true t ws is other h = subst (Each IsPlainWord) (ok_inj (words t) ws h) (each_filtered IsPlainWord has_bytes (slice_split is_white t) (split_plain t is other))

line_plain : (line : List ℕ) (ws : List Word) → line_words line ≡ Ok ws → Each IsPlainWord ws
line_plain line ws h = line_by _ (list_all is_text_byte (before_comment line)) (before_comment line) ws refl (before_plain line) h

-- ---- the items that they are

-- what an item says of a table, a name and a length can be expressed
abbrev AreFoundTables : WhichTables → Type 0
AreFoundTables which.All = Unit {0}
AreFoundTables (which.One n) = nat_le 1 n ≡ true

abbrev IsFoundItem : Item → Type 0
IsFoundItem (item.Dev w) = is_plain_name (Some w) ≡ true
IsFoundItem (item.Iif w) = is_plain_name (Some w) ≡ true
IsFoundItem (item.Table n) = nat_le 1 n ≡ true
IsFoundItem (item.Tables tables) = AreFoundTables tables
IsFoundItem (item.Action action) = is_spelled_action (Some action) ≡ true
IsFoundItem (item.Suppress len) = nat_le len 32 ≡ true
IsFoundItem _ = Unit {0}

abbrev AreFound : Items → Type 0
AreFound items = IfSome items.table (λ n. nat_le 1 n ≡ true) × IfSome items.tables AreFoundTables × (is_plain_name items.dev ≡ true) × (is_plain_name items.iif ≡ true) × (is_spelled_action items.action ≡ true) × (is_length items.suppress ≡ true)

put_found : (x : Item) (items : Items) → IsFoundItem x → AreFound items → AreFound (put x items)
put_found (item.Table n) items is found = (is, found.1, found.2, found.3, found.4, found.5)
put_found (item.Tables tables) items is found = (found.0, is, found.2, found.3, found.4, found.5)
put_found (item.Dev w) items is found = (found.0, found.1, is, found.3, found.4, found.5)
put_found (item.Iif w) items is found = (found.0, found.1, found.2, is, found.4, found.5)
put_found (item.Action action) items is found = (found.0, found.1, found.2, found.3, is, found.5)
put_found (item.Suppress len) items is found = (found.0, found.1, found.2, found.3, found.4, is)
put_found x items is found = found

kept_by : {X : Type 0} (test : X → Bool) (y x : X) (b : Bool) → test y ≡ b → (if b then Some y else None) ≡ Some x → test x ≡ true
kept_by test y x true is h = subst (λ z. test z ≡ true) (some_inj y x h) is
kept_by test y x false is h = absurd cc

kept : {X : Type 0} (test : X → Bool) (o : Option X) (x : X) → keep test o ≡ Some x → test x ≡ true
kept test None x h = absurd cc
kept test (Some y) x h = kept_by test y x (test y) refl h

there : {X : Type 0} (o : Option X) (e : Refusal) (x : X) → ok_or o e ≡ Ok x → o ≡ Some x
there None e x h = absurd cc
there (Some y) e x h = ap (λ z. Some z) (ok_inj y x h)

name_by : (w name : Word) (b : Bool) → is_name w ≡ b → IsPlainWord w → (if b then Some w else None) ≡ Some name → is_plain_name (Some name) ≡ true
name_by w name true is plain h = subst (λ v. is_plain_name (Some v) ≡ true) (some_inj w name h) (and_from (is_name w) (list_all is_plain_byte w) is plain)
name_by w name false is plain h = absurd cc

table_found : (w : Word) (n : ℕ) → ok_or (table w) BadTable ≡ Ok n → nat_le 1 n ≡ true
table_found w n h = kept (λ n. nat_le 1 n) (spelled_number tables w) n (there (table w) BadTable n h)

tables_found : (w : Word) (b : Bool) (x : WhichTables) → (if b then Ok which.All else map_ok which.One (ok_or (table w) BadTable)) ≡ Ok x → AreFoundTables x
tables_found w true x h = subst AreFoundTables (ok_inj which.All x h) tt
tables_found w false x h = map_ok_all AreFoundTables which.One _ x h (λ n is. table_found w n is)

lookup_found : (w : Word) (x : rule.Action) → map_ok actions.Lookup (ok_or (table w) BadTable) ≡ Ok x → is_spelled_action (Some x) ≡ true
lookup_found w x h = map_ok_all (λ action. is_spelled_action (Some action) ≡ true) actions.Lookup _ x h (λ n is. table_found w n is)

value_found : (slot : Slot) (b : Option PrefixWord) (w : Word) (x : Item) → IsPlainWord w → value slot b w ≡ Ok x → IsFoundItem x
value_found slots.Destination b w x plain h = map_ok_all IsFoundItem item.Destination _ x h (λ y is. tt)
value_found slots.Via b w x plain h = map_ok_all IsFoundItem item.Via _ x h (λ y is. tt)
value_found slots.Dev b w x plain h = map_ok_all IsFoundItem item.Dev _ x h (λ name is. name_by w name (is_name w) refl plain (there _ _ name is))
value_found slots.Table b w x plain h = map_ok_all IsFoundItem item.Table _ x h (λ n is. table_found w n is)
value_found slots.Proto b w x plain h = map_ok_all IsFoundItem item.Proto _ x h (λ y is. tt)
value_found slots.Scope b w x plain h = map_ok_all IsFoundItem item.Scope _ x h (λ y is. tt)
value_found slots.Src b w x plain h = map_ok_all IsFoundItem item.Src _ x h (λ y is. tt)
value_found slots.Metric b w x plain h = map_ok_all IsFoundItem item.Metric _ x h (λ y is. tt)
value_found slots.Range b w x plain h = map_ok_all IsFoundItem item.Range _ x h (λ y is. tt)
value_found slots.Tables b w x plain h = map_ok_all IsFoundItem item.Tables _ x h (λ y is. tables_found w (bytes_eq (codes "all") w) y is)
value_found slots.OfKind b w x plain h = map_ok_all IsFoundItem item.OfKind _ x h (λ y is. tt)
value_found slots.Address b w x plain h = map_ok_all IsFoundItem item.Address _ x h (λ y is. tt)
value_found slots.Source b w x plain h = map_ok_all IsFoundItem item.Source _ x h (λ y is. tt)
value_found slots.Iif b w x plain h = map_ok_all IsFoundItem item.Iif _ x h (λ name is. name_by w name (is_name w) refl plain (there _ _ name is))
value_found slots.Mark b w x plain h = map_ok_all IsFoundItem item.Mark _ x h (λ y is. tt)
value_found slots.Inverted b w x plain h = subst IsFoundItem (ok_inj item.Inverted x h) tt
value_found slots.From b w x plain h = map_ok_all IsFoundItem item.From _ x h (λ y is. tt)
value_found slots.To b w x plain h = map_ok_all IsFoundItem item.To _ x h (λ y is. tt)
value_found slots.Fwmark b w x plain h = map_ok_all IsFoundItem item.Fwmark _ x h (λ y is. tt)
value_found slots.Priority b w x plain h = map_ok_all IsFoundItem item.Priority _ x h (λ y is. tt)
value_found slots.Action b w x plain h = map_ok_all IsFoundItem item.Action _ x h (λ action is. lookup_found w action is)
value_found slots.Suppress b w x plain h = map_ok_all IsFoundItem item.Suppress _ x h (λ len is. kept (λ n. nat_le n 32) (number w) len (there _ _ len is))

-- what holds of each word that begins an item
begun_by : (P : ItemWord → Type 0) (b : Bool) (begun i : ItemWord) (rest : Option ItemWord) → P begun → (rest ≡ Some i → P i) → (if b then Some begun else rest) ≡ Some i → P i
begun_by P true begun i rest is next h = subst P (some_inj begun i h) is
begun_by P false begun i rest is next h = next h

begun_holds : (P : ItemWord → Type 0) (entries : List Entry) (w : Word) (i : ItemWord) → Each (λ (entry : Entry). P entry.1) entries → word_in entries w ≡ Some i → P i
begun_holds P [] w i are h = absurd cc
begun_holds P (entry ∷ entries) w i are h = begun_by P (is_one_of w entry.0) entry.1 i (word_in entries w) are.0 (begun_holds P entries w i are.1) h

abbrev pub IsFoundWord : ItemWord → Type 0
IsFoundWord (Keyword slot) = Unit {0}
IsFoundWord (Alone x) = IsFoundItem x

abbrev AreFoundWords : LineKind → Type 0
AreFoundWords line = Each (λ (entry : Entry). IsFoundWord entry.1) line.entries

item_found : (line : LineKind) (place : ItemPlace) (w : Word) (own : List Word) (x : Item) → AreFoundWords line → IsItem line place w own x → IsPlainWord w → Each IsPlainWord own → IsFoundItem x
item_found line place w own x are (alone w2 x2 e) plain others = begun_holds IsFoundWord line.entries w (Alone x) are e
item_found line place w own x are (valued p w2 slot b x2 is e) plain others = value_found slot b w x plain e
item_found line place w own x are (followed p next w2 v own2 slot x2 f i) plain others = item_found line next v own2 x are i others.0 others.1

each_split : {X : Type 0} (P : X → Type 0) (xs ys : List X) → Each P (xs ++ ys) → Each P xs × Each P ys
each_split P [] ys each = (tt, each)
each_split P (x ∷ xs) ys each = let rest = each_split P xs ys each.1 in ((each.0, rest.0), rest.1)

items_found : (line : LineKind) (ws : List Word) (taken : List Item) (given : Items) → AreFoundWords line → AreItems line ws taken → Each IsPlainWord ws → AreFound given → AreFound (put_all taken given)
items_found line ws taken given are none plain found = found
items_found line ws taken given are (more w own rest x others i a) plain found =
    let each = each_split IsPlainWord own rest plain.1 in
    items_found line rest others (put x given) are a each.1 (put_found x given (item_found line start w own x are i plain.0 each.0) found)

words_found : (verb : ObjectVerb) → AreFoundWords (meaning_of verb).line
words_found RouteAdd = search rules
words_found RouteChange = search rules
words_found RouteReplace = search rules
words_found RouteDel = search rules
words_found RouteFlush = search rules
words_found RouteShow = search rules
words_found RouteGet = search rules
words_found RuleAdd = search rules
words_found RuleDel = search rules
words_found RuleFlush = search rules
words_found RuleShow = search rules

-- ---- the items of a rule's line

-- the items that say something of a rule
abbrev IsOfRules : Slot → Type 0
IsOfRules slots.Inverted = Unit {0}
IsOfRules slots.From = Unit {0}
IsOfRules slots.To = Unit {0}
IsOfRules slots.Iif = Unit {0}
IsOfRules slots.Fwmark = Unit {0}
IsOfRules slots.Priority = Unit {0}
IsOfRules slots.Action = Unit {0}
IsOfRules slots.Suppress = Unit {0}
IsOfRules slot = ⊥

abbrev pub IsRuleWord : ItemWord → Type 0
IsRuleWord (Keyword slot) = IsOfRules slot
IsRuleWord (Alone x) = IsOfRules (slot_of x)

-- which item may come from a place on
abbrev MayStand : ItemPlace → Slot → Type 0
MayStand start slot = IsOfRules slot
MayStand (after_to other) slot = slot ≡ other
MayStand (at_value other b) slot = slot ≡ other

rule_words : Each (λ (entry : Entry). IsRuleWord entry.1) rule_edit_line.entries
rule_words = search rules

plain_place : (w : Word) (slot : Slot) (place : ItemPlace) (x : Slot) → IsPlain rule_edit_line w slot place → x ≡ slot → MayStand place x
plain_place w slot place x (no_word plain n t) same = absurd cc
plain_place w slot place x word_after_to same = same

value_place : (w : Word) (slot : Slot) (place : ItemPlace) (b : Option PrefixWord) (x : Slot) → IsValue rule_edit_line w slot place b → x ≡ slot → MayStand place x
value_place w slot place b x (bare place2 plain n) same = plain_place w slot place x plain same
value_place w slot place b x (any_word b2) same = same

followed_place : (w : Word) (slot : Slot) (place next : ItemPlace) (x : Slot) → MustBeFollowed rule_edit_line w slot place next → MayStand next x → MayStand place x
followed_place w slot place next x (keyword is) may = subst IsOfRules (sym may) (begun_holds IsRuleWord rule_edit_line.entries w (Keyword slot) rule_words is)
followed_place w slot place next x (to_word plain n t) may = absurd cc
followed_place w slot place next x (before_prefix place2 b plain names) may = plain_place w slot place x plain may

item_of_rules : (place : ItemPlace) (w : Word) (own : List Word) (x : Item) → IsItem rule_edit_line place w own x → MayStand place (slot_of x)
item_of_rules place w own x (alone w2 x2 e) = begun_holds IsRuleWord rule_edit_line.entries w (Alone x) rule_words e
item_of_rules place w own x (valued p w2 slot b x2 is e) = value_place w slot place b (slot_of x) is (slot_kept slot b w x e)
item_of_rules place w own x (followed p next w2 v own2 slot x2 f i) = followed_place w slot place next (slot_of x) f (item_of_rules next v own2 x i)

first_yes : (a b : Bool) → a ≡ true → a || b ≡ true
first_yes true b h = refl
first_yes false b h = absurd cc

second_yes : (a b : Bool) → b ≡ true → a || b ≡ true
second_yes true b h = refl
second_yes false b h = h

abbrev gives : Items → Bool
gives items = gives_some (rule_choice items)

put_gives : (x : Item) (items : Items) → IsOfRules (slot_of x) → gives (put x items) ≡ true
put_gives item.Inverted items is = first_yes _ _ (first_yes _ _ (first_yes _ _ (first_yes _ _ (first_yes _ _ (first_yes _ _ (second_yes _ _ refl))))))
put_gives (item.From p) items is = first_yes _ _ (first_yes _ _ (first_yes _ _ (first_yes _ _ (first_yes _ _ (second_yes _ _ refl)))))
put_gives (item.To p) items is = first_yes _ _ (first_yes _ _ (first_yes _ _ (first_yes _ _ (second_yes _ _ refl))))
put_gives (item.Iif w) items is = refl
put_gives (item.Fwmark m) items is = first_yes _ _ (first_yes _ _ (first_yes _ _ (second_yes _ _ refl)))
put_gives (item.Priority n) items is = first_yes _ _ (first_yes _ _ (second_yes _ _ refl))
put_gives (item.Action action) items is = first_yes _ _ (second_yes _ _ refl)
put_gives (item.Suppress len) items is = second_yes _ _ refl
put_gives x items is = absurd is

all_give : (ws : List Word) (taken : List Item) (given : Items) → AreItems rule_edit_line ws taken → gives given ≡ true → gives (put_all taken given) ≡ true
all_give ws taken given none some = some
all_give ws taken given (more w own rest x others i a) some = all_give rest others (put x given) a (put_gives x given (item_of_rules start w own x i))

-- if an item is given, something is said of the rule
rules_give : (ws : List Word) (taken : List Item) → AreItems rule_edit_line ws taken → is_empty (put_all taken no_items) ≡ false → gives (put_all taken no_items) ≡ true
rules_give ws taken none some = absurd cc
rules_give ws taken (more w own rest x others i a) some = all_give rest others (put x no_items) a (put_gives x no_items (item_of_rules start w own x i))

-- ---- what they ask for

-- what is known of a command beside that a table may hold what it puts
abbrev IsFoundCommand : Command → Type 0
IsFoundCommand (commands.RouteAdd route) = is_plain_name route.dev ≡ true
IsFoundCommand (commands.RouteChange route) = is_plain_name route.dev ≡ true
IsFoundCommand (commands.RouteReplace route) = is_plain_name route.dev ≡ true
IsFoundCommand (commands.RouteDel choice) = is_spelled_choice choice ≡ true
IsFoundCommand (commands.RouteFlush selector) = is_spelled_selector selector ≡ true
IsFoundCommand (commands.RuleAdd rule) = is_plain_name rule.iif ≡ true
IsFoundCommand (commands.RuleDel choice) = is_spelled_rule_choice choice ≡ true
IsFoundCommand commands.RuleFlush = Unit {0}

abbrev IsFound : Request → Type 0
IsFound (requests.Command command) = IsFoundCommand command
IsFound (requests.Query query) = Unit {0}

-- whatever a reading yields is such
abbrev Gives : {X : Type 0} → (X → Type 0) → Result X Refusal → Type 0
Gives {X} P r = (x : X) → r ≡ Ok x → P x

gives_ok : {X : Type 0} (P : X → Type 0) (y : X) → P y → Gives P (Ok y)
gives_ok P y is = λ x h. subst P (ok_inj y x h) is

gives_then : {X Y : Type 0} (P : Y → Type 0) (r : Result X Refusal) (f : X → Result Y Refusal) → ((x : X) → r ≡ Ok x → Gives P (f x)) → Gives P (r >>= f)
gives_then P (Ok x) f next = next x refl
gives_then P (Err e) f next = λ y h. absurd cc

not_refused : (b : Bool) (e : Refusal) (x : Unit {0}) → refuse_if b e ≡ Ok x → b ≡ false
not_refused true e x h = absurd cc
not_refused false e x h = refl

abbrev HasName : Route → Type 0
HasName route = is_plain_name route.dev ≡ true

route_gives : (command : Route → Command) → ((route : Route) → HasName route → IsFoundCommand (command route)) → (items : Items) → AreFound items → Gives IsFound (route_request command items)
route_gives command named items found =
    gives_then IsFound (new_route items) _ (λ route is. gives_ok IsFound (requests.Command (command route)) (named route
    (gives_then HasName (ok_or items.destination MissingDestination) _ (λ target _.
    gives_then HasName (refuse_if (is_unicast (unwrap_or target.kind Unicast) && not (has_next_hop items)) NoNextHop) _ (λ _ _.
    gives_then HasName (refuse_if (not (is_unicast (unwrap_or target.kind Unicast)) && (has_next_hop items || is_some items.src)) NextHopNotAllowed) _ (λ _ _.
    gives_ok HasName (route_of items (unwrap_or target.kind Unicast) target.prefix) found.2))) route is)))

table_given : (o : Option ℕ) → IfSome o (λ n. nat_le 1 n ≡ true) → nat_le 1 (unwrap_or o main_table) ≡ true
table_given None is = refl
table_given (Some n) is = is

metric_by : (n : ℕ) (b : Bool) → nat_lt 0 n ≡ b → is_from_one (if b then Some n else None) ≡ true
metric_by n true is = grind (arith, nat_tests, is)
metric_by n false is = refl

metric_given : (o : Option ℕ) → is_from_one (keep (λ metric. nat_lt 0 metric) o) ≡ true
metric_given None = refl
metric_given (Some n) = metric_by n (nat_lt 0 n) refl

tables_given : (o : Option WhichTables) → IfSome o AreFoundTables → is_from_one (selected_table o) ≡ true
tables_given None is = refl
tables_given (Some which.All) is = refl
tables_given (Some (which.One n)) is = is

asks_give : (verb : ObjectVerb) (ws : List Word) (taken : List Item) → AreItems (meaning_of verb).line ws taken → AreFound (put_all taken no_items) → Gives IsFound ((meaning_of verb).asks (put_all taken no_items))
asks_give RouteAdd ws taken are found = route_gives commands.RouteAdd (λ route is. is) (put_all taken no_items) found
asks_give RouteChange ws taken are found = route_gives commands.RouteChange (λ route is. is) (put_all taken no_items) found
asks_give RouteReplace ws taken are found = route_gives commands.RouteReplace (λ route is. is) (put_all taken no_items) found
asks_give RouteDel ws taken are found =
    let items : Items = put_all taken no_items in
    gives_then IsFound (ok_or items.destination MissingDestination) _ (λ target _.
    gives_ok IsFound (requests.Command (commands.RouteDel (route_choice items target)))
    (and_from _ _ (and_from _ _ (table_given items.table found.0) (metric_given items.metric)) found.2))
asks_give RouteFlush ws taken are found =
    let items : Items = put_all taken no_items in
    gives_then IsFound (refuse_if (is_empty items) TooBroad) _ (λ _ _.
    gives_ok IsFound (requests.Command (commands.RouteFlush (selector_of items))) (and_from _ _ (tables_given items.tables found.1) found.2))
asks_give RouteShow ws taken are found = gives_ok IsFound _ tt
asks_give RouteGet ws taken are found =
    let items : Items = put_all taken no_items in
    gives_then IsFound (ok_or items.address MissingDestination) _ (λ dst _. gives_ok IsFound _ tt)
asks_give RuleAdd ws taken are found =
    let items : Items = put_all taken no_items in
    gives_then IsFound (refuse_if (suppresses_without_lookup (rule_of items)) SuppressNotAllowed) _ (λ _ _. gives_ok IsFound (requests.Command (commands.RuleAdd (rule_of items))) found.3)
asks_give RuleDel ws taken are found =
    let items : Items = put_all taken no_items in
    gives_then IsFound (refuse_if (is_empty items) TooBroad) _ (λ x is.
    gives_ok IsFound (requests.Command (commands.RuleDel (rule_choice items)))
    (and_from _ _ (and_from _ _ (and_from _ _ (rules_give ws taken are (not_refused (is_empty items) TooBroad x is)) found.4) found.5) found.3))
asks_give RuleFlush ws taken are found = gives_ok IsFound _ tt
asks_give RuleShow ws taken are found = gives_ok IsFound _ tt

-- ---- a line

items_give : (verb : ObjectVerb) (ws : List Word) → Each IsPlainWord ws → Gives IsFound (items_request (meaning_of verb) ws)
items_give verb ws plain = λ request h.
    let s : Spells (meaning_of verb) ws request = spells (meaning_of verb) ws request h in
    asks_give verb ws s.taken s.good.spelled (items_found (meaning_of verb).line ws s.taken no_items (words_found verb) s.good.spelled plain (tt, tt, refl, refl, refl, refl)) request s.asks

verb_gives : (object : Object) (ws : List Word) → Each IsPlainWord ws → Gives IsFound (verb_request object ws)
verb_gives object [] plain = items_give (lone_verb object) [] tt
verb_gives object (w ∷ ws) plain = gives_then IsFound (ok_or (verb_of object w) UnknownVerb) _ (λ verb _. items_give verb ws plain.1)

object_gives : (ws : List Word) → Each IsPlainWord ws → Gives IsFound (object_request ws)
object_gives [] plain = λ request h. absurd cc
object_gives (w ∷ ws) plain = gives_then IsFound (ok_or (object_of w) UnknownObject) _ (λ object _. verb_gives object ws plain.1)

skip_by : (w : Word) (ws : List Word) (b : Bool) → Each IsPlainWord (w ∷ ws) → Each IsPlainWord (if b then ws else w ∷ ws)
skip_by w ws true plain = plain.1
skip_by w ws false plain = plain

skip_plain : (x : Word) (ws : List Word) → Each IsPlainWord ws → Each IsPlainWord (skip_word x ws)
skip_plain x [] plain = tt
skip_plain x (w ∷ ws) plain = skip_by w ws (bytes_eq x w) plain

-- what a line asks for, if anything
abbrev IsFoundLine : Option Request → Type 0
IsFoundLine None = Unit {0}
IsFoundLine (Some request) = IsFound request

words_give : (ws : List Word) → Each IsPlainWord ws → Gives IsFoundLine (words_request ws)
words_give [] plain = gives_ok IsFoundLine None tt
words_give (w ∷ ws) plain =
    let rest : List Word = skip_word (codes "-4") (skip_word (codes "ip") (w ∷ ws)) in
    gives_then IsFoundLine (object_request rest) _ (λ request is.
    gives_ok IsFoundLine (Some request) (object_gives rest (skip_plain (codes "-4") (skip_word (codes "ip") (w ∷ ws)) (skip_plain (codes "ip") (w ∷ ws) plain)) request is))

is_spelled_by : (command : Command) → IsStorable command → IsFoundCommand command → is_spelled command ≡ true
is_spelled_by (commands.RouteAdd route) may found = and_from (is_storable_route route) (is_plain_name route.dev) may found
is_spelled_by (commands.RouteChange route) may found = and_from (is_storable_route route) (is_plain_name route.dev) may found
is_spelled_by (commands.RouteReplace route) may found = and_from (is_storable_route route) (is_plain_name route.dev) may found
is_spelled_by (commands.RouteDel choice) may found = found
is_spelled_by (commands.RouteFlush selector) may found = found
is_spelled_by (commands.RuleAdd rule) may found = and_from (is_storable_rule rule.action rule.suppress) (is_plain_name rule.iif) may found
is_spelled_by (commands.RuleDel choice) may found = found
is_spelled_by commands.RuleFlush may found = refl

-- a line can express each command that a line asks for
pub found_is_spelled : (line : List ℕ) (command : Command) → reading line ≡ Ok (Some (requests.Command command)) → is_spelled command ≡ true
found_is_spelled line command h =
    let both : Gives (λ (o : Option Request). IsStorableLine o × IsFoundLine o) (reading line) =
    gives_then (λ o. IsStorableLine o × IsFoundLine o) (line_words line) words_request (λ ws is. λ o read.
    (subst (λ r. IfOk r IsStorableLine) read (text_is ws (words_request ws) refl).0, words_give ws (line_plain line ws is) o read)) in
    let facts = both (Some (requests.Command command)) h in
    is_spelled_by command facts.0 facts.1
