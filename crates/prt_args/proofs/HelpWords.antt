-- Words among which none asks for help: each kind of error that a parse of them may have is one of bad words.
use Rattle.std.proofs.Common.{◌≡◌, ◌∙◌, ◌&&◌, ◌||◌, ℕ, Bool, cond, true, false, not, true≢false, refl, sym, ap, subst, suc, arith, List, [], ◌∷◌, Option, Some, None, is_some, codes, eqb-true}
use Rattle.std.specs.Prelude.{◌==◌, ◌+◌, min, nat_lt, find, length, slice_get, unwrap_or}
use Rattle.std.specs.List.{fold, list_all, list_any}
use Rattle.std.specs.Option.{option_map_or}
use Rattle.std.specs.Str.{bytes_eq, chars}
use Rattle.clap.specs.Facts.{explicit_source, parser_of_value, unwrap_or_range}
use Rattle.clap.specs.Faults.{action_fault, bundle_fault, check_fault, default_fault, defaults_fault, flag_word_fault, flags_fault, given_default_fault, level_fault, long_fault, option_fault, repeat_fault, positional_fault, react_fault, settle_fault, step_fault, stray_fault, turn_fault, use_fault, values_fault, walk_fault, word_fault}
use Rattle.clap.specs.Kinds.{Kinds, check_kinds, or_else, range_kinds, request_kinds, value_kinds, values_kinds}
use Rattle.clap.specs.Lexer.{has_byte, long_of}
use Rattle.clap.specs.Matches.{count_text}
use Rattle.clap.specs.Simple.{Shape}
use Rattle.clap.specs.Takes.{is_given}
use Rattle.clap.specs.ValueTests.{accepts}
use Rattle.clap.specs.Values.{refused_kind}
use Rattle.clap.specs.Walk.{Held, Outcome, Row, Rule, Step, Text, Waiting, Walk, action_of, after_flag, after_step, arg_by_id, arg_by_index, arg_by_long, arg_by_short, bundle, bundle_met, count_of, done, flag_met, has_long, has_short, idle, is_empty, is_multiple, is_pending, long_met, long_or_other, most_values, next, nothing_held, option as waits_for, option_met, option_word, plain, plain_word, positional, positional_held, refused, settled, finished, has_row, walked_from, started, subcommand as meets, subcommand_met, takes_several, takes_values, to_positional, trailing, value as is_value, values_or_missing, waits, walk, walk_from, walked, with_default, word_met}
use Rattle.clap.specs.declared.builder.action.ArgAction.{ArgAction}
use Rattle.clap.specs.declared.builder.action.ArgAction.TheVariants as action
use Rattle.clap.specs.declared.builder.value_parser.ValueParser.{ValueParser}
use Rattle.clap.specs.declared.builder.value_parser.ValueParser.TheVariants as vp
use Rattle.clap.specs.declared.error.kind.ErrorKind.{ErrorKind}
use Rattle.clap.specs.declared.error.kind.ErrorKind.TheVariants as kind
use Rattle.prt_args.specs.Invocation.{is_equals, is_help}
use Rattle.prt_args.proofs.WordClasses.{before_none, flipped, is_mistake, long_of_is, same_bytes}

-- ---- kinds of bad words alone

abbrev pub AreBad : Kinds → Type 0
AreBad kinds = list_all is_mistake kinds ≡ true

bad_one : (k : ErrorKind) → is_mistake k ≡ true → AreBad (k ∷ [])
bad_one k is = rw is refl

pub bad_or : (first then : Kinds) → AreBad first → AreBad then → AreBad (or_else first then)
bad_or [] then bad worse = worse
bad_or (k ∷ kinds) then bad worse = bad

bad_if : (b : Bool) (one other : Kinds) → AreBad one → AreBad other → AreBad (cond b one other)
bad_if true one other bad worse = bad
bad_if false one other bad worse = worse

pub both : (a b : Bool) → (a && b) ≡ true → (a ≡ true) × (b ≡ true)
both true b e = (refl, e)
both false b e = absurd (true≢false (sym e))

pub neither : (a b : Bool) → (a || b) ≡ false → (a ≡ false) × (b ≡ false)
neither true b e = absurd (true≢false e)
neither false b e = (refl, e)

flip : (b : Bool) → not b ≡ true → b ≡ false
flip true e = absurd (true≢false (sym e))
flip false e = refl

no_items : {X : Type 0} (xs : List X) → is_empty xs ≡ true → xs ≡ []
no_items [] e = refl
no_items (x ∷ xs) e = let same : suc (length xs) ≡ 0 = eqb-true (length (x ∷ xs)) 0 e in absurd (omega arith)

no_item : {X : Type 0} (x : Option X) → is_some x ≡ false → x ≡ None
no_item None e = refl
no_item (Some x) e = absurd (true≢false e)

-- ---- arguments

abbrev is_request : ArgAction → Bool
is_request action.Help = true
is_request action.HelpShort = true
is_request action.HelpLong = true
is_request action.Version = true
is_request _ = false

-- an argument that asks for no help, and has no letter
abbrev is_quiet : Rule → Bool
is_quiet a = not (is_request (action_of a)) && (not (is_some a.short) && is_empty a.short_aliases)

-- `--help` and `-h`
abbrev is_help_rule : Rule → Bool
is_help_rule a = option_map_or (λ name. bytes_eq name (codes "help")) a.long false
    && (is_empty a.aliases
    && (option_map_or (λ letter. letter == 104) a.short false
    && (is_empty a.short_aliases && (not (takes_values a) && (is_empty a.defaults && not (is_some a.index))))))

abbrev pub is_known : Rule → Bool
is_known a = cond (bytes_eq a.id (codes "help")) (is_help_rule a) (is_quiet a)

abbrev pub AreKnown : List Rule → Type 0
AreKnown rules = list_all is_known rules ≡ true

record Quiet (a : Rule) : Type 0 where
  action : is_request (action_of a) ≡ false
  short : a.short ≡ None
  short_aliases : a.short_aliases ≡ []

record Helps (a : Rule) : Type 0 where
  long : a.long ≡ Some (codes "help")
  aliases : a.aliases ≡ []
  short : a.short ≡ Some 104
  short_aliases : a.short_aliases ≡ []
  no_values : takes_values a ≡ false
  no_defaults : is_empty a.defaults ≡ true
  no_index : is_some a.index ≡ false

quiet_is : (a : Rule) → is_quiet a ≡ true → Quiet a
quiet_is a is =
    let first = both (not (is_request (action_of a))) (not (is_some a.short) && is_empty a.short_aliases) is in
    let second = both (not (is_some a.short)) (is_empty a.short_aliases) first.1 in
    record { action = flip _ first.0; short = no_item a.short (flip _ second.0); short_aliases = no_items a.short_aliases second.1 }

named : (name : Option Text) → option_map_or (λ name. bytes_eq name (codes "help")) name false ≡ true → name ≡ Some (codes "help")
named None is = absurd (true≢false (sym is))
named (Some name) is = ap (λ n. Some n) (same_bytes name (codes "help") is)

lettered : (letter : Option ℕ) → option_map_or (λ letter. letter == 104) letter false ≡ true → letter ≡ Some 104
lettered None is = absurd (true≢false (sym is))
lettered (Some letter) is = ap (λ n. Some n) (eqb-true letter 104 is)

helps_is : (a : Rule) → is_help_rule a ≡ true → Helps a
helps_is a is =
    let on_long = both (option_map_or (λ name. bytes_eq name (codes "help")) a.long false) _ is in
    let on_aliases = both (is_empty a.aliases) _ on_long.1 in
    let on_short = both (option_map_or (λ letter. letter == 104) a.short false) _ on_aliases.1 in
    let on_letters = both (is_empty a.short_aliases) _ on_short.1 in
    let on_values = both (not (takes_values a)) _ on_letters.1 in
    let on_defaults = both (is_empty a.defaults) (not (is_some a.index)) on_values.1 in
    record {
      long = named a.long on_long.0;
      aliases = no_items a.aliases on_aliases.0;
      short = lettered a.short on_short.0;
      short_aliases = no_items a.short_aliases on_letters.0;
      no_values = flip _ on_values.0;
      no_defaults = on_defaults.0;
      no_index = flip _ on_defaults.1;
    }

data Known (a : Rule) : Type 0 where
  quiet : bytes_eq a.id (codes "help") ≡ false → Quiet a → Known a
  helps : bytes_eq a.id (codes "help") ≡ true → Helps a → Known a

known_is : (a : Rule) → is_known a ≡ true → Known a
known_is a is = go (bytes_eq a.id (codes "help")) refl
  where
    go : (b : Bool) → bytes_eq a.id (codes "help") ≡ b → Known a
    go true e = helps e (helps_is a (sym (ap (λ b. cond b (is_help_rule a) (is_quiet a)) e) ∙ is))
    go false e = quiet e (quiet_is a (sym (ap (λ b. cond b (is_help_rule a) (is_quiet a)) e) ∙ is))

found_known : (p : Rule → Bool) (rules : List Rule) (a : Rule) → AreKnown rules → find p rules ≡ Some a → (p a ≡ true) × Known a
found_known p [] a known is = absurd cc
found_known p (x ∷ rules) a known is = go (p x) refl is (found_known p rules a (both (is_known x) (list_all is_known rules) known).1)
  where
    go : (b : Bool) → p x ≡ b → cond b (Some x) (find p rules) ≡ Some a → (find p rules ≡ Some a → (p a ≡ true) × Known a) → (p a ≡ true) × Known a
    go true e is later = subst (λ (r : Rule). (p r ≡ true) × Known r) (ap (λ found. unwrap_or found x) is) (e, known_is x (both (is_known x) (list_all is_known rules) known).0)
    go false e is later = later is

-- ---- one use of an argument

refused_bad : (parser : ValueParser) → is_mistake (refused_kind parser) ≡ true
refused_bad vp.NonEmptyString = refl
refused_bad vp.Bool = refl
refused_bad (vp.Names names) = refl
refused_bad (vp.Values values) = refl
refused_bad _ = refl

value_bad : (ignore_case : Bool) (parser : ValueParser) (text : Text) → AreBad (value_kinds ignore_case parser text)
value_bad ignore_case parser text = bad_if (accepts ignore_case parser text) [] (refused_kind parser ∷ []) refl (bad_one (refused_kind parser) (refused_bad parser))

all_values_bad : (ignore_case : Bool) (parser : ValueParser) (texts : List Text) → AreBad (values_kinds ignore_case parser texts)
all_values_bad ignore_case parser [] = refl
all_values_bad ignore_case parser (text ∷ texts) = bad_or (value_kinds ignore_case parser text) (values_kinds ignore_case parser texts) (value_bad ignore_case parser text) (all_values_bad ignore_case parser texts)

values_bad : (a : Rule) (values : List Text) → AreBad (values_fault a values)
values_bad a values = all_values_bad a.ignore_case (parser_of_value a.parser) values

range_by : (none exact right few many : Bool) → AreBad (cond none (kind.InvalidValue ∷ []) (cond exact (cond right [] (kind.WrongNumberOfValues ∷ [])) (cond few (kind.TooFewValues ∷ []) (cond many (kind.TooManyValues ∷ []) []))))
range_by true exact right few many = refl
range_by false true true few many = refl
range_by false true false few many = refl
range_by false false right true many = refl
range_by false false right false true = refl
range_by false false right false false = refl

range_bad : (least most n : ℕ) → AreBad (range_kinds least most n)
range_bad least most n = range_by (nat_lt 0 least && n == 0) (least == most) (least == n) (nat_lt n least) (nat_lt most n)

set_bad : (again : Bool) (a : Rule) (values : List Text) (rows : List Row) → AreBad (action_fault action.Set again a values rows)
set_bad again a values rows = bad_or (repeat_fault again a.id rows) (values_fault a values) (bad_if (has_row a.id rows && not again) (kind.ArgumentConflict ∷ []) [] refl refl) (values_bad a values)

count_bad : (again : Bool) (a : Rule) (values : List Text) (rows : List Row) → AreBad (action_fault action.Count again a values rows)
count_bad again a [] rows = value_bad a.ignore_case (parser_of_value a.parser) (count_text (min (count_of a.id rows + 1) 255))
count_bad again a (value ∷ values) rows = values_bad a (value ∷ values)

action_bad : (does : ArgAction) → is_request does ≡ false → (again : Bool) (a : Rule) (values : List Text) (rows : List Row) → AreBad (action_fault does again a values rows)
action_bad action.Set fits again a values rows = set_bad again a values rows
action_bad action.SetTrue fits again a values rows = set_bad again a values rows
action_bad action.SetFalse fits again a values rows = set_bad again a values rows
action_bad action.Append fits again a values rows = values_bad a values
action_bad action.Count fits again a values rows = count_bad again a values rows
action_bad action.Help fits again a values rows = absurd (true≢false fits)
action_bad action.HelpShort fits again a values rows = absurd (true≢false fits)
action_bad action.HelpLong fits again a values rows = absurd (true≢false fits)
action_bad action.Version fits again a values rows = absurd (true≢false fits)

request_bad : (does : ArgAction) → is_request does ≡ false → AreBad (request_kinds does)
request_bad action.Set fits = refl
request_bad action.SetTrue fits = refl
request_bad action.SetFalse fits = refl
request_bad action.Append fits = refl
request_bad action.Count fits = refl
request_bad action.Help fits = absurd (true≢false fits)
request_bad action.HelpShort fits = absurd (true≢false fits)
request_bad action.HelpLong fits = absurd (true≢false fits)
request_bad action.Version fits = absurd (true≢false fits)

use_bad : (again : Bool) (a : Rule) (values : List Text) (rows : List Row) → Quiet a → AreBad (use_fault again a values rows)
use_bad again a values rows q = bad_or (range_kinds (unwrap_or_range a.range).start_inclusive (most_values a) (length values)) (action_fault (action_of a) again a (values_or_missing a values) rows)
    (range_bad (unwrap_or_range a.range).start_inclusive (most_values a) (length values)) (action_bad (action_of a) q.action again a (values_or_missing a values) rows)

-- ---- what is held and what is awaited, which is no option for help

abbrev IsOther : Option (Text × List Text) → Type 0
IsOther None = Unit {0}
IsOther (Some p) = bytes_eq p.0 (codes "help") ≡ false

abbrev IsCalm : Held → Type 0
IsCalm h = (h.skip ≡ 0) × IsOther h.pending

abbrev WaitsCalmly : Waiting → Type 0
WaitsCalmly (waits_for id) = bytes_eq id (codes "help") ≡ false
WaitsCalmly _ = Unit {0}

abbrev EndsCalmly : Outcome → Type 0
EndsCalmly (waits id) = bytes_eq id (codes "help") ≡ false
EndsCalmly _ = Unit {0}

abbrev StepsCalmly : Step → Type 0
StepsCalmly (next waiting) = WaitsCalmly waiting
StepsCalmly _ = Unit {0}

abbrev GoesCalmly : Walk → Type 0
GoesCalmly w = IsCalm w.held × WaitsCalmly w.waiting

-- ---- the faults of a word

same_id : (a : Rule) (id : Text) → bytes_eq a.id id ≡ true → bytes_eq a.id (codes "help") ≡ true → bytes_eq id (codes "help") ≡ false → ⊥
same_id a id same help other = true≢false (sym help ∙ subst (λ name. bytes_eq name (codes "help") ≡ false) (sym (same_bytes a.id id same)) other)

module _ (c : List Rule) (known : AreKnown c) where
  found_bad : (again : Bool) (id : Text) (values : List Text) (rows : List Row) → bytes_eq id (codes "help") ≡ false → (rule : Option Rule) → arg_by_id c id ≡ rule
      → AreBad (option_map_or (λ a. use_fault again a values rows) rule [])
  found_bad again id values rows other None is = refl
  found_bad again id values rows other (Some a) is = go (found_known (λ a. bytes_eq a.id id) c a known is)
    where
      go : (bytes_eq a.id id ≡ true) × Known a → AreBad (use_fault again a values rows)
      go (same, quiet no_help q) = use_bad again a values rows q
      go (same, helps help it) = absurd (same_id a id same help other)

  settle_bad : (again : Bool) (h : Held) → IsOther h.pending → AreBad (settle_fault c again h)
  settle_bad again h other = go h.pending other
    where
      go : (pending : Option (Text × List Text)) → IsOther pending → AreBad (option_map_or (λ p. option_map_or (λ a. use_fault again a p.1 h.rows) (arg_by_id c p.0) []) pending [])
      go None other = refl
      go (Some p) other = found_bad again p.0 p.1 h.rows other (arg_by_id c p.0) refl

  react_bad : (again : Bool) (a : Rule) (values : List Text) (h : Held) → Quiet a → IsOther h.pending → AreBad (react_fault c again a values h)
  react_bad again a values h q other = bad_or (settle_fault c again h) (use_fault again a values (settled c h).rows) (settle_bad again h other) (use_bad again a values (settled c h).rows q)

  option_bad : (again : Bool) (a : Rule) (value : Option Text) (h : Held) → Quiet a → IsOther h.pending → AreBad (option_fault c again a value h)
  option_bad again a None h q other = settle_bad again h other
  option_bad again a (Some v) h q other = react_bad again a (v ∷ []) h q other

  -- `--help` is found by its name alone
  long_of_help : (a : Rule) (name : Text) → Helps a → has_long a name ≡ true → bytes_eq (codes "help") name ≡ false → ⊥
  long_of_help a name it has no_help =
      let none : has_long a name ≡ false = rw (it.long, it.aliases, no_help) refl in
      true≢false (sym has ∙ none)

  long_bad : (again : Bool) (name : Text) (value : Option Text) (h : Held) → IsOther h.pending → (value ≡ None → bytes_eq (codes "help") name ≡ false) → AreBad (long_fault c again (arg_by_long c name) value h)
  long_bad again name value h other no_help = go (arg_by_long c name) refl
    where
      help_bad : (a : Rule) (value : Option Text) → Helps a → has_long a name ≡ true → (value ≡ None → bytes_eq (codes "help") name ≡ false) → AreBad (long_fault c again (Some a) value h)
      help_bad a None it has no_help = absurd (long_of_help a name it has (no_help refl))
      help_bad a (Some v) it has no_help = rw it.no_values refl

      found : (a : Rule) → ((not (is_some a.index) && has_long a name) ≡ true) × Known a → AreBad (long_fault c again (Some a) value h)
      found a (is, quiet _ q) = bad_if (takes_values a) (option_fault c again a value h) (cond (is_some value) (kind.TooManyValues ∷ []) (react_fault c again a [] h)) (option_bad again a value h q other) (bad_if (is_some value) (kind.TooManyValues ∷ []) (react_fault c again a [] h) refl (react_bad again a [] h q other))
      found a (is, helps _ it) = help_bad a value it (both (not (is_some a.index)) (has_long a name) is).1 no_help

      go : (rule : Option Rule) → arg_by_long c name ≡ rule → AreBad (long_fault c again rule value h)
      go None is = refl
      go (Some a) is = found a (found_known (λ a. not (is_some a.index) && has_long a name) c a known is)

  -- no letter but `h` is found
  no_letter : (letter : ℕ) → (letter == 104) ≡ false → arg_by_short c letter ≡ None
  no_letter letter other = go (arg_by_short c letter) refl
    where
      found : (a : Rule) → ((not (is_some a.index) && has_short a letter) ≡ true) × Known a → ⊥
      found a (is, quiet _ q) =
          let none : has_short a letter ≡ false = rw (q.short, q.short_aliases) refl in
          true≢false (sym (both (not (is_some a.index)) (has_short a letter) is).1 ∙ none)
      found a (is, helps _ it) = by (104 == letter) refl
        where
          by : (b : Bool) → (104 == letter) ≡ b → ⊥
          by true e = true≢false (ap (λ n. n == 104) (eqb-true 104 letter e) ∙ other)
          by false e =
              let none : has_short a letter ≡ false = rw (it.short, it.short_aliases, e) refl in
              true≢false (sym (both (not (is_some a.index)) (has_short a letter) is).1 ∙ none)

      go : (rule : Option Rule) → arg_by_short c letter ≡ rule → arg_by_short c letter ≡ None
      go None is = is
      go (Some a) is = absurd (found a (found_known (λ a. not (is_some a.index) && has_short a letter) c a known is))

  -- what begins a bundle is no `h`
  abbrev IsOtherLetter : Option ℕ → Type 0
  IsOtherLetter letter = option_map_or (λ letter. letter == 104) letter false ≡ false

  bundle_bad : (again : Bool) (byte : ℕ) (rest : Text) (h : Held) → h.skip ≡ 0 → (letter : Option ℕ) → slice_get (chars (byte ∷ rest)) 0 ≡ letter → IsOtherLetter letter → AreBad (bundle_fault c again (byte ∷ rest) h)
  unfolding flags_fault
  bundle_bad again byte rest h whole None is other = rw (whole, is) refl
  bundle_bad again byte rest h whole (Some letter) is other = rw (whole, is, no_letter letter other) refl

  -- ---- what a word makes of the walk

  id_of_value : (a : Rule) → Known a → takes_values a ≡ true → bytes_eq a.id (codes "help") ≡ false
  id_of_value a (quiet other q) takes = other
  id_of_value a (helps _ it) takes = absurd (true≢false (sym takes ∙ it.no_values))

  option_calm : (a : Rule) (value : Option Text) (h : Held) → IsCalm h → bytes_eq a.id (codes "help") ≡ false → IsCalm (option_met c a value h).0 × EndsCalmly (option_met c a value h).1
  option_calm a None h calm other = ((calm.0, other), other)
  option_calm a (Some v) h calm other = ((calm.0, tt), tt)

  flag_calm : (a : Rule) (value : Option Text) (h : Held) → IsCalm h → IsCalm (flag_met c a value h).0 × EndsCalmly (flag_met c a value h).1
  flag_calm a None h calm = ((calm.0, tt), tt)
  flag_calm a (Some v) h calm = (calm, tt)

  long_calm : (name : Text) (value : Option Text) (h : Held) → IsCalm h → IsCalm (long_met c (arg_by_long c name) value h).0 × EndsCalmly (long_met c (arg_by_long c name) value h).1
  long_calm name value h calm = go (arg_by_long c name) refl
    where
      found : (a : Rule) → Known a → (takes : Bool) → takes_values a ≡ takes → IsCalm (cond takes (option_met c a value h) (flag_met c a value h)).0 × EndsCalmly (cond takes (option_met c a value h) (flag_met c a value h)).1
      found a k true is = option_calm a value h calm (id_of_value a k is)
      found a k false is = flag_calm a value h calm

      go : (rule : Option Rule) → arg_by_long c name ≡ rule → IsCalm (long_met c rule value h).0 × EndsCalmly (long_met c rule value h).1
      go None is = (calm, tt)
      go (Some a) is = found a (found_known (λ a. not (is_some a.index) && has_long a name) c a known is).1 (takes_values a) refl

  bundle_calm : (byte : ℕ) (rest : Text) (h : Held) → IsCalm h → (letter : Option ℕ) → slice_get (chars (byte ∷ rest)) 0 ≡ letter → IsOtherLetter letter
      → IsCalm (bundle c (byte ∷ rest) h).0 × EndsCalmly (bundle c (byte ∷ rest) h).1
  unfolding bundle_met
  bundle_calm byte rest h calm None is other = rw (calm.0, is) ((refl, calm.1), tt)
  bundle_calm byte rest h calm (Some letter) is other = rw (calm.0, is, no_letter letter other) ((refl, calm.1), tt)

  started_calm : (id : Text) (pending : Option (Text × List Text)) → bytes_eq id (codes "help") ≡ false → IsOther pending → bytes_eq (started id pending).0 (codes "help") ≡ false
  started_calm id None other calm = other
  started_calm id (Some p) other calm = calm

  plain_calm : (waiting : Waiting) (word : Text) (h : Held) → IsCalm h → WaitsCalmly waiting → IsCalm (plain_word c waiting word h).0 × StepsCalmly (plain_word c waiting word h).1
  plain_calm idle word h calm other = (calm, tt)
  plain_calm positional word h calm other = (calm, tt)
  plain_calm (waits_for id) word h calm other = go (arg_by_id c id)
    where
      either : (b : Bool) → WaitsCalmly (cond b (waits_for id) idle)
      either true = other
      either false = tt

      go : (rule : Option Rule) → IsCalm (option_word rule id word h).0 × WaitsCalmly (option_word rule id word h).1
      go None = (calm, other)
      go (Some a) = ((calm.0, started_calm id h.pending other calm.1), either _)

  after_calm : (waiting : Waiting) (word : Text) (h : Held) (outcome : Outcome) → IsCalm h → WaitsCalmly waiting → EndsCalmly outcome
      → IsCalm (after_flag c waiting word h outcome).0 × StepsCalmly (after_flag c waiting word h outcome).1
  after_calm waiting word h done calm other ends = (calm, tt)
  after_calm waiting word h (waits id) calm other ends = (calm, ends)
  after_calm waiting word h plain calm other ends = plain_calm waiting word h calm other
  after_calm waiting word h refused calm other ends = plain_calm waiting word h calm other

  -- ---- a word that doesn't ask for help

  -- its faults, and what it makes of the walk, by its name and value as an option
  abbrev IsPassedBy : Bool → Waiting → Held → Text → Option (Text × Option Text) → Type 0
  IsPassedBy again waiting h word found =
      AreBad (flag_word_fault c again found word h)
      × (IsCalm (long_or_other c waiting word found h).0 × StepsCalmly (long_or_other c waiting word found h).1)

  abbrev IsPassed : Bool → Waiting → Held → Text → Type 0
  IsPassed again waiting h word = IsPassedBy again waiting h word (long_of word)

  module _ (again : Bool) (waiting : Waiting) (h : Held) (calm : IsCalm h) (other : WaitsCalmly waiting) where
    named_passed : (word name : Text) (value : Option Text) → (value ≡ None → bytes_eq (codes "help") name ≡ false) → IsPassedBy again waiting h word (Some (name, value))
    named_passed word name value no_help =
        let met = long_met c (arg_by_long c name) value h in
        (long_bad again name value h calm.1 no_help, after_calm waiting word met.0 met.1 (long_calm name value h calm).0 other (long_calm name value h calm).1)

    long_passed : (byte : ℕ) (rest : Text) (has : Bool) → has_byte 61 (byte ∷ rest) ≡ has → bytes_eq (byte ∷ rest) (codes "help") ≡ false → IsPassed again waiting h (45 ∷ 45 ∷ byte ∷ rest)
    long_passed byte rest true is no_help = subst (IsPassedBy again waiting h (45 ∷ 45 ∷ byte ∷ rest)) (sym (long_of_is byte rest true is)) (named_passed (45 ∷ 45 ∷ byte ∷ rest) _ _ (λ none. absurd cc))
    long_passed byte rest false is no_help = subst (IsPassedBy again waiting h (45 ∷ 45 ∷ byte ∷ rest)) (sym (long_of_is byte rest false is))
        (named_passed (45 ∷ 45 ∷ byte ∷ rest) _ _ (λ none. ap (bytes_eq (codes "help")) (before_none is_equals (byte ∷ rest) is) ∙ flipped (byte ∷ rest) (codes "help") no_help))

    plain_passed : (word : Text) → IsCalm (plain_word c waiting word h).0 × StepsCalmly (plain_word c waiting word h).1
    plain_passed word = plain_calm waiting word h calm other

    short_passed : (byte : ℕ) (rest : Text) → (byte == 45) ≡ false → IsOtherLetter (slice_get (chars (byte ∷ rest)) 0) → IsPassed again waiting h (45 ∷ byte ∷ rest)
    short_passed byte rest short letter =
        let met = bundle c (byte ∷ rest) h in
        let calmly = bundle_calm byte rest h calm _ refl letter in
        rw (short, short) (bundle_bad again byte rest h calm.0 _ refl letter, after_calm waiting (45 ∷ byte ∷ rest) met.0 met.1 calmly.0 other calmly.1)

    double_passed : (rest : Text) → is_help (45 ∷ 45 ∷ rest) ≡ false → IsPassed again waiting h (45 ∷ 45 ∷ rest)
    double_passed [] no_help = (refl, plain_passed (45 ∷ 45 ∷ []))
    double_passed (byte ∷ rest) no_help = long_passed byte rest _ refl (neither (bytes_eq (byte ∷ rest) (codes "help")) _ no_help).0

    hyphen_passed : (rest : Text) → is_help (45 ∷ rest) ≡ false → IsPassed again waiting h (45 ∷ rest)
    hyphen_passed [] no_help = (refl, plain_passed (45 ∷ []))
    hyphen_passed (byte ∷ rest) no_help = go (byte == 45) refl
      where
        go : (b : Bool) → (byte == 45) ≡ b → IsPassed again waiting h (45 ∷ byte ∷ rest)
        go true e = subst (λ n. IsPassed again waiting h (45 ∷ n ∷ rest)) (sym (eqb-true byte 45 e)) (double_passed rest (subst (λ n. is_help (45 ∷ n ∷ rest) ≡ false) (eqb-true byte 45 e) no_help))
        go false e = short_passed byte rest e (neither (bytes_eq (45 ∷ byte ∷ rest) (codes "--help")) _ no_help).1

    word_passed : (word : Text) → is_help word ≡ false → IsPassed again waiting h word
    word_passed [] no_help = (refl, plain_passed [])
    word_passed (byte ∷ rest) no_help = go (byte == 45) refl
      where
        go : (b : Bool) → (byte == 45) ≡ b → IsPassed again waiting h (byte ∷ rest)
        go true e = subst (λ n. IsPassed again waiting h (n ∷ rest)) (sym (eqb-true byte 45 e)) (hyphen_passed rest (subst (λ n. is_help (n ∷ rest) ≡ false) (eqb-true byte 45 e) no_help))
        go false e = rw (e, e) (refl, plain_passed (byte ∷ rest))

  no_subcommand : (waiting : Waiting) (word : Text) → subcommand_met [] waiting word ≡ None
  no_subcommand idle word = refl
  no_subcommand (waits_for id) word = refl
  no_subcommand positional word = refl

  met_calm : (trails : Bool) (waiting : Waiting) (position : ℕ) (word : Text) (h : Held) → IsCalm h → WaitsCalmly waiting → is_help word ≡ false
      → IsCalm (word_met c [] trails waiting position word h).0 × StepsCalmly (word_met c [] trails waiting position word h).1
  met_calm true waiting position word h calm other no_help = (calm, tt)
  met_calm false waiting position word h calm other no_help = rw (no_subcommand waiting word) (go (bytes_eq word (45 ∷ 45 ∷ [])))
    where
      go : (b : Bool) → IsCalm (cond b (h, trailing position) (long_or_other c waiting word (long_of word) h)).0 × StepsCalmly (cond b (h, trailing position) (long_or_other c waiting word (long_of word) h)).1
      go true = (calm, tt)
      go false = (word_passed false waiting h calm other word no_help).1

  -- the walk after a word
  index_other : (position : ℕ) (a : Rule) → arg_by_index c position ≡ Some a → bytes_eq a.id (codes "help") ≡ false
  index_other position a is = go (found_known (λ a. option_map_or (λ k. k == position) a.index false) c a known is)
    where
      indexed : (index : Option ℕ) → option_map_or (λ k. k == position) index false ≡ true → is_some index ≡ false → ⊥
      indexed None is none = true≢false (sym is)
      indexed (Some k) is none = true≢false none

      go : (option_map_or (λ k. k == position) a.index false ≡ true) × Known a → bytes_eq a.id (codes "help") ≡ false
      go (is, quiet other q) = other
      go (is, helps _ it) = absurd (indexed a.index is it.no_index)

  positional_calm : (a : Rule) (word : Text) (h : Held) → bytes_eq a.id (codes "help") ≡ false → IsCalm h → IsCalm (positional_held c a word h)
  positional_calm a word h other calm = go (is_pending a h.pending && takes_several a)
    where
      go : (b : Bool) → (cond b h (settled c h)).skip ≡ 0 × (bytes_eq (started a.id (cond b h (settled c h)).pending).0 (codes "help") ≡ false)
      go true = (calm.0, started_calm a.id h.pending other calm.1)
      go false = (calm.0, other)

  to_positional_calm : (rule : Option Rule) (position : ℕ) (word : Text) (w : Walk) (h : Held) → arg_by_index c position ≡ rule → IsCalm h → WaitsCalmly w.waiting → GoesCalmly (to_positional c rule word w h)
  to_positional_calm None position word w h is calm other = (calm, other)
  to_positional_calm (Some a) position word w h is calm other = (positional_calm a word h (index_other position a is) calm, either (is_multiple a))
    where
      either : (b : Bool) → WaitsCalmly (cond b positional idle)
      either true = tt
      either false = tt

  step_calm : (word : Text) (w : Walk) (h : Held) (step : Step) → IsCalm h → WaitsCalmly w.waiting → StepsCalmly step → GoesCalmly (after_step c word w h step)
  step_calm word w h (next waiting) calm other steps = (calm, steps)
  step_calm word w h (trailing position) calm other steps = (calm, other)
  step_calm word w h (meets name) calm other steps = (calm, other)
  step_calm word w h is_value calm other steps = to_positional_calm (arg_by_index c w.position) w.position word w h refl calm other

  walked_calm : (w : Walk) (word : Text) → GoesCalmly w → is_help word ≡ false → GoesCalmly (walked c [] w word)
  unfolding walked
  walked_calm w word goes no_help = go w.stopped
    where
      met : Held × Step
      met = word_met c [] w.is_trailing w.waiting w.position word w.held

      go : (stopped : Option (Text × List Text)) → GoesCalmly (walked_from c [] stopped w word)
      go None = step_calm word w met.0 met.1 (met_calm w.is_trailing w.waiting w.position word w.held goes.0 goes.1 no_help).0 goes.1 (met_calm w.is_trailing w.waiting w.position word w.held goes.0 goes.1 no_help).1
      go (Some p) = goes

-- ---- all words of a subcommand

module _ (s : Shape) (known : AreKnown s.rules) where
  word_bad : (trails : Bool) (waiting : Waiting) (word : Text) (h : Held) → IsCalm h → WaitsCalmly waiting → is_help word ≡ false → AreBad (word_fault s [] trails waiting word h)
  word_bad true waiting word h calm other no_help = refl
  word_bad false waiting word h calm other no_help =
      rw (no_subcommand s.rules known waiting word) (bad_if (bytes_eq word (45 ∷ 45 ∷ [])) [] (flag_word_fault s.rules s.args_override_self (long_of word) word h) refl (word_passed s.rules known s.args_override_self waiting h calm other word no_help).0)

  positional_bad : (a : Rule) (h : Held) → IsOther h.pending → AreBad (positional_fault s.rules s.args_override_self a h)
  positional_bad a h other = bad_if (is_pending a h.pending && takes_several a) [] (settle_fault s.rules s.args_override_self h) refl (settle_bad s.rules known s.args_override_self h other)

  stray_bad : AreBad (stray_fault s)
  stray_bad = bad_if s.is_leaf (kind.UnknownArgument ∷ []) (kind.UnknownArgument ∷ kind.InvalidSubcommand ∷ []) refl refl

  step_bad : (position : ℕ) (h : Held) (step : Step) → IsOther h.pending → AreBad (step_fault s position h step)
  step_bad position h (next waiting) other = refl
  step_bad position h (trailing place) other = refl
  step_bad position h (meets name) other = refl
  step_bad position h is_value other = go (arg_by_index s.rules position)
    where
      go : (rule : Option Rule) → AreBad (option_map_or (λ a. positional_fault s.rules s.args_override_self a h) rule (stray_fault s))
      go None = stray_bad
      go (Some a) = positional_bad a h other

  turn_bad : (w : Walk) (word : Text) → GoesCalmly w → is_help word ≡ false → AreBad (turn_fault s [] w word)
  turn_bad w word goes no_help =
      let met = word_met s.rules [] w.is_trailing w.waiting w.position word w.held in
      bad_if (is_some w.stopped) [] (or_else (word_fault s [] w.is_trailing w.waiting word w.held) (step_fault s w.position met.0 met.1)) refl (bad_or (word_fault s [] w.is_trailing w.waiting word w.held) (step_fault s w.position met.0 met.1)
      (word_bad w.is_trailing w.waiting word w.held goes.0 goes.1 no_help)
      (step_bad w.position met.0 met.1 (met_calm s.rules known w.is_trailing w.waiting w.position word w.held goes.0 goes.1 no_help).0.1))

  walk_bad : (w : Walk) (words : List Text) → GoesCalmly w → list_any is_help words ≡ false → AreBad (walk_fault s [] w words)
  unfolding walk_fault
  walk_bad w [] goes none = refl
  walk_bad w (word ∷ words) goes none =
      let each = neither (is_help word) (list_any is_help words) none in
      bad_or (turn_fault s [] w word) (walk_fault s [] (walked s.rules [] w word) words) (turn_bad w word goes each.0) (walk_bad (walked s.rules [] w word) words (walked_calm s.rules known w word goes each.0) each.1)

  ends_calm : (w : Walk) (words : List Text) → GoesCalmly w → list_any is_help words ≡ false → GoesCalmly (fold (walked s.rules []) w words)
  ends_calm w [] goes none = goes
  ends_calm w (word ∷ words) goes none =
      let each = neither (is_help word) (list_any is_help words) none in
      ends_calm (walked s.rules [] w word) words (walked_calm s.rules known w word goes each.0) each.1

default_bad : (rows : List Row) (a : Rule) → Known a → AreBad (default_fault rows a)
default_bad rows a (quiet _ q) = bad_if (has_row a.id rows || is_empty a.defaults) [] (given_default_fault a a.defaults) refl (bad_or (request_kinds (action_of a)) (values_fault a a.defaults) (request_bad (action_of a) q.action) (values_bad a a.defaults))
default_bad rows a (helps _ it) = rw it.no_defaults (either (has_row a.id rows))
  where
    either : (b : Bool) → AreBad (cond (b || true) [] (given_default_fault a a.defaults))
    either true = refl
    either false = refl

defaults_bad : (rules : List Rule) → AreKnown rules → (rows : List Row) → AreBad (defaults_fault rows rules)
unfolding defaults_fault
defaults_bad [] known rows = refl
defaults_bad (a ∷ rules) known rows =
    let all = both (is_known a) (list_all is_known rules) known in
    bad_or (default_fault rows a) (defaults_fault (with_default rows a) rules) (default_bad rows a (known_is a all.0)) (defaults_bad rules all.1 (with_default rows a))

check_by : (wants_help wants_subcommand wants_argument : Bool) → AreBad (check_kinds wants_help wants_subcommand wants_argument)
check_by true wants_subcommand wants_argument = refl
check_by false true wants_argument = refl
check_by false false true = refl
check_by false false false = refl

pub check_bad : (s : Shape) (rows : List Row) (has : Bool) → AreBad (check_fault s rows has)
check_bad s rows has = check_by (not has && (s.arg_required_else_help && not (list_any (λ r. explicit_source r.source) rows))) (not has && s.subcommand_required)
    (not (s.subcommand_negates_reqs && has) && list_any (λ a. a.required && not (is_given a.id rows)) s.rules)

-- words of a subcommand that don't ask for help
pub level_bad : (s : Shape) → AreKnown s.rules → (words : List Text) → list_any is_help words ≡ false → AreBad (level_fault s [] nothing_held words false [])
level_bad s known words none =
    let calm : GoesCalmly (walk_from nothing_held) = ((refl, tt), tt) in
    let end = (walk s.rules [] nothing_held words).held in
    let ended = ends_calm s known (walk_from nothing_held) words calm none in
    let settle = settle_fault s.rules s.args_override_self end in
    let defaults = defaults_fault (settled s.rules end).rows s.rules in
    let checks = check_fault s (finished s.rules end) false in
    bad_or (walk_fault s [] (walk_from nothing_held) words) (or_else [] (or_else settle (or_else defaults checks))) (walk_bad s known (walk_from nothing_held) words calm none)
    (bad_or settle (or_else defaults checks) (settle_bad s.rules known s.args_override_self end ended.0.1)
    (bad_or defaults checks (defaults_bad s.rules known (settled s.rules end).rows) (check_bad s (finished s.rules end) false)))
