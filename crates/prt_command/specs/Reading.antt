-- What a line asks for, or its first fault.
use Rattle.std.specs.Prelude.{ℕ, Bool, true, false, not, ◌&&◌, ◌||◌, ◌==◌, nat_lt, nat_le, List, [], ◌∷◌, length, filter, find, Option, Some, None}
use Rattle.std.specs.Prelude.{Result, Ok, Err, bytes_eq, codes, if◌then◌else◌}
use Rattle.std.specs.List.{before_first, list_all, slice_split}
use Rattle.std.specs.Option.{ok_or}
use Rattle.prt_addr.specs.Word.{Word, is_white, is_one_of}
use Rattle.prt_refusals.specs.declared.refusal.Refusal.{Refusal}
use Rattle.prt_refusals.specs.declared.refusal.Refusal.TheVariants.{LineTooLong, NotAscii, UnknownObject, UnknownVerb}
use Rattle.prt_command.specs.Items.{no_items}
use Rattle.prt_command.specs.Lines.{longest_line}
use Rattle.prt_command.specs.LineKinds.{LineKind, bare_line, route_edit_line, route_get_line, route_list_line, rule_edit_line}
use Rattle.prt_command.specs.Requests.{Asks, refuse_if, route_request, route_del_request, route_flush_request, route_show_request, route_get_request}
use Rattle.prt_command.specs.Requests.{rule_add_request, rule_del_request}
use Rattle.prt_command.specs.Scan.{items_of}
use Rattle.prt_command.specs.Then.{◌>>=◌}
use Rattle.prt_command.specs.declared.request.Command.TheVariants as commands
use Rattle.prt_command.specs.declared.request.Query.TheVariants as queries
use Rattle.prt_command.specs.declared.request.Request.{Request}
use Rattle.prt_command.specs.declared.request.Request.TheVariants as requests
use Rattle.prt_command.specs.declared.verb.Object.{Object}
use Rattle.prt_command.specs.declared.verb.Object.TheVariants.{Route, Rule}
use Rattle.prt_command.specs.declared.verb.ObjectVerb.{ObjectVerb}
use Rattle.prt_command.specs.declared.verb.ObjectVerb.TheVariants.{RouteAdd, RouteChange, RouteReplace, RouteDel, RouteFlush, RouteShow, RouteGet}
use Rattle.prt_command.specs.declared.verb.ObjectVerb.TheVariants.{RuleAdd, RuleDel, RuleFlush, RuleShow}

-- ---- words

-- what comes before the first `#`, also inside a word
abbrev pub before_comment : List ℕ → List ℕ
before_comment line = before_first (λ b. b == 35) line

abbrev pub has_bytes : Word → Bool
has_bytes [] = false
has_bytes (b ∷ w) = true

-- the parts between white space, except empty ones
abbrev pub words : List ℕ → List Word
words text = filter has_bytes (slice_split is_white text)

-- tab, carriage return, and from space to tilde
abbrev pub is_text_byte : ℕ → Bool
is_text_byte b = b == 9 || b == 13 || (nat_le 32 b && nat_le b 126)

-- ---- objects and verbs

-- What a verb means: the words that express it, the items of its line, and what they ask for.
pub record Meaning : Type 0 where
  pub spellings : List Word
  pub line : LineKind
  pub asks : Asks

abbrev pub add_words : List Word
add_words = codes "add" ∷ codes "a" ∷ []

abbrev pub del_words : List Word
del_words = codes "del" ∷ codes "delete" ∷ codes "d" ∷ []

abbrev pub show_words : List Word
show_words = codes "show" ∷ codes "list" ∷ codes "lst" ∷ codes "ls" ∷ []

abbrev pub meaning_of : ObjectVerb → Meaning
meaning_of RouteAdd = record { spellings = add_words; line = route_edit_line; asks = route_request commands.RouteAdd }
meaning_of RouteChange = record { spellings = codes "change" ∷ codes "chg" ∷ []; line = route_edit_line; asks = route_request commands.RouteChange }
meaning_of RouteReplace = record { spellings = codes "replace" ∷ []; line = route_edit_line; asks = route_request commands.RouteReplace }
meaning_of RouteDel = record { spellings = del_words; line = route_edit_line; asks = route_del_request }
meaning_of RouteFlush = record { spellings = codes "flush" ∷ []; line = route_list_line; asks = route_flush_request }
meaning_of RouteShow = record { spellings = show_words; line = route_list_line; asks = route_show_request }
meaning_of RouteGet = record { spellings = codes "get" ∷ []; line = route_get_line; asks = route_get_request }
meaning_of RuleAdd = record { spellings = add_words; line = rule_edit_line; asks = rule_add_request }
meaning_of RuleDel = record { spellings = del_words; line = rule_edit_line; asks = rule_del_request }
meaning_of RuleFlush = record { spellings = codes "flush" ∷ []; line = bare_line; asks = λ _. Ok (requests.Command commands.RuleFlush) }
meaning_of RuleShow = record { spellings = show_words; line = bare_line; asks = λ _. Ok (requests.Query queries.RuleShow) }

abbrev pub verbs_of : Object → List ObjectVerb
verbs_of Route = RouteAdd ∷ RouteChange ∷ RouteReplace ∷ RouteDel ∷ RouteFlush ∷ RouteShow ∷ RouteGet ∷ []
verbs_of Rule = RuleAdd ∷ RuleDel ∷ RuleFlush ∷ RuleShow ∷ []

-- the verb that is meant if none follows the object
abbrev pub lone_verb : Object → ObjectVerb
lone_verb Route = RouteShow
lone_verb Rule = RuleShow

abbrev pub object_words : Object → List Word
object_words Route = codes "route" ∷ codes "ro" ∷ codes "r" ∷ []
object_words Rule = codes "rule" ∷ codes "ru" ∷ []

-- the verb of this object that the word expresses
abbrev pub verb_of : Object → Word → Option ObjectVerb
verb_of object w = find (λ verb. is_one_of w (meaning_of verb).spellings) (verbs_of object)

-- the object that the word expresses
abbrev pub object_of : Word → Option Object
object_of w = find (λ object. is_one_of w (object_words object)) (Route ∷ Rule ∷ [])

-- what the items of a verb ask for, or their first fault
abbrev pub items_request : Meaning → List Word → Result Request Refusal
items_request verb ws = items_of verb.line no_items ws >>= verb.asks

-- the verb and its items
abbrev pub verb_request : Object → List Word → Result Request Refusal
verb_request object [] = items_request (meaning_of (lone_verb object)) []
verb_request object (w ∷ ws) = ok_or (verb_of object w) UnknownVerb >>= λ verb. items_request (meaning_of verb) ws

-- the object, its verb and the items
abbrev pub object_request : List Word → Result Request Refusal
object_request [] = Err UnknownObject
object_request (w ∷ ws) = ok_or (object_of w) UnknownObject >>= λ object. verb_request object ws

-- the words, without this one if it is in front
abbrev pub skip_word : Word → List Word → List Word
skip_word x [] = []
skip_word x (w ∷ ws) = if bytes_eq x w then ws else w ∷ ws

-- a line without words asks for nothing; `ip` and `-4` in front of an object are skipped
abbrev pub words_request : List Word → Result (Option Request) Refusal
words_request [] = Ok None
words_request (w ∷ ws) = object_request (skip_word (codes "-4") (skip_word (codes "ip") (w ∷ ws))) >>= λ request. Ok (Some request)

-- the words of a line, which is not too long and has only text before its comment
abbrev pub line_words : List ℕ → Result (List Word) Refusal
line_words line =
    refuse_if (nat_lt longest_line (length line)) LineTooLong >>= λ _.
    refuse_if (not (list_all is_text_byte (before_comment line))) NotAscii >>= λ _.
    Ok (words (before_comment line))

-- what a line asks for, or its first fault
abbrev pub reading : List ℕ → Result (Option Request) Refusal
reading line = line_words line >>= words_request
