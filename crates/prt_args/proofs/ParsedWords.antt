-- The words of the program, as clap reads them and as the definition of an invocation does.
use Rattle.std.proofs.Common.{◌≡◌, ◌∙◌, ◌||◌, ℕ, Bool, cond, true, false, refl, sym, ap, ap₂, inl, subst, List, [], ◌∷◌, ◌++◌, Option, Some, None, is_some, codes, drop, append_assoc, append-nil, eqb-true, ne_eqb}
use Rattle.std.proofs.lemmas.Bool.{eq-eqb, eqb-false}
use Rattle.std.specs.Prelude.{◌==◌, find, slice_get, unwrap_or}
use Rattle.std.specs.List.{fold, after_first, list_all}
use Rattle.std.specs.Option.{option_map_or}
use Rattle.std.specs.Str.{bytes_eq, chars}
use Rattle.clap.proofs.OnLiterals.{clap_on_literals}
use Rattle.clap.specs.Lexer.{long_of, has_byte}
use Rattle.clap.specs.Kinds.{Kinds, or_else}
use Rattle.clap.specs.Faults.{turn_fault, walk_fault, level_fault, entered_fault, settle_fault, defaults_fault, check_fault, fault_of, flags_fault}
use Rattle.clap.specs.Simple.{Shape, built, entered, label_of, names_of, subcommand_of}
use Rattle.clap.specs.Walk.{Names, answers_to, Row, Text, Walk, walked, bundle_met, walk_from, nothing_held, settled, finished, rows_after}
use Rattle.clap.specs.declared.error.kind.ErrorKind.TheVariants as kind
use Rattle.prt_addr.specs.Word.{Word}
use Rattle.prt_args.specs.CommandLine.{command_line}
use Rattle.prt_args.specs.Tasks.{asks_question, subcommand_name}
use Rattle.prt_args.specs.Invocation.{Invocation, Subcommand, Batch, Check, Replay, anywhere, ask, asked_by, invocation, has_help, help, nothing_given, usage_error, is_analysis, is_help, is_question, is_service, is_version, version}
use Rattle.prt_args.proofs.WordClasses.{IsMistake, rules_of, shape_of, same_bytes, long_name, long_of_is, before_none, no_value_in, no_name_of, differs, flipped}
use Rattle.prt_args.proofs.CommandWords.{subcommand_reads}
use Rattle.prt_args.proofs.HelpWords.{AreBad, AreKnown, bad_or, both, check_bad, is_known, level_bad, neither}
use Rattle.prt_args.proofs.Walks.{Agrees, name_of}

abbrev top : Shape
top = (built command_line).top

abbrev names : Names
names = names_of (built command_line)

abbrev start : Walk
start = walk_from nothing_held

abbrev first_turn : Text → Kinds
first_turn word = turn_fault top names start word

-- the first word, if it is neither a subcommand nor `help`
data First (word : Text) : Type 0 where
  delimiter : word ≡ codes "--" → First word
  asks : is_help word ≡ true → first_turn word ≡ kind.DisplayHelp ∷ [] → First word
  tells : is_help word ≡ false → is_version word ≡ true → first_turn word ≡ kind.DisplayVersion ∷ [] → First word
  mistake : is_help word ≡ false → is_version word ≡ false → IsMistake (first_turn word) → First word

record IsOther (word : Text) : Type 0 where
  no_batch : bytes_eq (codes "batch") word ≡ false
  no_check : bytes_eq (codes "check") word ≡ false
  no_replay : bytes_eq (codes "replay") word ≡ false
  no_serve : bytes_eq (codes "serve") word ≡ false
  no_get : bytes_eq (codes "get") word ≡ false
  no_show : bytes_eq (codes "show") word ≡ false
  no_explain : bytes_eq (codes "explain") word ≡ false
  no_dump : bytes_eq (codes "dump") word ≡ false
  no_diff : bytes_eq (codes "diff") word ≡ false
  no_follow : bytes_eq (codes "follow") word ≡ false
  no_wait : bytes_eq (codes "wait") word ≡ false
  no_import : bytes_eq (codes "import") word ≡ false
  no_impact : bytes_eq (codes "impact") word ≡ false
  no_assert : bytes_eq (codes "assert") word ≡ false
  no_unused : bytes_eq (codes "unused") word ≡ false
  no_apply : bytes_eq (codes "apply") word ≡ false
  no_status : bytes_eq (codes "status") word ≡ false
  no_help : bytes_eq (codes "help") word ≡ false

first_empty : First []
unfolding clap_on_literals
first_empty = mistake refl refl refl

first_hyphen : First (codes "-")
unfolding clap_on_literals
first_hyphen = mistake refl refl refl

first_plain : (byte : ℕ) (rest : Text) → (byte == 45) ≡ false → IsOther (byte ∷ rest) → First (byte ∷ rest)
unfolding clap_on_literals
first_plain byte rest plain other = mistake (rw plain refl) (rw plain refl) (rw (other.no_batch, other.no_check, other.no_replay, other.no_serve, other.no_get, other.no_show, other.no_explain, other.no_dump, other.no_diff, other.no_follow, other.no_wait, other.no_import, other.no_impact, other.no_assert, other.no_unused, other.no_apply, other.no_status, other.no_help, plain, plain) refl)

first_short : (byte : ℕ) (rest : Text) (letter : Option ℕ) → (byte == 45) ≡ false → slice_get (chars (byte ∷ rest)) 0 ≡ letter → First (45 ∷ byte ∷ rest)
unfolding walked bundle_met flags_fault
first_short byte rest None short is = mistake (rw (short, is) refl) (rw (short, is) refl) (rw (short, short, is) refl)
first_short byte rest (Some letter) short is = go (letter == 104) (letter == 86) refl refl
  where
    go : (is_h is_v : Bool) → (letter == 104) ≡ is_h → (letter == 86) ≡ is_v → First (45 ∷ byte ∷ rest)
    go true is_v h v = asks (rw (short, is, h) refl) (rw (short, short, is, eq-eqb 104 letter (sym (eqb-true letter 104 h))) refl)
    go false true h v = tells (rw (short, is, h) refl) (rw (short, is, v) refl)
        (rw (short, short, is, ne_eqb 104 letter (λ e. eqb-false letter 104 h (sym e)), eq-eqb 86 letter (sym (eqb-true letter 86 v))) refl)
    go false false h v = mistake (rw (short, is, h) refl) (rw (short, is, v) refl)
        (rw (short, short, is, ne_eqb 104 letter (λ e. eqb-false letter 104 h (sym e)), ne_eqb 86 letter (λ e. eqb-false letter 86 v (sym e))) refl)

-- a long option other than `--help` and `--version`
first_long_other : (byte : ℕ) (rest : Text) → ((byte ∷ rest) ≡ codes "help" → ⊥) → ((byte ∷ rest) ≡ codes "version" → ⊥) → IsMistake (first_turn (45 ∷ 45 ∷ byte ∷ rest)) → First (45 ∷ 45 ∷ byte ∷ rest)
unfolding chars
first_long_other byte rest no_help no_version turn =
    mistake (rw (differs (byte ∷ rest) (codes "help") no_help) refl) (rw (differs (byte ∷ rest) (codes "version") no_version) refl) turn

no_long : (word name : Text) (value : Option Text) → bytes_eq word (codes "--") ≡ false → IsOther word
    → long_of word ≡ Some (name, value) → bytes_eq (codes "help") name ≡ false → bytes_eq (codes "version") name ≡ false → IsMistake (first_turn word)
no_long word name value plain other long no_help no_version = rw (other.no_batch, other.no_check, other.no_replay, other.no_serve, other.no_get, other.no_show, other.no_explain, other.no_dump, other.no_diff, other.no_follow, other.no_wait, other.no_import, other.no_impact, other.no_assert, other.no_unused, other.no_apply, other.no_status, other.no_help, plain, long, no_help, no_version) refl

help_valued : (word value : Text) → bytes_eq word (codes "--") ≡ false → IsOther word → long_of word ≡ Some (codes "help", Some value) → IsMistake (first_turn word)
help_valued word value plain other long = rw (other.no_batch, other.no_check, other.no_replay, other.no_serve, other.no_get, other.no_show, other.no_explain, other.no_dump, other.no_diff, other.no_follow, other.no_wait, other.no_import, other.no_impact, other.no_assert, other.no_unused, other.no_apply, other.no_status, other.no_help, plain, long) refl

version_valued : (word value : Text) → bytes_eq word (codes "--") ≡ false → IsOther word → long_of word ≡ Some (codes "version", Some value) → IsMistake (first_turn word)
version_valued word value plain other long = rw (other.no_batch, other.no_check, other.no_replay, other.no_serve, other.no_get, other.no_show, other.no_explain, other.no_dump, other.no_diff, other.no_follow, other.no_wait, other.no_import, other.no_impact, other.no_assert, other.no_unused, other.no_apply, other.no_status, other.no_help, plain, long) refl

long_other : (rest : Text) → IsOther (45 ∷ 45 ∷ rest)
long_other rest = record { no_batch = refl; no_check = refl; no_replay = refl; no_serve = refl; no_get = refl; no_show = refl; no_explain = refl; no_dump = refl; no_diff = refl; no_follow = refl; no_wait = refl; no_import = refl; no_impact = refl; no_assert = refl; no_unused = refl; no_apply = refl; no_status = refl; no_help = refl }

-- one with a value
first_valued : (byte : ℕ) (rest name : Text) → name ≡ long_name (byte ∷ rest) → has_byte 61 (byte ∷ rest) ≡ true
    → ((word value : Text) → bytes_eq word (codes "--") ≡ false → IsOther word → long_of word ≡ Some (name, Some value) → IsMistake (first_turn word))
    → First (45 ∷ 45 ∷ byte ∷ rest)
first_valued byte rest name is has refused =
    first_long_other byte rest (no_value_in (byte ∷ rest) (codes "help") refl has) (no_value_in (byte ∷ rest) (codes "version") refl has)
    (refused (45 ∷ 45 ∷ byte ∷ rest) _ refl (long_other (byte ∷ rest)) (long_of_is byte rest true has ∙ ap (λ xs. Some (xs, Some (after_first (λ x. x == 61) (byte ∷ rest)))) (sym is)))

first_help : First (codes "--help")
unfolding clap_on_literals
first_help = asks refl refl

first_version : First (codes "--version")
unfolding clap_on_literals
first_version = tells refl refl refl

first_by_name : (byte : ℕ) (rest : Text) (is_help is_version : Bool) → bytes_eq (codes "help") (long_name (byte ∷ rest)) ≡ is_help → bytes_eq (codes "version") (long_name (byte ∷ rest)) ≡ is_version
    → (has : Bool) → has_byte 61 (byte ∷ rest) ≡ has → First (45 ∷ 45 ∷ byte ∷ rest)
first_by_name byte rest true is_version h v false none = subst (λ xs. First (45 ∷ 45 ∷ xs)) (same_bytes _ _ h ∙ before_none (λ x. x == 61) (byte ∷ rest) none) first_help
first_by_name byte rest true is_version h v true has = first_valued byte rest (codes "help") (same_bytes _ _ h) has help_valued
first_by_name byte rest false true h v false none = subst (λ xs. First (45 ∷ 45 ∷ xs)) (same_bytes _ _ v ∙ before_none (λ x. x == 61) (byte ∷ rest) none) first_version
first_by_name byte rest false true h v true has = first_valued byte rest (codes "version") (same_bytes _ _ v) has version_valued
first_by_name byte rest false false h v has e = first_long_other byte rest (no_name_of (byte ∷ rest) (codes "help") h refl refl) (no_name_of (byte ∷ rest) (codes "version") v refl refl)
    (no_long (45 ∷ 45 ∷ byte ∷ rest) _ _ refl (long_other (byte ∷ rest)) (long_of_is byte rest has e) h v)

first_hyphened : (rest : Text) → First (45 ∷ rest)
first_hyphened [] = first_hyphen
first_hyphened (byte ∷ rest) = go (byte == 45) refl
  where
    long : (rest : Text) → First (45 ∷ 45 ∷ rest)
    long [] = delimiter refl
    long (next ∷ rest) = first_by_name next rest _ _ refl refl _ refl

    go : (is_hyphen : Bool) → (byte == 45) ≡ is_hyphen → First (45 ∷ byte ∷ rest)
    go true e = subst (λ b. First (45 ∷ b ∷ rest)) (sym (eqb-true byte 45 e)) (long rest)
    go false e = first_short byte rest _ e refl

first_of_word : (word : Text) → IsOther word → First word
first_of_word [] other = first_empty
first_of_word (byte ∷ rest) other = go (byte == 45) refl
  where
    go : (is_hyphen : Bool) → (byte == 45) ≡ is_hyphen → First (byte ∷ rest)
    go true e = subst (λ b. First (b ∷ rest)) (sym (eqb-true byte 45 e)) (first_hyphened rest)
    go false e = first_plain byte rest e other

-- ---- the whole

-- after the name of a subcommand the walk over the program's own words passes
abbrev stop_at : Text → List Text → Walk
stop_at name words = record start { stopped = Some (name, words) }

stays : (name : Text) (seen words : List Text) → fold (walked top.rules names) (stop_at name seen) words ≡ stop_at name (seen ++ words)
unfolding walked
stays name seen [] = ap (stop_at name) (sym (append-nil seen))
stays name seen (word ∷ words) = stays name (seen ++ word ∷ []) words ∙ ap (stop_at name) (append_assoc seen (word ∷ []) words)

no_fault : (name : Text) (seen words : List Text) → walk_fault top names (stop_at name seen) words ≡ []
unfolding walked walk_fault
no_fault name seen [] = refl
no_fault name seen (word ∷ words) = no_fault name (seen ++ word ∷ []) words

or_else-nil : (kinds : Kinds) → or_else kinds [] ≡ kinds
or_else-nil [] = refl
or_else-nil (k ∷ kinds) = refl

abbrev pub AgreesOn : Invocation → List Text → Type 0
AgreesOn asked words = Agrees asked (fault_of command_line words) (subcommand_of command_line words)

-- the kinds of error after the walk over the program's own words
abbrev kinds_after : Walk → Kinds
kinds_after at = or_else (entered_fault (built command_line) at.stopped) (or_else (settle_fault top.rules false at.held)
    (or_else (defaults_fault (settled top.rules at.held).rows top.rules) (check_fault top (finished top.rules at.held) (is_some (entered (built command_line) at.stopped)))))

abbrev walk_over : Walk → List Text → Walk
walk_over at words = fold (walked top.rules names) at words

abbrev own_fault : Subcommand → List Text → Kinds
own_fault s words = level_fault (shape_of s) [] nothing_held words false []

fault_of_subcommand : (s : Subcommand) (program : Text) (words : List Text) → fault_of command_line (program ∷ name_of s ∷ words) ≡ own_fault s words
unfolding walked walk_fault defaults_fault
fault_of_subcommand Batch program words =
    ap₂ (λ kinds at. or_else kinds (kinds_after at)) (no_fault (codes "batch") [] words) (stays (codes "batch") [] words) ∙ or_else-nil (own_fault Batch words)
fault_of_subcommand Check program words =
    ap₂ (λ kinds at. or_else kinds (kinds_after at)) (no_fault (codes "check") [] words) (stays (codes "check") [] words) ∙ or_else-nil (own_fault Check words)
fault_of_subcommand Replay program words =
    ap₂ (λ kinds at. or_else kinds (kinds_after at)) (no_fault (codes "replay") [] words) (stays (codes "replay") [] words) ∙ or_else-nil (own_fault Replay words)

abbrev found_by : Subcommand → List Text → Option (Text × List Row)
found_by s words = Some (name_of s, rows_after (rules_of s) [] words)

pub subcommand_found : (s : Subcommand) (program : Text) (words : List Text) → subcommand_of command_line (program ∷ name_of s ∷ words) ≡ found_by s words
unfolding walked
subcommand_found Batch program words = ap (λ (at : Walk). entered (built command_line) at.stopped) (stays (codes "batch") [] words)
subcommand_found Check program words = ap (λ (at : Walk). entered (built command_line) at.stopped) (stays (codes "check") [] words)
subcommand_found Replay program words = ap (λ (at : Walk). entered (built command_line) at.stopped) (stays (codes "replay") [] words)

-- `serve` is found by its name, whatever follows
pub serve_named : (program : Text) (words : List Text) → subcommand_name (subcommand_of command_line (program ∷ codes "serve" ∷ words)) ≡ Some (codes "serve")
unfolding walked
serve_named program words = ap (λ (at : Walk). subcommand_name (entered (built command_line) at.stopped)) (stays (codes "serve") [] words)

-- and so is a question
abbrev pub named_is : (name : Text) (program : Text) (words : List Text) → Type 0
named_is name program words = subcommand_name (subcommand_of command_line (program ∷ name ∷ words)) ≡ Some name

get_named : (program : Text) (words : List Text) → named_is (codes "get") program words
unfolding walked
get_named program words = ap (λ (at : Walk). subcommand_name (entered (built command_line) at.stopped)) (stays (codes "get") [] words)

show_named : (program : Text) (words : List Text) → named_is (codes "show") program words
unfolding walked
show_named program words = ap (λ (at : Walk). subcommand_name (entered (built command_line) at.stopped)) (stays (codes "show") [] words)

explain_named : (program : Text) (words : List Text) → named_is (codes "explain") program words
unfolding walked
explain_named program words = ap (λ (at : Walk). subcommand_name (entered (built command_line) at.stopped)) (stays (codes "explain") [] words)

dump_named : (program : Text) (words : List Text) → named_is (codes "dump") program words
unfolding walked
dump_named program words = ap (λ (at : Walk). subcommand_name (entered (built command_line) at.stopped)) (stays (codes "dump") [] words)

diff_named : (program : Text) (words : List Text) → named_is (codes "diff") program words
unfolding walked
diff_named program words = ap (λ (at : Walk). subcommand_name (entered (built command_line) at.stopped)) (stays (codes "diff") [] words)

follow_named : (program : Text) (words : List Text) → named_is (codes "follow") program words
unfolding walked
follow_named program words = ap (λ (at : Walk). subcommand_name (entered (built command_line) at.stopped)) (stays (codes "follow") [] words)

wait_named : (program : Text) (words : List Text) → named_is (codes "wait") program words
unfolding walked
wait_named program words = ap (λ (at : Walk). subcommand_name (entered (built command_line) at.stopped)) (stays (codes "wait") [] words)

import_named : (program : Text) (words : List Text) → named_is (codes "import") program words
unfolding walked
import_named program words = ap (λ (at : Walk). subcommand_name (entered (built command_line) at.stopped)) (stays (codes "import") [] words)

impact_named : (program : Text) (words : List Text) → named_is (codes "impact") program words
unfolding walked
impact_named program words = ap (λ (at : Walk). subcommand_name (entered (built command_line) at.stopped)) (stays (codes "impact") [] words)

assert_named : (program : Text) (words : List Text) → named_is (codes "assert") program words
unfolding walked
assert_named program words = ap (λ (at : Walk). subcommand_name (entered (built command_line) at.stopped)) (stays (codes "assert") [] words)

unused_named : (program : Text) (words : List Text) → named_is (codes "unused") program words
unfolding walked
unused_named program words = ap (λ (at : Walk). subcommand_name (entered (built command_line) at.stopped)) (stays (codes "unused") [] words)

apply_named : (program : Text) (words : List Text) → named_is (codes "apply") program words
unfolding walked
apply_named program words = ap (λ (at : Walk). subcommand_name (entered (built command_line) at.stopped)) (stays (codes "apply") [] words)

status_named : (program : Text) (words : List Text) → named_is (codes "status") program words
unfolding walked
status_named program words = ap (λ (at : Walk). subcommand_name (entered (built command_line) at.stopped)) (stays (codes "status") [] words)

-- one of two words
either_word : {X : Type 0} (a b : Bool) → (a || b) ≡ true → (a ≡ true → X) → (b ≡ true → X) → X
either_word true b is one other = one refl
either_word false b is one other = other is

pub question_found : (program word : Text) (words : List Text) → is_question word ≡ true → named_is word program words
question_found program word words is =
    either_word _ _ is (λ e. by (codes "get") e (get_named program words))
    (λ is. either_word _ _ is (λ e. by (codes "show") e (show_named program words))
    (λ is. either_word _ _ is (λ e. by (codes "explain") e (explain_named program words))
    (λ is. either_word _ _ is (λ e. by (codes "dump") e (dump_named program words))
    (λ is. either_word _ _ is (λ e. by (codes "diff") e (diff_named program words))
    (λ is. either_word _ _ is (λ e. by (codes "follow") e (follow_named program words))
    (λ is. either_word _ _ is (λ e. by (codes "wait") e (wait_named program words))
    (λ is. either_word _ _ is (λ e. by (codes "import") e (import_named program words))
    (λ is. either_word _ _ is
    (λ analysis. either_word _ _ analysis (λ e. by (codes "impact") e (impact_named program words))
    (λ analysis. either_word _ _ analysis (λ e. by (codes "assert") e (assert_named program words))
    (λ e. by (codes "unused") e (unused_named program words))))
    (λ service. either_word _ _ service (λ e. by (codes "apply") e (apply_named program words))
    (λ e. by (codes "status") e (status_named program words)))))))))))
  where
    by : (name : Text) → bytes_eq word name ≡ true → named_is name program words → named_is word program words
    by name same named = subst (λ w. named_is w program words) (sym (same_bytes word name same)) named

question_named : (program word : Text) (words : List Text) → is_question word ≡ true → asks_question (subcommand_name (subcommand_of command_line (program ∷ word ∷ words))) ≡ true
question_named program word words is = ap asks_question (question_found program word words is) ∙ is

own_words_agree : (s : Subcommand) (words : List Text) → Agrees (asked_by s words anywhere nothing_given) (own_fault s words) (found_by s words)
own_words_agree Batch words = subcommand_reads Batch words
own_words_agree Check words = subcommand_reads Check words
own_words_agree Replay words = subcommand_reads Replay words

agrees_on_subcommand : (s : Subcommand) (program : Text) (words : List Text) → AgreesOn (asked_by s words anywhere nothing_given) (program ∷ name_of s ∷ words)
agrees_on_subcommand s program words =
    subst (λ kinds. Agrees (asked_by s words anywhere nothing_given) kinds (subcommand_of command_line (program ∷ name_of s ∷ words))) (sym (fault_of_subcommand s program words))
    (subst (Agrees (asked_by s words anywhere nothing_given) (own_fault s words)) (sym (subcommand_found s program words)) (own_words_agree s words))

first_refused : (program word : Text) (words : List Text) (kinds : Kinds) → first_turn word ≡ kinds
    → fault_of command_line (program ∷ word ∷ words) ≡ or_else (or_else kinds (walk_fault top names (walked top.rules names start word) words)) (kinds_after (walk_over (walked top.rules names start word) words))
unfolding walk_fault
first_refused program word words kinds turn =
    ap (λ ks. or_else (or_else ks (walk_fault top names (walked top.rules names start word) words)) (kinds_after (walk_over (walked top.rules names start word) words))) turn

first_mistaken : (program word : Text) (words : List Text) → IsMistake (first_turn word) → IsMistake (fault_of command_line (program ∷ word ∷ words))
first_mistaken program word words bad = go (first_turn word) refl bad
  where
    go : (kinds : Kinds) → first_turn word ≡ kinds → IsMistake kinds → IsMistake (fault_of command_line (program ∷ word ∷ words))
    go [] e none = absurd none
    go (k ∷ kinds) e all = subst IsMistake (sym (first_refused program word words (k ∷ kinds) e)) all

-- `--` leaves no option, and there is no operand
after_delimiter : (program : Text) (words : List Text) → IsMistake (fault_of command_line (program ∷ codes "--" ∷ words))
unfolding walked walk_fault defaults_fault
after_delimiter program [] = refl
after_delimiter program (word ∷ words) = refl

no_question : (word : Word) → IsOther word → is_question word ≡ false
no_question word other = rw (flipped (codes "get") word other.no_get, flipped (codes "show") word other.no_show, flipped (codes "explain") word other.no_explain, flipped (codes "dump") word other.no_dump, flipped (codes "diff") word other.no_diff, flipped (codes "follow") word other.no_follow, flipped (codes "wait") word other.no_wait, flipped (codes "import") word other.no_import, flipped (codes "impact") word other.no_impact, flipped (codes "assert") word other.no_assert, flipped (codes "unused") word other.no_unused, flipped (codes "apply") word other.no_apply, flipped (codes "status") word other.no_status) refl

asks_help : (word : Word) (words : List Word) → IsOther word → is_help word ≡ true → invocation (word ∷ words) ≡ help
asks_help word words other h = rw (flipped (codes "batch") word other.no_batch, flipped (codes "check") word other.no_check, flipped (codes "replay") word other.no_replay, flipped (codes "serve") word other.no_serve, no_question word other, flipped (codes "help") word other.no_help, h) refl

tells_version : (word : Word) (words : List Word) → IsOther word → is_help word ≡ false → is_version word ≡ true → invocation (word ∷ words) ≡ version
tells_version word words other h v = rw (flipped (codes "batch") word other.no_batch, flipped (codes "check") word other.no_check, flipped (codes "replay") word other.no_replay, flipped (codes "serve") word other.no_serve, no_question word other, flipped (codes "help") word other.no_help, h, v) refl

asks_nothing : (word : Word) (words : List Word) → IsOther word → is_help word ≡ false → is_version word ≡ false → invocation (word ∷ words) ≡ usage_error
asks_nothing word words other h v = rw (flipped (codes "batch") word other.no_batch, flipped (codes "check") word other.no_check, flipped (codes "replay") word other.no_replay, flipped (codes "serve") word other.no_serve, no_question word other, flipped (codes "help") word other.no_help, h, v) refl

-- ---- the words of `serve` and of a question

-- the walk over the program's own words stops at this one
abbrev Stops : Text → Type 0
Stops name = (first_turn name ≡ []) × (walked top.rules names start name ≡ stop_at name [])

serve_stops : Stops (codes "serve")
unfolding walked
serve_stops = (refl, refl)

question_stops : (word : Text) → is_question word ≡ true → Stops word
unfolding walked
question_stops word is =
    either_word _ _ is (λ e. by (codes "get") e (refl, refl))
    (λ is. either_word _ _ is (λ e. by (codes "show") e (refl, refl))
    (λ is. either_word _ _ is (λ e. by (codes "explain") e (refl, refl))
    (λ is. either_word _ _ is (λ e. by (codes "dump") e (refl, refl))
    (λ is. either_word _ _ is (λ e. by (codes "diff") e (refl, refl))
    (λ is. either_word _ _ is (λ e. by (codes "follow") e (refl, refl))
    (λ is. either_word _ _ is (λ e. by (codes "wait") e (refl, refl))
    (λ is. either_word _ _ is (λ e. by (codes "import") e (refl, refl))
    (λ is. either_word _ _ is
    (λ analysis. either_word _ _ analysis (λ e. by (codes "impact") e (refl, refl))
    (λ analysis. either_word _ _ analysis (λ e. by (codes "assert") e (refl, refl))
    (λ e. by (codes "unused") e (refl, refl))))
    (λ service. either_word _ _ service (λ e. by (codes "apply") e (refl, refl))
    (λ e. by (codes "status") e (refl, refl)))))))))))
  where
    by : (name : Text) → bytes_eq word name ≡ true → Stops name → Stops word
    by name same stops = subst Stops (sym (same_bytes word name same)) stops

-- each subcommand asks for help by `--help` and `-h` alone
subs_known : list_all (λ (s : Shape). list_all is_known s.rules) (built command_line).subs ≡ true
subs_known = refl

shape_known : (p : Shape → Bool) (shapes : List Shape) (s : Shape) → list_all (λ (s : Shape). list_all is_known s.rules) shapes ≡ true → find p shapes ≡ Some s → AreKnown s.rules
shape_known p [] s known is = absurd cc
shape_known p (x ∷ shapes) s known is = go (p x) is (shape_known p shapes s (both (list_all is_known x.rules) _ known).1)
  where
    go : (b : Bool) → cond b (Some x) (find p shapes) ≡ Some s → (find p shapes ≡ Some s → AreKnown s.rules) → AreKnown s.rules
    go true is later = subst (λ (x : Shape). AreKnown x.rules) (ap (λ found. unwrap_or found x) is) (both (list_all is_known x.rules) _ known).0
    go false is later = later is

entered_bad : (name : Text) (words : List Text) → has_help words ≡ false → AreBad (entered_fault (built command_line) (Some (name, words)))
entered_bad name words none = go (find (λ s. answers_to name (label_of s)) (built command_line).subs) refl
  where
    go : (found : Option Shape) → find (λ s. answers_to name (label_of s)) (built command_line).subs ≡ found → AreBad (option_map_or (λ s. level_fault s [] nothing_held words false []) found [])
    go None is = refl
    go (Some s) is = level_bad s (shape_known (λ s. answers_to name (label_of s)) (built command_line).subs s subs_known is) words none

after_bad : (name : Text) (words : List Text) → has_help words ≡ false → AreBad (kinds_after (stop_at name words))
unfolding defaults_fault
after_bad name words none =
    bad_or (entered_fault (built command_line) (Some (name, words))) (check_fault top (finished top.rules nothing_held) (is_some (entered (built command_line) (Some (name, words)))))
    (entered_bad name words none) (check_bad top (finished top.rules nothing_held) (is_some (entered (built command_line) (Some (name, words)))))

words_bad : (program name : Text) (words : List Text) → Stops name → has_help words ≡ false → AreBad (fault_of command_line (program ∷ name ∷ words))
words_bad program name words stops none =
    subst AreBad (sym (first_refused program name words [] stops.0))
    (subst (λ (at : Walk). AreBad (or_else (or_else [] (walk_fault top names at words)) (kinds_after (walk_over at words)))) (sym stops.1)
    (subst (λ kinds. AreBad (or_else kinds (kinds_after (walk_over (stop_at name []) words)))) (sym (no_fault name [] words))
    (subst (λ (at : Walk). AreBad (kinds_after at)) (sym (stays name [] words)) (after_bad name words none))))

question_asked : (word : Word) (words : List Word) → bytes_eq word (codes "batch") ≡ false → bytes_eq word (codes "check") ≡ false → bytes_eq word (codes "replay") ≡ false → bytes_eq word (codes "serve") ≡ false
    → is_question word ≡ true → invocation (word ∷ words) ≡ ask (word ∷ words)
question_asked word words b c r s q = rw (b, c, r, s, q) refl

agrees_on_first : (program word : Text) (words : List Text) → First word → IsOther word → AgreesOn (invocation (word ∷ words)) (program ∷ word ∷ words)
unfolding chars
agrees_on_first program word words (delimiter is) other =
    subst (λ w. AgreesOn (invocation (w ∷ words)) (program ∷ w ∷ words)) (sym is) (inl (after_delimiter program words))
agrees_on_first program word words (asks h turn) other =
    subst (λ i. AgreesOn i (program ∷ word ∷ words)) (sym (asks_help word words other h)) (first_refused program word words (kind.DisplayHelp ∷ []) turn)
agrees_on_first program word words (tells h v turn) other =
    subst (λ i. AgreesOn i (program ∷ word ∷ words)) (sym (tells_version word words other h v)) (first_refused program word words (kind.DisplayVersion ∷ []) turn)
agrees_on_first program word words (mistake h v turn) other =
    subst (λ i. AgreesOn i (program ∷ word ∷ words)) (sym (asks_nothing word words other h v)) (inl (first_mistaken program word words turn))

-- a word that is none of the subcommands
other_word : (word : Word) → bytes_eq word (codes "batch") ≡ false → bytes_eq word (codes "check") ≡ false → bytes_eq word (codes "replay") ≡ false → bytes_eq word (codes "serve") ≡ false → is_question word ≡ false
    → bytes_eq word (codes "help") ≡ false → IsOther word
other_word word b c r s q h =
    let after_get = neither (bytes_eq word (codes "get")) _ q in
    let after_show = neither (bytes_eq word (codes "show")) _ after_get.1 in
    let after_explain = neither (bytes_eq word (codes "explain")) _ after_show.1 in
    let after_dump = neither (bytes_eq word (codes "dump")) _ after_explain.1 in
    let after_diff = neither (bytes_eq word (codes "diff")) _ after_dump.1 in
    let after_follow = neither (bytes_eq word (codes "follow")) _ after_diff.1 in
    let after_wait = neither (bytes_eq word (codes "wait")) _ after_follow.1 in
    let after_import = neither (bytes_eq word (codes "import")) _ after_wait.1 in
    let groups = neither (is_analysis word) (is_service word) after_import.1 in
    let after_impact = neither (bytes_eq word (codes "impact")) _ groups.0 in
    let last = neither (bytes_eq word (codes "assert")) (bytes_eq word (codes "unused")) after_impact.1 in
    let services = neither (bytes_eq word (codes "apply")) (bytes_eq word (codes "status")) groups.1 in
    record {
      no_batch = flipped word (codes "batch") b;
      no_check = flipped word (codes "check") c;
      no_replay = flipped word (codes "replay") r;
      no_serve = flipped word (codes "serve") s;
      no_get = flipped word (codes "get") after_get.0;
      no_show = flipped word (codes "show") after_show.0;
      no_explain = flipped word (codes "explain") after_explain.0;
      no_dump = flipped word (codes "dump") after_dump.0;
      no_diff = flipped word (codes "diff") after_diff.0;
      no_follow = flipped word (codes "follow") after_follow.0;
      no_wait = flipped word (codes "wait") after_wait.0;
      no_import = flipped word (codes "import") after_import.0;
      no_impact = flipped word (codes "impact") after_impact.0;
      no_assert = flipped word (codes "assert") last.0;
      no_unused = flipped word (codes "unused") last.1;
      no_apply = flipped word (codes "apply") services.0;
      no_status = flipped word (codes "status") services.1;
      no_help = flipped word (codes "help") h;
    }

agrees_on_words : (program word : Text) (words : List Text) (is_batch is_check is_replay is_serve is_ask is_topic : Bool) → bytes_eq word (codes "batch") ≡ is_batch → bytes_eq word (codes "check") ≡ is_check
    → bytes_eq word (codes "replay") ≡ is_replay → bytes_eq word (codes "serve") ≡ is_serve → is_question word ≡ is_ask → bytes_eq word (codes "help") ≡ is_topic → AgreesOn (invocation (word ∷ words)) (program ∷ word ∷ words)
unfolding walked walk_fault
agrees_on_words program word words true is_check is_replay is_serve is_ask is_topic b c r s q h =
    subst (λ w. AgreesOn (invocation (w ∷ words)) (program ∷ w ∷ words)) (sym (same_bytes word (codes "batch") b)) (agrees_on_subcommand Batch program words)
agrees_on_words program word words false true is_replay is_serve is_ask is_topic b c r s q h =
    subst (λ w. AgreesOn (invocation (w ∷ words)) (program ∷ w ∷ words)) (sym (same_bytes word (codes "check") c)) (agrees_on_subcommand Check program words)
agrees_on_words program word words false false true is_serve is_ask is_topic b c r s q h =
    subst (λ w. AgreesOn (invocation (w ∷ words)) (program ∷ w ∷ words)) (sym (same_bytes word (codes "replay") r)) (agrees_on_subcommand Replay program words)
agrees_on_words program word words false false false true is_ask is_topic b c r s q h =
    subst (λ w. AgreesOn (invocation (w ∷ words)) (program ∷ w ∷ words)) (sym (same_bytes word (codes "serve") s))
    (serve_named program words, λ none. words_bad program (codes "serve") words serve_stops (neither (is_help (codes "serve")) (has_help words) none).1)
agrees_on_words program word words false false false false true is_topic b c r s q h =
    subst (λ asked. AgreesOn asked (program ∷ word ∷ words)) (sym (question_asked word words b c r s q)) (question_named program word words q, λ none. words_bad program word words (question_stops word q) (neither (is_help word) (has_help words) none).1)
agrees_on_words program word words false false false false false true b c r s q h =
    subst (λ w. AgreesOn (invocation (w ∷ words)) (program ∷ w ∷ words)) (sym (same_bytes word (codes "help") h)) (first_refused program (codes "help") words (kind.DisplayHelp ∷ kind.InvalidSubcommand ∷ []) refl)
agrees_on_words program word words false false false false false false b c r s q h =
    let other : IsOther word = other_word word b c r s q h in
    agrees_on_first program word words (first_of_word word other) other

-- what a parse finds of the words is what they ask for
pub words_agree : (words : List Text) → AgreesOn (invocation (drop 1 words)) words
unfolding walk_fault defaults_fault
words_agree [] = inl refl
words_agree (program ∷ []) = inl refl
words_agree (program ∷ word ∷ words) = agrees_on_words program word words _ _ _ _ _ _ refl refl refl refl refl refl
