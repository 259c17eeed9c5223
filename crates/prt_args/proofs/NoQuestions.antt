-- No question is asked by matches by which nothing can be asked.
use Rattle.std.proofs.Common.{◌≡◌, ◌≢◌, ◌∙◌, ◌⊎◌, ◌||◌, Bool, true, false, true≢false, refl, sym, ap, subst, inl, inr, List, [], ◌∷◌, Option, Some, None, codes, length, option_map, is_some}
use Rattle.std.proofs.lemmas.List.{length-map}
use Rattle.std.specs.Prelude.{option_and_then}
use Rattle.std.specs.Borrow.{Bor}
use Rattle.clap.specs.declared.parser.matches.ArgMatches.{ArgMatches}
use Rattle.std.specs.declared.net.socket_addr.SocketAddrV4.{SocketAddrV4}
use Rattle.prt_addr.specs.Word.{Word}
use Rattle.prt_args.specs.Analysis.{AreNamed, IsFlag, IsMisnamed, IsNamed, IsSearched, IsServerBy, IsShownBy, NoneIsNamed, paths_of, value_of}
use Rattle.prt_args.specs.Asking.{word_of}
use Rattle.prt_args.specs.NoQuestion.{HasNoAddress, HasNoFile, HasNoTables, HasScriptToo, HasText, HasTexts, IsGiven, IsLeftOut, IsNoAtomic, IsNoQuestion, IsNoReach, IsNoTarget, IsNoVerb, NamesNoTables, SomeAreNamed, needs_words}
use Rattle.prt_args.specs.Places.{IsPlace, address_and_port, ends_of, is_folder, names_place}
use Rattle.prt_args.specs.Read.{IsAskedBy, IsSourceBy, IsVerbBy}
use Rattle.prt_args.specs.Reaching.{IsAsked, IsReach, IsReachBy, names_nothing, values_of}
use Rattle.prt_args.specs.Services.{IsAtomicBy, IsStatusFormBy, IsTarget, TakesChanges}
use Rattle.prt_args.specs.declared.asking.Asked.{Asked}
use Rattle.prt_args.specs.declared.asking.Asked.TheVariants as asked
use Rattle.prt_args.specs.declared.asking.QuestionWord.TheVariants as word
use Rattle.prt_args.specs.declared.asking.Shown.{Shown}
use Rattle.prt_args.specs.declared.asking.Source.{Source}
use Rattle.prt_args.specs.declared.asking.Source.TheVariants.{Database, Script, Server}
use Rattle.prt_args.specs.declared.asking.Verb.{Verb}
use Rattle.prt_args.specs.declared.asking.Verb.TheVariants.{Dump, Explain, Get, Replace, Show}
use Rattle.prt_args.specs.declared.reach.Reach.{Reach}
use Rattle.prt_args.specs.declared.server_place.ServerPlace.{ServerPlace}
use Rattle.prt_args.specs.declared.server_place.ServerPlace.TheVariants.{Address, Folder}
use Rattle.prt_args.specs.declared.service.StatusForm.{StatusForm}
use Rattle.prt_args.specs.declared.service.Target.{Target}
use Rattle.prt_args.specs.declared.service.Target.TheVariants as target

-- ---- named tables are neither none nor misnamed

place_named : (word : Word) (place : ServerPlace) → IsPlace word place → names_place word ≡ true
place_named word (Folder path) is = rw is.0 refl
place_named word (Address place) is = rw (is.0, is.1) refl

server_named : (matches : ArgMatches) (place : ServerPlace) → IsServerBy matches place → option_map names_place (value_of matches (codes "server")) ≡ Some true
server_named matches place by = ap (option_map names_place) by.1 ∙ ap Some (place_named by.0 place by.2)

named_well : (matches : ArgMatches) (source : Source) → IsNamed matches source → NamesNoTables matches → ⊥
named_well matches (Database path) is (inl none) = let no : Some path.now ≡ None = sym is.0 ∙ none.0 in absurd cc
named_well matches (Database path) is (inr (inl both)) = let no : false ≡ true = sym (rw (is.0, is.1) refl) ∙ both in absurd cc
named_well matches (Database path) is (inr (inr bad)) = let no : None ≡ Some false = sym (ap (option_map names_place) is.1) ∙ bad in absurd cc
named_well matches (Server place) is (inl none) = let no : Some is.1.0 ≡ None = sym is.1.1 ∙ none.1 in absurd cc
named_well matches (Server place) is (inr (inl both)) = let no : false ≡ true = sym (rw is.0 refl) ∙ both in absurd cc
named_well matches (Server place) is (inr (inr bad)) = let no : Some true ≡ Some false = sym (server_named matches place is.1) ∙ bad in absurd cc
named_well matches (Script script) is bad = absurd is

none_well : (matches : ArgMatches) → NoneIsNamed matches → IsMisnamed matches → ⊥
none_well matches none (inl both) = let no : false ≡ true = sym (rw none.0 refl) ∙ both in absurd cc
none_well matches none (inr bad) = let no : None ≡ Some false = sym (ap (option_map names_place) none.1) ∙ bad in absurd cc

none_some : (matches : ArgMatches) → NoneIsNamed matches → SomeAreNamed matches → ⊥
none_some matches none some = let no : false ≡ true = sym (rw (none.0, none.1) refl) ∙ some in absurd cc

-- a flag is given or left out
not_both : (matches : ArgMatches) (name : Word) → HasText matches name → IsGiven matches name → IsLeftOut matches name → ⊥
not_both matches name text given out = true≢false (given text.0 text.1 ∙ sym (out text.0 text.1))

-- ---- what is queried of tables

has_tables : (verb : Verb) (matches : ArgMatches) (operands words : List Word) (source : Source) → IsSourceBy matches verb operands source words → HasNoTables verb matches operands → ⊥
has_tables Explain matches operands words (Script script) by (inl bad) = none_well matches by.1 bad
has_tables Explain matches operands words (Script script) by (inr empty) = let no : (by.2 ∷ words) ≡ [] = sym by.3 ∙ empty.1 in absurd cc
has_tables Explain matches operands words (Database path) by (inl bad) = named_well matches (Database path) by.0 (inr bad)
has_tables Explain matches operands words (Database path) by (inr empty) = named_well matches (Database path) by.0 (inl empty.0)
has_tables Explain matches operands words (Server place) by (inl bad) = named_well matches (Server place) by.0 (inr bad)
has_tables Explain matches operands words (Server place) by (inr empty) = named_well matches (Server place) by.0 (inl empty.0)
has_tables Get matches operands words (Script script) by bad = let no = by.0 in absurd cc
has_tables Get matches operands words (Database path) by bad = named_well matches (Database path) by.0 bad
has_tables Get matches operands words (Server place) by bad = named_well matches (Server place) by.0 bad
has_tables Show matches operands words (Script script) by bad = let no = by.0 in absurd cc
has_tables Show matches operands words (Database path) by bad = named_well matches (Database path) by.0 bad
has_tables Show matches operands words (Server place) by bad = named_well matches (Server place) by.0 bad
has_tables Dump matches operands words (Script script) by bad = let no = by.0 in absurd cc
has_tables Dump matches operands words (Database path) by bad = named_well matches (Database path) by.0 bad
has_tables Dump matches operands words (Server place) by bad = named_well matches (Server place) by.0 bad
has_tables Replace matches operands words (Script script) by bad = let no = by.0 in absurd cc
has_tables Replace matches operands words (Database path) by bad = named_well matches (Database path) by.0 bad
has_tables Replace matches operands words (Server place) by bad = named_well matches (Server place) by.0 bad

has_address : (verb : Verb) (matches : ArgMatches) (operands words : List Word) (source : Source) → IsSourceBy matches verb operands source words → (needs_words verb ≡ true → words ≢ []) → HasNoAddress verb matches operands → ⊥
has_address Get matches operands words (Script script) by needs bad = let no = by.0 in absurd cc
has_address Get matches operands words (Database path) by needs bad = needs refl (by.1 ∙ bad)
has_address Get matches operands words (Server place) by needs bad = needs refl (by.1 ∙ bad)
has_address Explain matches operands words (Script script) by needs (inl bad) = let no : (by.2 ∷ words) ≡ [] = sym by.3 ∙ bad in absurd cc
has_address Explain matches operands words (Script script) by needs (inr bad) = let same : (by.2 ∷ words) ≡ (bad.1.0 ∷ []) = sym by.3 ∙ bad.1.1 in needs refl cc
has_address Explain matches operands words (Database path) by needs (inl bad) = needs refl (by.1 ∙ bad)
has_address Explain matches operands words (Database path) by needs (inr bad) = named_well matches (Database path) by.0 (inl bad.0)
has_address Explain matches operands words (Server place) by needs (inl bad) = needs refl (by.1 ∙ bad)
has_address Explain matches operands words (Server place) by needs (inr bad) = named_well matches (Server place) by.0 (inl bad.0)
has_address Show matches operands words source by needs bad = absurd bad
has_address Dump matches operands words source by needs bad = absurd bad
has_address Replace matches operands words source by needs bad = absurd bad

is_verb : (verb : Verb) (matches : ArgMatches) → HasTexts (word.Tables verb) matches → IsVerbBy matches verb → IsNoVerb verb matches → ⊥
is_verb Get matches texts by bad = absurd bad
is_verb Show matches texts by bad = absurd bad
is_verb Explain matches texts by bad = absurd bad
is_verb Dump matches texts by (given, which) =
    let is_given = given texts.0.0 texts.0.1 in
    let dumps = by texts.0.0 texts.0.1 in
    absurd cc
is_verb Replace matches texts by (given, inl json) = not_both matches (codes "json") texts.1 json by.1
is_verb Replace matches texts by (given, inr names) = not_both matches (codes "names") texts.2 names by.2

-- ---- how far it reaches

same_all : (matches : ArgMatches) (a b : Reach) → HasText matches (codes "all") → IsReachBy matches a → IsReachBy matches b → a.all ≡ b.all
same_all matches a b (true, is) one two = one.3 is ∙ sym (two.3 is)
same_all matches a b (false, is) one two = one.4 is ∙ sym (two.4 is)

some_same : {X : Type 0} (a b : X) (v : Option X) → Some a ≡ v → Some b ≡ v → a ≡ b
some_same a b v one two = cc

reaches : (matches : ArgMatches) (reach : Reach) → HasText matches (codes "all") → IsReachBy matches reach → IsReach reach → IsNoReach matches → ⊥
reaches matches reach text by is (inl bad) = let no : Some reach.tables.items ≡ None = by.0 ∙ bad in absurd cc
reaches matches reach text by is (inr (inl bad)) = let no : Some reach.protocols.items ≡ None = by.1 ∙ bad in absurd cc
reaches matches reach text by is (inr (inr (inl bad))) = let no : Some reach.priorities.items ≡ None = by.2 ∙ bad in absurd cc
reaches matches reach text by is (inr (inr (inr (other, too, differs)))) =
    let tables = some_same reach.tables.items other.tables.items _ by.0 too.0 in
    let protocols = some_same reach.protocols.items other.protocols.items _ by.1 too.1 in
    let priorities = some_same reach.priorities.items other.priorities.items _ by.2 too.2 in
    let names : names_nothing reach ≡ names_nothing other = rw (tables, protocols, priorities) refl in
    differs (sym (same_all matches reach other text by too) ∙ is.0 ∙ names)

-- ---- files

two_inputs : (script : Option (Bor Word)) (file : Option Word) → (option_map (λ path. path.now) script ∷ file ∷ []) ≡ (None ∷ None ∷ []) → (is_some script || is_some file) ≡ true → ⊥
two_inputs None None is some = true≢false (sym some)
two_inputs None (Some f) is some = absurd cc
two_inputs (Some s) file is some = absurd cc

paths_length : (matches : ArgMatches) → length (paths_of matches) ≡ length (values_of matches (codes "words"))
paths_length matches = simp length-map

has_file : (matches : ArgMatches) (source : Source) (file : Option Word) → AreNamed matches source file → IsMisnamed matches ⊎ HasNoFile matches → ⊥
has_file matches (Database path) file is (inl bad) = named_well matches (Database path) is.0 (inr bad)
has_file matches (Server place) file is (inl bad) = named_well matches (Server place) is.0 (inr bad)
has_file matches (Script script) file is (inl bad) = none_well matches is.0 bad
has_file matches (Database path) file is (inr (inr (inl bad))) = named_well matches (Database path) is.0 (inl bad.0)
has_file matches (Database path) file is (inr (inr (inr bad))) = named_well matches (Database path) is.0 (inl bad.0)
has_file matches (Server place) file is (inr (inr (inl bad))) = named_well matches (Server place) is.0 (inl bad.0)
has_file matches (Server place) file is (inr (inr (inr bad))) = named_well matches (Server place) is.0 (inl bad.0)
has_file matches (Script script) file is (inr (inl bad)) = none_some matches is.0 bad.0
has_file matches (Script script) file is (inr (inr (inr bad))) = two_inputs script file (sym is.1 ∙ bad.1) is.2
has_file matches (Script script) file is (inr (inr (inl bad))) = bad.1 (sym (paths_length matches) ∙ ap length is.1)
has_file matches (Database path) file is (inr (inl bad)) = bad.1 (sym (paths_length matches) ∙ ap length is.1)
has_file matches (Server place) file is (inr (inl bad)) = bad.1 (sym (paths_length matches) ∙ ap length is.1)

is_searched : (matches : ArgMatches) (source : Source) → IsSearched matches source → IsMisnamed matches ⊎ HasScriptToo matches → ⊥
is_searched matches (Script script) is (inl bad) = none_well matches is.0 bad
is_searched matches (Script script) is (inr bad) = none_some matches is.0 bad.0
is_searched matches (Database path) is (inl bad) = named_well matches (Database path) is.0 (inr bad)
is_searched matches (Database path) is (inr bad) = bad.1 is.1
is_searched matches (Server place) is (inl bad) = named_well matches (Server place) is.0 (inr bad)
is_searched matches (Server place) is (inr bad) = bad.1 is.1

-- ---- where changes go

place_read : (value : Option Word) (place : SocketAddrV4) → option_and_then address_and_port value ≡ Some (ends_of place) → option_map address_and_port value ≡ Some None → ⊥
place_read None place is bad = absurd cc
place_read (Some word) place is bad = let none : address_and_port word ≡ None = cc in absurd cc

takes_them : (matches : ArgMatches) (word : Word) (one two : ServerPlace) (atomic : Option ServerPlace) (dry : Bool) → IsPlace word one → IsPlace word two → IsAtomicBy matches one atomic → (atomic ≡ None → dry ≡ true)
    → IsNoAtomic matches two dry → ⊥
takes_them matches word (Folder a) (Folder b) atomic dry p q by takes bad = bad by.0
takes_them matches word (Folder a) (Address b) atomic dry p q by takes bad = true≢false (sym p.0 ∙ q.0)
takes_them matches word (Address a) (Folder b) atomic dry p q by takes bad = true≢false (sym q.0 ∙ p.0)
takes_them matches word (Address a) (Address b) None dry p q by takes (inl bad) = let no : None ≡ Some None = sym (ap (option_map address_and_port) by) ∙ bad in absurd cc
takes_them matches word (Address a) (Address b) None dry p q by takes (inr bad) = true≢false (sym (takes refl) ∙ bad.1)
takes_them matches word (Address a) (Address b) (Some (Address c)) dry p q by takes (inl bad) = place_read (value_of matches (codes "atomic")) c by bad
takes_them matches word (Address a) (Address b) (Some (Address c)) dry p q by takes (inr bad) = let no : None ≡ Some (ends_of c) = sym (ap (option_and_then address_and_port) bad.0) ∙ by in absurd cc
takes_them matches word (Address a) (Address b) (Some (Folder c)) dry p q by takes bad = absurd by

same_word : (a b : Word) (v : Option Word) → v ≡ Some a → v ≡ Some b → a ≡ b
same_word a b v one two = cc

is_target : (matches : ArgMatches) (t : Target) (dry : Bool) → IsTarget matches t → TakesChanges t dry → IsNoTarget matches dry → ⊥
is_target matches (target.Database path) dry is takes (inl bad) = named_well matches (Database path) is.0 bad
is_target matches (target.Database path) dry is takes (inr (inl bad)) = bad.1 is.1
is_target matches (target.Database path) dry is takes (inr (inr (feed, by, bad))) = let no : Some by.0 ≡ None = sym by.1 ∙ is.0.1 in absurd cc
is_target matches (target.Server ends) dry is takes (inl bad) = named_well matches (Server ends.feed) is.0 bad
is_target matches (target.Server ends) dry is takes (inr (inl bad)) = bad.0 is.0.0
is_target matches (target.Server ends) dry is takes (inr (inr (feed, by, bad))) =
    let own = same_word by.0 is.0.1.0 _ by.1 is.0.1.1 in
    takes_them matches is.0.1.0 ends.feed feed ends.atomic dry is.0.1.2 (subst (λ word. IsPlace word feed) own by.2) is.1 takes bad

-- ---- any question

same_flag : (matches : ArgMatches) (name : Word) (a b : Bool) → HasText matches name → IsFlag matches name (λ given. given) a → IsFlag matches name (λ given. given) b → a ≡ b
same_flag matches name a b text one two = one text.0 text.1 ∙ sym (two text.0 text.1)

shown_well : (matches : ArgMatches) (shown : Shown) → HasText matches (codes "check") → HasText matches (codes "impact") → IsShownBy matches (Some shown) → IsShownBy matches None → ⊥
shown_well matches shown a b one two = let no : Some shown ≡ None = one a.0 b.0 a.1 b.1 ∙ sym (two a.0 b.0 a.1 b.1) in absurd cc

form_well : (matches : ArgMatches) (form : StatusForm) → HasText matches (codes "json") → HasText matches (codes "metrics") → IsStatusFormBy matches (Some form) → IsStatusFormBy matches None → ⊥
form_well matches form a b one two = let no : Some form ≡ None = one a.0 b.0 a.1 b.1 ∙ sym (two a.0 b.0 a.1 b.1) in absurd cc

pub is_asked : (matches : ArgMatches) (asked : Asked) → HasTexts (word_of asked) matches → IsAskedBy matches asked → IsAsked asked → IsNoQuestion (word_of asked) matches → ⊥
is_asked matches (asked.Tables asking) texts by is (inl bad) = has_tables asking.verb matches _ by.0.0 asking.source by.0.1 bad
is_asked matches (asked.Tables asking) texts by is (inr (inl bad)) = has_address asking.verb matches _ by.0.0 asking.source by.0.1 by.0.3 bad
is_asked matches (asked.Tables asking) texts by is (inr (inr bad)) = is_verb asking.verb matches texts by.1 bad
is_asked matches (asked.Diff diffing) texts by is (inl bad) = named_well matches diffing.source by.0 bad
is_asked matches (asked.Diff diffing) texts by is (inr (inl bad)) = reaches matches diffing.reach texts.0 by.1 is bad
is_asked matches (asked.Diff diffing) texts by is (inr (inr bad)) = shown_well matches diffing.shown texts.1 texts.2 by.3 bad
is_asked matches (asked.Follow following) texts by is (inl bad) = bad (server_named matches following.server by.0)
is_asked matches (asked.Follow following) texts by is (inr bad) = reaches matches following.reach texts by.1 is bad
is_asked matches (asked.Wait waiting) texts by is (inl bad) = bad (server_named matches waiting.server by.0)
is_asked matches (asked.Wait waiting) texts by is (inr bad) = let no : Some waiting.seconds ≡ None = sym by.1 ∙ bad in absurd cc
is_asked matches (asked.Import importing) texts by is bad = absurd bad
is_asked matches (asked.Impact rehearsing) texts by is bad = has_file matches rehearsing.source _ by.0 bad
is_asked matches (asked.Assert asserting) texts by is bad = has_file matches asserting.source _ by.0 bad
is_asked matches (asked.Unused source) texts by is bad = is_searched matches source by bad
is_asked matches (asked.Apply applying) texts by is (dry, flag, bad) =
    is_target matches applying.target applying.is_dry_run by.0 by.1 (subst (IsNoTarget matches) (same_flag matches (codes "dry-run") dry applying.is_dry_run texts flag by.3) bad)
is_asked matches (asked.Status inspecting) texts by is (inl bad) = bad (ap (option_map is_folder) by.0.1 ∙ ap Some by.0.2.0)
is_asked matches (asked.Status inspecting) texts by is (inr bad) = form_well matches inspecting.form texts.0 texts.1 by.1 bad
