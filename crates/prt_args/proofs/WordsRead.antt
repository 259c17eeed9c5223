-- From what a parse yields to what the words ask for.
use Rattle.std.proofs.Common.{◌≡◌, ◌∙◌, ◌&&◌, ◌⊎◌, Bool, true, false, refl, sym, ap, ap₂, subst, inl, inr, List, [], ◌∷◌, Option, Some, None, option_map, is_some, codes, cond, drop, true≢false}
use Rattle.std.specs.Borrow.{Bor}
use Rattle.std.specs.Str.{bytes_eq}
use Rattle.std.specs.Box.{box_value}
use Rattle.std.specs.Prelude.{Box, Err, IfErr, MatchOption, Ok, Result, ℕ, ◌==◌, option_and_then, slice_get, unwrap_or}
use Rattle.clap.specs.Words.{fault_of, found_of, rows_of, subcommand_name_of, subcommand_of, subcommand_rows, subcommand_rows_of}
use Rattle.clap.specs.declared.parser.matches.SubCommand.{SubCommand}
use Rattle.clap.specs.declared.parser.matches.ArgMatches.{ArgMatches}
use Rattle.clap.specs.declared.parser.matches.ArgMatches.TheViews.{out-ArgMatches, out-SubCommand}
use Rattle.clap.specs.Walk.{Row}
use Rattle.prt_addr.specs.Word.{Word}
use Rattle.prt_args.specs.CommandLine.{command_line}
use Rattle.prt_args.specs.Tasks.{asks_question, IsConflict, IsModeOf, IsQuestionOf, IsAskedFor, IsTaskOf, IsUnfit, named_database, named_server, subcommand_name, flag_text, text_of_flag}
use Rattle.std.specs.List.{list_all}
use Rattle.clap.specs.Kinds.{HasKind, IsAmong, Kinds}
use Rattle.clap.specs.Words.{Text, kind_of}
use Rattle.clap.specs.declared.error.Error.{Error}
use Rattle.clap.specs.declared.error.kind.ErrorKind.{ErrorKind}
use Rattle.clap.specs.declared.error.kind.ErrorKind.TheVariants.{DisplayHelp, DisplayVersion, InvalidSubcommand}
use Rattle.prt_args.specs.Faults.{FaultOf, IsHelpOrBad, IsStatusOf, IsWordsFault, ParseEnds, words_status}
use Rattle.prt_args.specs.Invocation.{Invocation, anywhere, ask, asked_by, batch, check, replay, serve, submit, Submission, has_help, help, help_on, nothing_given, version, invocation, is_help, is_question, is_version, usage_error, file_of}
use Rattle.prt_args.specs.Invocation as subcommand
use Rattle.prt_args.specs.Places.{names_place}
use Rattle.prt_args.specs.Asking.{name_of_word}
use Rattle.prt_args.specs.NoQuestion.{IsNoQuestion}
use Rattle.prt_args.specs.Read.{IsFoundIn, IsReadFrom, ServesNothing}
use Rattle.prt_args.specs.declared.asking.QuestionWord.{QuestionWord}
use Rattle.prt_refusals.specs.declared.refusal.Refusal.TheVariants.{NoMemory}
use Rattle.prt_args.specs.declared.task.Mode.{Mode}
use Rattle.prt_args.specs.declared.task.Mode.TheVariants.{InTurn, Together}
use Rattle.prt_args.specs.declared.fault.Fault.{Fault}
use Rattle.prt_args.specs.declared.fault.Fault.TheVariants.{Listener, Opening, Words}
use Rattle.prt_args.specs.declared.task.Task.{Task}
use Rattle.prt_args.specs.declared.task.Task.TheVariants.{Ask, Batch, Check, Replay, Serve, Submit}
use Rattle.prt_args.proofs.CommandWords.{subcommand_reads}
use Rattle.prt_args.proofs.HelpWords.{AreBad}
use Rattle.prt_args.proofs.ParsedWords.{named_is, question_found, serve_named, subcommand_found, words_agree}
use Rattle.prt_args.proofs.Walks.{Agrees, HasMode}
use Rattle.prt_args.proofs.WordClasses.{IsMistake, is_mistake, same_bytes}

not_empty : (k : ErrorKind) (kinds : Kinds) → (k ∷ kinds) ≡ [] → ⊥
not_empty k kinds same = absurd (true≢false (ap is_some_kind same))
  where
    is_some_kind : Kinds → Bool
    is_some_kind [] = false
    is_some_kind (k ∷ kinds) = true

-- what the flags say of the mode, and what a parse has of them
mode_is : (asked has : Option Mode) (found : Option (Text × List Row)) → HasMode asked found → IsModeOf found has → has ≡ asked
mode_is asked has found flags is = is flags.0 flags.1 flags.2 flags.3 ∙ flags.4

some_mode : (a b : Mode) → Some a ≡ Some b → b ≡ a
some_mode a b same = ap (λ mode. unwrap_or mode a) (sym same)

no_mode : (mode : Mode) → Some mode ≡ None → ⊥
no_mode mode same = true≢false (ap is_some same)

flag_is : (found set : Bool) (flag : Option Text) → flag ≡ Some (text_of_flag set) → (flag ≡ Some (codes "true") → found ≡ true) → (flag ≡ Some (codes "false") → found ≡ false) → set ≡ found
flag_is found true flag is given left_out = sym (given is)
flag_is found false flag is given left_out = sym (left_out is)

script_is : {mode mode0 : Mode} {verbose verbose0 : Bool} {database database0 file file0 : Option Word} → mode ≡ mode0 → verbose ≡ verbose0 → database ≡ database0 → file ≡ file0
    → batch (record { mode = mode; verbose = verbose; database = database; file = file }) ≡ batch (record { mode = mode0; verbose = verbose0; database = database0; file = file0 })
script_is a b c d = rw (a, b, c, d) refl

submission_is : {verbose verbose0 : Bool} {server server0 : Word} {file file0 : Option Word} → verbose ≡ verbose0 → server ≡ server0 → file ≡ file0
    → submit (record { verbose = verbose; server = server; file = file }) ≡ submit (record { verbose = verbose0; server = server0; file = file0 })
submission_is a b c = rw (a, b, c) refl

-- a word that is named, and none
some_word : (a b : Word) → Some a ≡ Some b → b ≡ a
some_word a b same = ap (λ word. unwrap_or word a) (sym same)

no_word : (word : Option Word) (named : Word) → word ≡ Some named → word ≡ None → ⊥
no_word word named some none = true≢false (ap is_some (sym some ∙ none))

-- one by one is not together
abbrev is_together : Option Mode → Bool
is_together (Some Together) = true
is_together _ = false

abbrev begins_with : ℕ → Option Text → Bool
begins_with byte name = unwrap_or (slice_get (unwrap_or name []) 0) 0 == byte

-- a name that begins so is none that does not
other_name : (byte : ℕ) (a b : Option Text) → begins_with byte a ≡ true → begins_with byte b ≡ false → a ≡ b → ⊥
other_name byte a b is other same = absurd (true≢false (sym is ∙ ap (begins_with byte) same ∙ other))

no_check : Some (codes "batch") ≡ Some (codes "check") → ⊥
no_check = other_name 98 (Some (codes "batch")) (Some (codes "check")) refl refl

no_replay : Some (codes "batch") ≡ Some (codes "replay") → ⊥
no_replay = other_name 98 (Some (codes "batch")) (Some (codes "replay")) refl refl

check_no_replay : Some (codes "check") ≡ Some (codes "replay") → ⊥
check_no_replay = other_name 99 (Some (codes "check")) (Some (codes "replay")) refl refl

batch_no_serve : Some (codes "batch") ≡ Some (codes "serve") → ⊥
batch_no_serve = other_name 98 (Some (codes "batch")) (Some (codes "serve")) refl refl

check_no_serve : Some (codes "check") ≡ Some (codes "serve") → ⊥
check_no_serve = other_name 99 (Some (codes "check")) (Some (codes "serve")) refl refl

replay_no_serve : Some (codes "replay") ≡ Some (codes "serve") → ⊥
replay_no_serve = other_name 114 (Some (codes "replay")) (Some (codes "serve")) refl refl

-- a name that asks a question is none that asks none
no_question : (name : Option Text) (other : Text) → asks_question (Some other) ≡ false → name ≡ Some other → asks_question name ≡ true → ⊥
no_question name other none same is = true≢false (sym is ∙ ap asks_question same ∙ none)

-- what `serve` and a question carry is all the words
abbrev HasOwn : Invocation → List Word → Type 0
HasOwn (serve own) words = own ≡ words
HasOwn (ask own) words = own ≡ words
HasOwn _ words = Unit {0}

-- a script, a check and a replay is none of these
own_script : (asked : Invocation) (kinds : Kinds) (found : Option (Text × List Row)) (words : List Word) → Agrees asked kinds found → (subcommand_name found ≡ Some (codes "serve") → ⊥)
    → asks_question (subcommand_name found) ≡ false → HasOwn asked words
own_script (serve own) kinds found words agrees no_serve no_ask = absurd (no_serve agrees.0)
own_script (ask own) kinds found words agrees no_serve no_ask = absurd (true≢false (sym agrees.0 ∙ no_ask))
own_script _ kinds found words agrees no_serve no_ask = tt

own_subcommand : (s : subcommand.Subcommand) (words all : List Word) → HasOwn (asked_by s words anywhere nothing_given) all
own_subcommand subcommand.Batch words all = own_script _ _ _ all (subcommand_reads subcommand.Batch words) batch_no_serve refl
own_subcommand subcommand.Check words all = own_script _ _ _ all (subcommand_reads subcommand.Check words) check_no_serve refl
own_subcommand subcommand.Replay words all = own_script _ _ _ all (subcommand_reads subcommand.Replay words) replay_no_serve refl

own_by : (word : Word) (words : List Word) (b c r s q t h v : Bool)
    → HasOwn (cond b (asked_by subcommand.Batch words anywhere nothing_given) (cond c (asked_by subcommand.Check words anywhere nothing_given) (cond r (asked_by subcommand.Replay words anywhere nothing_given)
    (cond s (serve (word ∷ words)) (cond q (ask (word ∷ words)) (cond t help_on (cond h help (cond v version usage_error)))))))) (word ∷ words)
own_by word words true c r s q t h v = own_subcommand subcommand.Batch words (word ∷ words)
own_by word words false true r s q t h v = own_subcommand subcommand.Check words (word ∷ words)
own_by word words false false true s q t h v = own_subcommand subcommand.Replay words (word ∷ words)
own_by word words false false false true q t h v = refl
own_by word words false false false false true t h v = refl
own_by word words false false false false false true h v = tt
own_by word words false false false false false false true v = tt
own_by word words false false false false false false false true = tt
own_by word words false false false false false false false false = tt

has_own : (words : List Word) → HasOwn (invocation words) words
has_own [] = tt
has_own (word ∷ words) = own_by word words (bytes_eq word (codes "batch")) (bytes_eq word (codes "check")) (bytes_eq word (codes "replay")) (bytes_eq word (codes "serve")) (is_question word) (bytes_eq word (codes "help")) (is_help word) (is_version word)

served_own : (words own : List Word) → invocation words ≡ serve own → invocation words ≡ serve words
served_own words own is = is ∙ ap serve (subst (λ asked. HasOwn asked words) is (has_own words))

asked_own : (words own : List Word) → invocation words ≡ ask own → invocation words ≡ ask words
asked_own words own is = is ∙ ap ask (subst (λ asked. HasOwn asked words) is (has_own words))

-- a parse without an error found `serve`, a question or another task
serve_is : (asked : Invocation) (kinds : Kinds) (found : Option (Text × List Row)) → Agrees asked kinds found → kinds ≡ [] → subcommand_name found ≡ Some (codes "serve") → (own : List Word) × (asked ≡ serve own)
serve_is (batch script) kinds found agrees none is = absurd (batch_no_serve (sym agrees.1 ∙ is))
serve_is (submit script) kinds found agrees none is = absurd (batch_no_serve (sym agrees.1 ∙ is))
serve_is (check file) kinds found agrees none is = absurd (check_no_serve (sym agrees.1 ∙ is))
serve_is (replay file) kinds found agrees none is = absurd (replay_no_serve (sym agrees.1 ∙ is))
serve_is (serve own) kinds found agrees none is = (own, refl)
serve_is (ask own) kinds found agrees none is = absurd (no_question (subcommand_name found) (codes "serve") refl is agrees.0)
serve_is help kinds found agrees none is = absurd (not_empty _ _ (sym agrees ∙ none))
serve_is version kinds found agrees none is = absurd (not_empty _ _ (sym agrees ∙ none))
serve_is help_on kinds found agrees none is = absurd (not_empty _ _ (sym agrees ∙ none))
serve_is usage_error kinds found (inl mistake) none is = absurd (subst IsMistake none mistake)
serve_is usage_error kinds found (inr conflict) none is = absurd (batch_no_serve (sym conflict.1 ∙ is))

ask_is : (asked : Invocation) (kinds : Kinds) (found : Option (Text × List Row)) → Agrees asked kinds found → kinds ≡ [] → asks_question (subcommand_name found) ≡ true → (own : List Word) × (asked ≡ ask own)
ask_is (batch script) kinds found agrees none is = absurd (no_question (subcommand_name found) (codes "batch") refl agrees.1 is)
ask_is (submit script) kinds found agrees none is = absurd (no_question (subcommand_name found) (codes "batch") refl agrees.1 is)
ask_is (check file) kinds found agrees none is = absurd (no_question (subcommand_name found) (codes "check") refl agrees.1 is)
ask_is (replay file) kinds found agrees none is = absurd (no_question (subcommand_name found) (codes "replay") refl agrees.1 is)
ask_is (serve own) kinds found agrees none is = absurd (no_question (subcommand_name found) (codes "serve") refl agrees.0 is)
ask_is (ask own) kinds found agrees none is = (own, refl)
ask_is help kinds found agrees none is = absurd (not_empty _ _ (sym agrees ∙ none))
ask_is version kinds found agrees none is = absurd (not_empty _ _ (sym agrees ∙ none))
ask_is help_on kinds found agrees none is = absurd (not_empty _ _ (sym agrees ∙ none))
ask_is usage_error kinds found (inl mistake) none is = absurd (subst IsMistake none mistake)
ask_is usage_error kinds found (inr conflict) none is = absurd (no_question (subcommand_name found) (codes "batch") refl conflict.1 is)

task_is : (words : List Word) (asked : Invocation) (kinds : Kinds) (found : Option (Text × List Row)) (task : Task) → Agrees asked kinds found → kinds ≡ [] → (subcommand_name found ≡ Some (codes "serve") → ⊥) → asks_question (subcommand_name found) ≡ false → IsTaskOf found task
    → IsAskedFor words asked task
task_is words asked kinds found (Serve serving) agrees none other no_ask is = absurd is
task_is words asked kinds found (Ask asking) agrees none other no_ask is = absurd is
task_is words (batch script) kinds found (Batch task) agrees none other no_ask is =
    script_is (some_mode task.mode script.mode (mode_is (Some script.mode) (Some task.mode) found agrees.4 is.4)) (flag_is task.is_verbose script.verbose (flag_text (codes "verbose") found) agrees.5 is.5 is.6)
    (sym (is.3 ∙ agrees.3)) (sym (is.2 ∙ agrees.2))
task_is words (batch script) kinds found (Check file) agrees none other no_ask is = absurd (no_check (sym agrees.1 ∙ is.0))
task_is words (batch script) kinds found (Replay file) agrees none other no_ask is = absurd (no_replay (sym agrees.1 ∙ is.0))
task_is words (batch script) kinds found (Submit task) agrees none other no_ask is = absurd (no_word (named_server found) is.7.0 is.7.1 agrees.6)
task_is words (submit script) kinds found (Batch task) agrees none other no_ask is = absurd (no_word (named_server found) script.server agrees.6 is.7)
task_is words (submit script) kinds found (Submit task) agrees none other no_ask is =
    (is.7.0, submission_is (flag_is task.is_verbose script.verbose (flag_text (codes "verbose") found) agrees.5 is.5 is.6) (some_word is.7.0 script.server (sym is.7.1 ∙ agrees.6)) (sym (is.2 ∙ agrees.2)), is.7.2)
task_is words (submit script) kinds found (Check file) agrees none other no_ask is = absurd (no_check (sym agrees.1 ∙ is.0))
task_is words (submit script) kinds found (Replay file) agrees none other no_ask is = absurd (no_replay (sym agrees.1 ∙ is.0))
task_is words (check file) kinds found (Batch task) agrees none other no_ask is = absurd (is.0 agrees.1)
task_is words (check file) kinds found (Submit task) agrees none other no_ask is = absurd (is.0 agrees.1)
task_is words (check file) kinds found (Check path) agrees none other no_ask is = ap check (sym (is.1 ∙ agrees.2))
task_is words (check file) kinds found (Replay path) agrees none other no_ask is = absurd (check_no_replay (sym agrees.1 ∙ is.0))
task_is words (replay file) kinds found (Batch task) agrees none other no_ask is = absurd (is.1 agrees.1)
task_is words (replay file) kinds found (Submit task) agrees none other no_ask is = absurd (is.1 agrees.1)
task_is words (replay file) kinds found (Check path) agrees none other no_ask is = absurd (check_no_replay (sym is.0 ∙ agrees.1))
task_is words (replay file) kinds found (Replay path) agrees none other no_ask is = ap replay (sym (is.1 ∙ agrees.2))
task_is words (serve own) kinds found task agrees none other no_ask is = absurd (other agrees.0)
task_is words (ask own) kinds found task agrees none other no_ask is = absurd (true≢false (sym agrees.0 ∙ no_ask))
task_is words help kinds found task agrees none other no_ask is = absurd (not_empty _ _ (sym agrees ∙ none))
task_is words version kinds found task agrees none other no_ask is = absurd (not_empty _ _ (sym agrees ∙ none))
task_is words help_on kinds found task agrees none other no_ask is = absurd (not_empty _ _ (sym agrees ∙ none))
task_is words usage_error kinds found task (inl mistake) none other no_ask is = absurd (subst IsMistake none mistake)
task_is words usage_error kinds found (Batch task) (inr (_, _, inl mode)) none other no_ask is = absurd (no_mode task.mode (mode_is None (Some task.mode) found mode is.4))
task_is words usage_error kinds found (Batch task) (inr (_, _, inr (inl (server, in_turn)))) none other no_ask is = absurd (no_word (named_server found) server.0 server.1 is.7)
task_is words usage_error kinds found (Batch task) (inr (_, _, inr (inr (server, path)))) none other no_ask is = absurd (no_word (named_server found) server.0 server.1 is.7)
task_is words usage_error kinds found (Submit task) (inr (_, _, inl mode)) none other no_ask is = absurd (no_mode Together (mode_is None (Some Together) found mode is.4))
task_is words usage_error kinds found (Submit task) (inr (_, _, inr (inl (server, in_turn)))) none other no_ask is =
    absurd (true≢false (ap is_together (mode_is (Some (InTurn in_turn.0)) (Some Together) found in_turn.1 is.4)))
task_is words usage_error kinds found (Submit task) (inr (_, _, inr (inr (server, path)))) none other no_ask is = absurd (no_word (named_database found) path.0 path.1 is.3)
task_is words usage_error kinds found (Check path) (inr conflict) none other no_ask is = absurd (no_check (sym conflict.1 ∙ is.0))
task_is words usage_error kinds found (Replay path) (inr conflict) none other no_ask is = absurd (no_replay (sym conflict.1 ∙ is.0))

-- a script that can be executed in no way, or not by a server at this place
abbrev IsRefused : Invocation → Type 0
IsRefused asked = (asked ≡ usage_error) ⊎ ((script : Submission) × (asked ≡ submit script) × (names_place script.server ≡ false))

-- a script that a server can execute has no place
no_place : (script : Submission) (found : Option (Text × List Row)) (mode : Mode) (server : Text) → Some mode ≡ Some Together → named_database found ≡ None → named_server found ≡ Some script.server → named_server found ≡ Some server
    → IsUnfit mode (named_database found) server → names_place script.server ≡ false
no_place script found mode server together alone named has (inl apart) = absurd (apart (some_mode Together mode (sym together)))
no_place script found mode server together alone named has (inr (inl other)) = absurd (other alone)
no_place script found mode server together alone named has (inr (inr nowhere)) = ap names_place (some_word server script.server (sym has ∙ named)) ∙ nowhere

conflict_is : (asked : Invocation) (kinds : Kinds) (found : Option (Text × List Row)) → Agrees asked kinds found → kinds ≡ [] → (subcommand_name found ≡ Some (codes "serve") → ⊥) → asks_question (subcommand_name found) ≡ false → IsConflict found
    → IsRefused asked
conflict_is (batch script) kinds found agrees none other no_ask (_, _, inl mode) = absurd (no_mode script.mode (sym (mode_is (Some script.mode) None found agrees.4 mode)))
conflict_is (batch script) kinds found agrees none other no_ask (_, _, inr (mode, server, has, named, unfit)) = absurd (no_word (named_server found) server named agrees.6)
conflict_is (submit script) kinds found agrees none other no_ask (_, _, inl mode) = absurd (no_mode Together (sym (mode_is (Some Together) None found agrees.4 mode)))
conflict_is (submit script) kinds found agrees none other no_ask (_, _, inr (mode, server, has, named, unfit)) =
    inr (script, refl, no_place script found mode server (mode_is (Some Together) (Some mode) found agrees.4 has) agrees.3 agrees.6 named unfit)
conflict_is (check file) kinds found agrees none other no_ask is = absurd (is.0 agrees.1)
conflict_is (replay file) kinds found agrees none other no_ask is = absurd (is.1 agrees.1)
conflict_is (serve own) kinds found agrees none other no_ask is = absurd (other agrees.0)
conflict_is (ask own) kinds found agrees none other no_ask is = absurd (true≢false (sym agrees.0 ∙ no_ask))
conflict_is help kinds found agrees none other no_ask is = absurd (not_empty _ _ (sym agrees ∙ none))
conflict_is version kinds found agrees none other no_ask is = absurd (not_empty _ _ (sym agrees ∙ none))
conflict_is help_on kinds found agrees none other no_ask is = absurd (not_empty _ _ (sym agrees ∙ none))
conflict_is usage_error kinds found agrees none other no_ask is = inl refl

mistake_status : (k : ErrorKind) → is_mistake k ≡ true → words_status k ≡ 2
mistake_status DisplayHelp bad = absurd (true≢false (sym bad))
mistake_status DisplayVersion bad = absurd (true≢false (sym bad))
mistake_status _ bad = refl

both : (a b : Bool) → (a && b) ≡ true → (a ≡ true) × (b ≡ true)
both true b e = (refl, e)
both false b e = absurd (true≢false (sym e))

mistakes_status : (kinds : Kinds) (k : ErrorKind) → list_all is_mistake kinds ≡ true → IsAmong k kinds → words_status k ≡ 2
mistakes_status [] k all among = absurd among
mistakes_status (x ∷ kinds) k all (inl is) = ap words_status is ∙ mistake_status x (both (is_mistake x) (list_all is_mistake kinds) all).0
mistakes_status (x ∷ kinds) k all (inr among) = mistakes_status kinds k (both (is_mistake x) (list_all is_mistake kinds) all).1 among

-- an error is a request for help, or bad words
pub either_status : (k : ErrorKind) → (words_status k ≡ 0) ⊎ (words_status k ≡ 2)
either_status DisplayHelp = inl refl
either_status DisplayVersion = inl refl
either_status _ = inr refl

-- it is a request for help only if some word asks for it
help_status : (own : List Word) (kinds : Kinds) (k : ErrorKind) → (has_help own ≡ false → AreBad kinds) → IsAmong k kinds → ParseEnds own (words_status k) → IsHelpOrBad own (words_status k)
help_status own kinds k bad among ends = go (has_help own) refl
  where
    helped : has_help own ≡ true → (words_status k ≡ 0) ⊎ (words_status k ≡ 2) → IsHelpOrBad own (words_status k)
    helped e (inl zero) = inl (e, subst (ParseEnds own) zero ends, zero)
    helped e (inr two) = inr (inl (subst (ParseEnds own) two ends), two)

    go : (has : Bool) → has_help own ≡ has → IsHelpOrBad own (words_status k)
    go true e = helped e (either_status k)
    go false e = let two = mistakes_status kinds k (bad e) among in inr (inl (subst (ParseEnds own) two ends), two)

status_of_kind : (words : List Word) (asked : Invocation) (kinds : Kinds) (found : Option (Text × List Row)) (k : ErrorKind) → HasOwn asked words → Agrees asked kinds found → IsAmong k kinds
    → ParseEnds words (words_status k) → IsStatusOf asked (words_status k)
status_of_kind words (batch script) kinds found k own agrees among ends = subst (IsAmong k) agrees.0 among
status_of_kind words (submit script) kinds found k own agrees among ends = absurd (subst (IsAmong k) agrees.0 among)
status_of_kind words (check file) kinds found k own agrees among ends = subst (IsAmong k) agrees.0 among
status_of_kind words (replay file) kinds found k own agrees among ends = subst (IsAmong k) agrees.0 among
status_of_kind words (serve own) kinds found k same agrees among ends = help_status own kinds k agrees.1 among (subst (λ words. ParseEnds words (words_status k)) (sym same) ends)
status_of_kind words (ask own) kinds found k same agrees among ends = help_status own kinds k agrees.1 among (subst (λ words. ParseEnds words (words_status k)) (sym same) ends)
status_of_kind words help kinds found k own agrees among ends = shown (subst (IsAmong k) agrees among)
  where
    shown : IsAmong k (DisplayHelp ∷ []) → words_status k ≡ 0
    shown (inl is) = ap words_status is
    shown (inr none) = absurd none
status_of_kind words version kinds found k own agrees among ends = shown (subst (IsAmong k) agrees among)
  where
    shown : IsAmong k (DisplayVersion ∷ []) → words_status k ≡ 0
    shown (inl is) = ap words_status is
    shown (inr none) = absurd none
status_of_kind words help_on kinds found k own agrees among ends = shown (subst (IsAmong k) agrees among)
  where
    shown : IsAmong k (DisplayHelp ∷ InvalidSubcommand ∷ []) → IsStatusOf help_on (words_status k)
    shown (inl is) = inl (ap words_status is)
    shown (inr (inl is)) = inr (ap words_status is)
    shown (inr (inr none)) = absurd none
status_of_kind words usage_error [] found k own (inl mistake) among ends = absurd mistake
status_of_kind words usage_error (x ∷ kinds) found k own (inl mistake) among ends = mistakes_status (x ∷ kinds) k mistake among
status_of_kind words usage_error kinds found k own (inr conflict) among ends = absurd (subst (IsAmong k) conflict.0 among)

-- a parse with an error found no script, or memory was refused
pub words_fault : (words : List Text) (error : Error) (fault : Fault) → HasKind (fault_of command_line words) error → FaultOf error fault → IsWordsFault (invocation (drop 1 words)) fault
words_fault words error fault has (inl memory) = rw memory.1 refl
words_fault words error fault (inl memory) (inr other) = absurd (other.0 memory)
words_fault words error fault (inr among) (inr other) =
    rw other.1 (status_of_kind (drop 1 words) (invocation (drop 1 words)) (fault_of command_line words) (subcommand_of command_line words) (kind_of error) (has_own (drop 1 words)) (words_agree words) among
    (kind_of error, among, refl))

-- ---- what the matches say

-- the subcommand that was found, by its name and its rows
pub found_is : (found : Option (Text × List Row)) (name : Text) (rows : List Row) → Some name ≡ subcommand_name found → Some rows ≡ option_map (λ p. p.1) found → found ≡ Some (name, rows)
found_is None name rows names has = absurd (true≢false (ap is_some names))
found_is (Some p) name rows names has = ap₂ (λ n rs. Some (n, rs)) (ap (λ o. unwrap_or o p.0) (sym names)) (ap (λ o. unwrap_or o p.1) (sym has))

pub none_found : (found : Option (Text × List Row)) → subcommand_name found ≡ None → found ≡ None
none_found None none = refl
none_found (Some p) none = absurd (true≢false (ap is_some none))

-- the name that a parse yields is that of its rows
pub name_of_found : {Z : Type 0} (found : Option (Box SubCommand Z)) → option_map (λ b. (out-SubCommand (box_value b)).name.now) found ≡ subcommand_name (subcommand_rows found)
name_of_found None = refl
name_of_found (Some b) = refl

pub path_of : (operand path : Option (Bor Text)) → MatchOption operand (path ≡ None) (λ word. option_map (λ s. s.now) path ≡ file_of word.now)
    → option_map (λ s. s.now) path ≡ option_and_then file_of (option_map (λ s. s.now) operand)
path_of None path is = ap (option_map (λ s. s.now)) is
path_of (Some word) path is = is

-- the task that a parse without an error found: `serve`, a question or another
pub served_is : (words : List Text) (m : ArgMatches) → subcommand_rows_of m ≡ subcommand_of command_line words → fault_of command_line words ≡ [] → subcommand_name_of m ≡ Some (codes "serve")
    → invocation (drop 1 words) ≡ serve (drop 1 words)
served_is words m found none named =
    served_own (drop 1 words) _ (serve_is (invocation (drop 1 words)) (fault_of command_line words) (subcommand_of command_line words) (words_agree words) none
    (sym (ap subcommand_name found) ∙ sym (name_of_found (out-ArgMatches m).subcommand) ∙ named)).1

pub asked_is : (words : List Text) (m : ArgMatches) → subcommand_rows_of m ≡ subcommand_of command_line words → fault_of command_line words ≡ [] → asks_question (subcommand_name_of m) ≡ true
    → invocation (drop 1 words) ≡ ask (drop 1 words)
asked_is words m found none named =
    asked_own (drop 1 words) _ (ask_is (invocation (drop 1 words)) (fault_of command_line words) (subcommand_of command_line words) (words_agree words) none
    (ap asks_question (sym (ap subcommand_name found) ∙ sym (name_of_found (out-ArgMatches m).subcommand)) ∙ named)).1

-- the subcommand that was found, in all words
pub found_in : (words : List Text) (m : ArgMatches) (name : Text) (matches : ArgMatches) → subcommand_rows_of m ≡ subcommand_of command_line words → subcommand_rows_of m ≡ Some (name, rows_of (found_of matches))
    → IsFoundIn (drop 1 words) name matches
found_in words m name matches found is = sym found ∙ is

pub named_found : (m : ArgMatches) (name : Text) (rows : List Row) → subcommand_name_of m ≡ Some name → option_map (λ p. p.1) (subcommand_rows_of m) ≡ Some rows → subcommand_rows_of m ≡ Some (name, rows)
named_found m name rows named has = found_is (subcommand_rows_of m) name rows (sym named ∙ name_of_found (out-ArgMatches m).subcommand) (sym has)

-- a word that names no task of its own
no_subcommand : (word : Text) (words : List Text) → bytes_eq word (codes "batch") ≡ false → bytes_eq word (codes "check") ≡ false → bytes_eq word (codes "replay") ≡ false → bytes_eq word (codes "serve") ≡ false
    → is_question word ≡ false → invocation (word ∷ words) ≡ cond (bytes_eq word (codes "help")) help_on (cond (is_help word) help (cond (is_version word) version usage_error))
no_subcommand word words b c r s q = rw (b, c, r, s, q) refl

-- the word that asks a question
never_ask : (topic h v : Bool) (own : List Word) → cond topic help_on (cond h help (cond v version usage_error)) ≡ ask own → ⊥
never_ask true h v own is = absurd cc
never_ask false true v own is = absurd cc
never_ask false false true own is = absurd cc
never_ask false false false own is = absurd cc

no_ask : (program word name : Text) (words : List Text) → bytes_eq word name ≡ true → asks_question (Some name) ≡ false → named_is name program words
    → asks_question (subcommand_name (subcommand_of command_line (program ∷ word ∷ words))) ≡ false
no_ask program word name words same none named =
    subst (λ w. asks_question (subcommand_name (subcommand_of command_line (program ∷ w ∷ words))) ≡ false) (sym (same_bytes word name same)) (ap asks_question named ∙ none)

first_asks : (program word : Text) (words : List Text) (is_batch is_check is_replay is_serve is_ask : Bool) → bytes_eq word (codes "batch") ≡ is_batch → bytes_eq word (codes "check") ≡ is_check
    → bytes_eq word (codes "replay") ≡ is_replay → bytes_eq word (codes "serve") ≡ is_serve → is_question word ≡ is_ask
    → asks_question (subcommand_name (subcommand_of command_line (program ∷ word ∷ words))) ≡ true → invocation (word ∷ words) ≡ ask (word ∷ words) → is_question word ≡ true
first_asks program word words true is_check is_replay is_serve is_ask b c r s q asks is =
    absurd (true≢false (sym asks ∙ no_ask program word (codes "batch") words b refl (ap subcommand_name (subcommand_found subcommand.Batch program words))))
first_asks program word words false true is_replay is_serve is_ask b c r s q asks is =
    absurd (true≢false (sym asks ∙ no_ask program word (codes "check") words c refl (ap subcommand_name (subcommand_found subcommand.Check program words))))
first_asks program word words false false true is_serve is_ask b c r s q asks is =
    absurd (true≢false (sym asks ∙ no_ask program word (codes "replay") words r refl (ap subcommand_name (subcommand_found subcommand.Replay program words))))
first_asks program word words false false false true is_ask b c r s q asks is =
    absurd (true≢false (sym asks ∙ no_ask program word (codes "serve") words s refl (serve_named program words)))
first_asks program word words false false false false true b c r s q asks is = q
first_asks program word words false false false false false b c r s q asks is =
    absurd (never_ask (bytes_eq word (codes "help")) (is_help word) (is_version word) (word ∷ words) (sym (no_subcommand word words b c r s q) ∙ is))

first_word : (words : List Text) (name : Option Text) → subcommand_name (subcommand_of command_line words) ≡ name → asks_question name ≡ true → invocation (drop 1 words) ≡ ask (drop 1 words) → slice_get (drop 1 words) 0 ≡ name
first_word [] name named asks is = absurd cc
first_word (program ∷ []) name named asks is = absurd cc
first_word (program ∷ word ∷ words) name named asks is =
    let question = first_asks program word words _ _ _ _ _ refl refl refl refl refl (ap asks_question named ∙ asks) is in
    sym (question_found program word words question) ∙ named

pub question_is : (words : List Text) (m : ArgMatches) (name : Text) → subcommand_rows_of m ≡ subcommand_of command_line words → fault_of command_line words ≡ [] → asks_question (subcommand_name_of m) ≡ true
    → subcommand_name_of m ≡ Some name → slice_get (drop 1 words) 0 ≡ Some name
question_is words m name found none asks named =
    first_word words (Some name) (sym (ap subcommand_name found) ∙ sym (name_of_found (out-ArgMatches m).subcommand) ∙ named) (sym (ap asks_question named) ∙ asks) (asked_is words m found none asks)

-- another task is no question
pub no_question_of : (words : List Text) (found : Option (Text × List Row)) (task : Task) → IsTaskOf found task → IsQuestionOf words task
no_question_of words found (Batch script) is = tt
no_question_of words found (Submit script) is = tt
no_question_of words found (Check file) is = tt
no_question_of words found (Replay file) is = tt
no_question_of words found (Serve serving) is = tt
no_question_of words found (Ask asked) is = absurd is

pub no_reading : (words : List Text) (found : Option (Text × List Row)) (task : Task) → IsTaskOf found task → IsReadFrom words task
no_reading words found (Batch script) is = tt
no_reading words found (Submit script) is = tt
no_reading words found (Check file) is = tt
no_reading words found (Replay file) is = tt
no_reading words found (Serve serving) is = absurd is
no_reading words found (Ask asked) is = absurd is

pub other_is : (words : List Text) (m : ArgMatches) (task : Task) → subcommand_rows_of m ≡ subcommand_of command_line words → fault_of command_line words ≡ []
    → (subcommand_name_of m ≡ Some (codes "serve") → ⊥) → asks_question (subcommand_name_of m) ≡ false → IsTaskOf (subcommand_rows_of m) task → IsAskedFor (drop 1 words) (invocation (drop 1 words)) task
other_is words m task found none other no_ask is =
    task_is (drop 1 words) (invocation (drop 1 words)) (fault_of command_line words) (subcommand_of command_line words) task (words_agree words) none
    (λ named. other (name_of_found (out-ArgMatches m).subcommand ∙ ap subcommand_name found ∙ named))
    (ap asks_question (sym (ap subcommand_name found) ∙ sym (name_of_found (out-ArgMatches m).subcommand)) ∙ no_ask) (subst (λ f. IsTaskOf f task) found is)

pub conflicting_is : (words : List Text) (m : ArgMatches) → subcommand_rows_of m ≡ subcommand_of command_line words → fault_of command_line words ≡ []
    → (subcommand_name_of m ≡ Some (codes "serve") → ⊥) → asks_question (subcommand_name_of m) ≡ false → IsConflict (subcommand_rows_of m) → IsRefused (invocation (drop 1 words))
conflicting_is words m found none other no_ask is =
    conflict_is (invocation (drop 1 words)) (fault_of command_line words) (subcommand_of command_line words) (words_agree words) none
    (λ named. other (name_of_found (out-ArgMatches m).subcommand ∙ ap subcommand_name found ∙ named))
    (ap asks_question (sym (ap subcommand_name found) ∙ sym (name_of_found (out-ArgMatches m).subcommand)) ∙ no_ask) (subst IsConflict found is)

-- if nothing can be served or asked by the words, bad words are their fault; or that memory was refused
pub refused_service : (words : List Word) (fault : Fault) → ServesNothing words → IsWordsFault usage_error fault → IsWordsFault (serve words) fault
refused_service words (Words error) nothing is = inr (inr (inl nothing), is)
refused_service words (Opening reason) nothing is = is
refused_service words Listener nothing is = absurd is

pub refused_question : (words : List Text) (m : ArgMatches) (fault : Fault) → subcommand_rows_of m ≡ subcommand_of command_line words
    → (fault ≡ Opening NoMemory) ⊎ ((word : QuestionWord) × (found : ArgMatches) × (subcommand_rows_of m ≡ Some (name_of_word word, rows_of (found_of found))) × IsNoQuestion word found)
    → IsWordsFault usage_error fault → IsWordsFault (ask (drop 1 words)) fault
refused_question words m (Words error) found (inl memory) is = absurd cc
refused_question words m (Words error) found (inr (word, matches, rows, nothing)) is = inr (inr (inr (word, matches, found_in words m (name_of_word word) matches found rows, nothing)), is)
refused_question words m (Opening reason) found why is = is
refused_question words m Listener found why is = absurd is

refused_words : (script : Submission) (fault : Fault) → names_place script.server ≡ false → IsWordsFault usage_error fault → IsWordsFault (submit script) fault
refused_words script (Words error) nowhere is = (is, nowhere)
refused_words script (Opening reason) nowhere is = is
refused_words script Listener nowhere is = absurd is

pub conflict_fault : {T : Type 0} (asked : Invocation) (result : Result T Fault) → IfErr result (λ fault. IsRefused asked) → IfErr result (IsWordsFault usage_error) → IfErr result (IsWordsFault asked)
conflict_fault asked (Ok task) same is = tt
conflict_fault asked (Err fault) (inl same) is = subst (λ a. IsWordsFault a fault) (sym same) is
conflict_fault asked (Err fault) (inr same) is = subst (λ a. IsWordsFault a fault) (sym same.1) (refused_words same.0 fault same.2 is)

-- ---- words of `serve`

-- a parse that takes the words fails only for want of memory
pub refused_parse : (words : List Text) (error : Error) (fault : Fault) → HasKind (fault_of command_line words) error → FaultOf error fault → fault_of command_line words ≡ [] → fault ≡ Opening NoMemory
refused_parse words error fault has (inl memory) none = memory.1
refused_parse words error fault (inl memory) (inr other) none = absurd (other.0 memory)
refused_parse words error fault (inr among) (inr other) none = absurd (subst (IsAmong (kind_of error)) none among)

-- they ask no question
pub not_asked : (words : List Text) (m : ArgMatches) → subcommand_rows_of m ≡ subcommand_of command_line words → fault_of command_line words ≡ [] → asks_question (subcommand_name_of m) ≡ true
    → invocation (drop 1 words) ≡ serve (drop 1 words) → ⊥
not_asked words m found none asks is = let other : ask (drop 1 words) ≡ serve (drop 1 words) = sym (asked_is words m found none asks) ∙ is in absurd cc

-- and a parse finds `serve`
pub is_served : (words : List Text) (m : ArgMatches) → subcommand_rows_of m ≡ subcommand_of command_line words → invocation (drop 1 words) ≡ serve (drop 1 words) → subcommand_name_of m ≡ Some (codes "serve")
is_served words m found is =
    name_of_found (out-ArgMatches m).subcommand ∙ ap subcommand_name found
    ∙ (subst (λ asked. Agrees asked (fault_of command_line words) (subcommand_of command_line words)) is (words_agree words)).0

-- what holds of each fault
pub any_fault : {T : Type 0} (result : Result T Fault) (P : Fault → Type 0) → ((fault : Fault) → P fault) → IfErr result P
any_fault (Ok task) P each = tt
any_fault (Err fault) P each = each fault
