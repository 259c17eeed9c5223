use Rattle.std.proofs.Common.{◌≡◌, ◌∙◌, ℕ, Some, is_some, option_map, codes, ap, subst, sym, map, List, true≢false, inl, inr}
use Rattle.std.proofs.lemmas.Result.{IfErr-weaker, IfOk-weaker, err_from_is_err_and}
use Rattle.std.specs.Prelude.{IfSome, string_bytes}
use Rattle.clap.specs.Kinds.{HasKind}
use Rattle.clap.specs.declared.parser.matches.ArgMatches.{ArgMatches}
use Rattle.prt_args.specs.Read.{IsAskedBy, IsServiceRefused}
use Rattle.clap.specs.Words.{App, fault_of, found_of, rows_of, subcommand_rows_of, is_simple, is_simple_and_free, subcommand_name_of, subcommand_of}
use Rattle.prt_args.specs.Asking.{name_of_asked}
use Rattle.prt_args.specs.CommandLine.{command_line}
use Rattle.prt_args.specs.Faults.{IsWordsFault}
use Rattle.prt_args.specs.Invocation.{invocation, arguments, ask, serve}
use Rattle.prt_args.proofs.WordClasses.{simple_line, free_line}
use Rattle.prt_args.proofs.WordsRead.{any_fault, asked_is, conflict_fault, conflicting_is, found_in, is_served, named_found, no_question_of, no_reading, not_asked, other_is, question_is, refused_parse, refused_question, refused_service, served_is, words_fault}
use Rattle.prt_args.proofs.task.read_words.Goals as goal

pub returns-in_err-matches-clause-fault : goal.returns-in_err-matches-clause-fault
returns-in_err-matches-clause-fault c =
    let texts : List (List ℕ) = map string_bytes c.args.words.now in
    let line = c.in_ok-command_line.ensures in
    let error = c.in_err-matches.field-0.0 in
    let has : HasKind (fault_of command_line texts) error =
    subst (λ (a : App). HasKind (fault_of a texts) error) line (c.in_err-matches.ensures.kinds (ap is_simple_and_free line ∙ free_line)) in
    let given = err_from_is_err_and c.from_residual-in_err-matches.result c.from_residual-in_err-matches.ensures.1 in
    rw given.1 (words_fault texts error given.0 has given.2)

pub returns-in_err-serve_args_of-in-Some-clause-fault : goal.returns-in_err-serve_args_of-in-Some-clause-fault
returns-in_err-serve_args_of-in-Some-clause-fault c =
    let texts : List (List ℕ) = map string_bytes c.args.words.now in
    let line = c.in_ok-command_line.ensures in
    let found = (c.in_ok-matches.ensures.matches (ap is_simple line ∙ simple_line)).1 ∙ ap (λ (a : App). subcommand_of a texts) line in
    let none = sym (ap (λ (a : App). fault_of a texts) line) ∙ c.in_ok-matches.ensures.kinds (ap is_simple_and_free line ∙ free_line) in
    let named = c.subcommand_matches.ensures.found.0 (ap is_some c.in-Some.is) in
    let rows = subst (λ matches. IfSome matches (λ m. option_map (λ p. p.1) (subcommand_rows_of c.in_ok-matches.matches) ≡ Some (rows_of (found_of m.now)))) c.in-Some.is c.subcommand_matches.ensures.rows in
    let is = found_in texts c.in_ok-matches.matches (codes "serve") c.in-Some.found.now found (named_found c.in_ok-matches.matches (codes "serve") _ named rows) in
    let given = err_from_is_err_and c.from_residual-in_err-serve_args_of-in-Some.result c.from_residual-in_err-serve_args_of-in-Some.ensures.1 in
    let bad = refused_service (arguments c.args.words.now) c.in_err-serve_args_of-in-Some.field-0.0 (c.in-Some.found.now, is, c.in_err-serve_args_of-in-Some.ensures.refused) c.in_err-serve_args_of-in-Some.ensures.fault in
    rw (served_is texts c.in_ok-matches.matches found none named, given.1) (subst (IsWordsFault (serve (arguments c.args.words.now))) (sym given.2) bad)

pub returns-in-Some-clause-task : goal.returns-in-Some-clause-task
returns-in-Some-clause-task c =
    let texts : List (List ℕ) = map string_bytes c.args.words.now in
    let line = c.in_ok-command_line.ensures in
    let found = (c.in_ok-matches.ensures.matches (ap is_simple line ∙ simple_line)).1 ∙ ap (λ (a : App). subcommand_of a texts) line in
    let none = sym (ap (λ (a : App). fault_of a texts) line) ∙ c.in_ok-matches.ensures.kinds (ap is_simple_and_free line ∙ free_line) in
    served_is texts c.in_ok-matches.matches found none (c.subcommand_matches.ensures.found.0 (ap is_some c.in-Some.is))

pub returns-in_err-asked-in-None-clause-fault : goal.returns-in_err-asked-in-None-clause-fault
returns-in_err-asked-in-None-clause-fault c =
    let texts : List (List ℕ) = map string_bytes c.args.words.now in
    let line = c.in_ok-command_line.ensures in
    let found = (c.in_ok-matches.ensures.matches (ap is_simple line ∙ simple_line)).1 ∙ ap (λ (a : App). subcommand_of a texts) line in
    let none = sym (ap (λ (a : App). fault_of a texts) line) ∙ c.in_ok-matches.ensures.kinds (ap is_simple_and_free line ∙ free_line) in
    let given = err_from_is_err_and c.from_residual-in_err-asked-in-None.result c.from_residual-in_err-asked-in-None.ensures.1 in
    let bad = refused_question texts c.in_ok-matches.matches c.in_err-asked-in-None.field-0.0 found c.in_err-asked-in-None.ensures.refused c.in_err-asked-in-None.ensures.fault.1 in
    rw (asked_is texts c.in_ok-matches.matches found none c.in_err-asked-in-None.ensures.fault.0, given.1) (subst (IsWordsFault (ask (arguments c.args.words.now))) (sym given.2) bad)

pub returns-in-Some-2-clause-task : goal.returns-in-Some-2-clause-task
returns-in-Some-2-clause-task c =
    let texts : List (List ℕ) = map string_bytes c.args.words.now in
    let line = c.in_ok-command_line.ensures in
    let found = (c.in_ok-matches.ensures.matches (ap is_simple line ∙ simple_line)).1 ∙ ap (λ (a : App). subcommand_of a texts) line in
    let none = sym (ap (λ (a : App). fault_of a texts) line) ∙ c.in_ok-matches.ensures.kinds (ap is_simple_and_free line ∙ free_line) in
    asked_is texts c.in_ok-matches.matches found none (sym c.in_ok-asked-in-None.ensures.asked ∙ ap is_some c.in-Some-2.is)

pub returns-in-Some-2-clause-question : goal.returns-in-Some-2-clause-question
returns-in-Some-2-clause-question c =
    let texts : List (List ℕ) = map string_bytes c.args.words.now in
    let line = c.in_ok-command_line.ensures in
    let found = (c.in_ok-matches.ensures.matches (ap is_simple line ∙ simple_line)).1 ∙ ap (λ (a : App). subcommand_of a texts) line in
    let none = sym (ap (λ (a : App). fault_of a texts) line) ∙ c.in_ok-matches.ensures.kinds (ap is_simple_and_free line ∙ free_line) in
    let asks = sym c.in_ok-asked-in-None.ensures.asked ∙ ap is_some c.in-Some-2.is in
    let named = subst (λ asked. IfSome asked (λ asked. subcommand_name_of c.in_ok-matches.matches ≡ Some (name_of_asked asked))) c.in-Some-2.is c.in_ok-asked-in-None.ensures.word in
    question_is texts c.in_ok-matches.matches (name_of_asked c.in-Some-2.asked) found none asks named

pub returns-in-Some-clause-reads : goal.returns-in-Some-clause-reads
returns-in-Some-clause-reads c =
    let texts : List (List ℕ) = map string_bytes c.args.words.now in
    let line = c.in_ok-command_line.ensures in
    let found = (c.in_ok-matches.ensures.matches (ap is_simple line ∙ simple_line)).1 ∙ ap (λ (a : App). subcommand_of a texts) line in
    let named = c.subcommand_matches.ensures.found.0 (ap is_some c.in-Some.is) in
    let rows = subst (λ matches. IfSome matches (λ m. option_map (λ p. p.1) (subcommand_rows_of c.in_ok-matches.matches) ≡ Some (rows_of (found_of m.now)))) c.in-Some.is c.subcommand_matches.ensures.rows in
    (c.in-Some.found.now, found_in texts c.in_ok-matches.matches (codes "serve") c.in-Some.found.now found (named_found c.in_ok-matches.matches (codes "serve") _ named rows), c.in_ok-serve_args_of-in-Some.ensures.reads)

pub returns-in-Some-2-clause-reads : goal.returns-in-Some-2-clause-reads
returns-in-Some-2-clause-reads c =
    let texts : List (List ℕ) = map string_bytes c.args.words.now in
    let line = c.in_ok-command_line.ensures in
    let found = (c.in_ok-matches.ensures.matches (ap is_simple line ∙ simple_line)).1 ∙ ap (λ (a : App). subcommand_of a texts) line in
    let is = subst (λ asked. IfSome asked (λ asked. (found : ArgMatches) × (subcommand_rows_of c.in_ok-matches.matches ≡ Some (name_of_asked asked, rows_of (found_of found))) × IsAskedBy found asked)) c.in-Some-2.is c.in_ok-asked-in-None.ensures.reads in
    (is.0, found_in texts c.in_ok-matches.matches (name_of_asked c.in-Some-2.asked) is.0 found is.1, is.2)

pub returns-clause-reads : goal.returns-clause-reads
returns-clause-reads c =
    IfOk-weaker c.task_of.result _ _ (λ task is. no_reading (arguments c.args.words.now) _ task is) c.task_of.ensures.task

pub returns-clause-question : goal.returns-clause-question
returns-clause-question c =
    IfOk-weaker c.task_of.result _ _ (λ task is. no_question_of (arguments c.args.words.now) _ task is) c.task_of.ensures.task

pub returns-clause-task : goal.returns-clause-task
returns-clause-task c =
    let texts : List (List ℕ) = map string_bytes c.args.words.now in
    let line = c.in_ok-command_line.ensures in
    let found = (c.in_ok-matches.ensures.matches (ap is_simple line ∙ simple_line)).1 ∙ ap (λ (a : App). subcommand_of a texts) line in
    let none = sym (ap (λ (a : App). fault_of a texts) line) ∙ c.in_ok-matches.ensures.kinds (ap is_simple_and_free line ∙ free_line) in
    IfOk-weaker c.task_of.result _ _ (λ task is. other_is texts c.in_ok-matches.matches task found none
    (λ named. absurd (true≢false (sym (c.subcommand_matches.ensures.found.1 named) ∙ ap is_some c.in-None.is)))
    (sym c.in_ok-asked-in-None.ensures.asked ∙ ap is_some c.in-None-2.is) is) c.task_of.ensures.task

pub returns-clause-fault : goal.returns-clause-fault
returns-clause-fault c =
    let texts : List (List ℕ) = map string_bytes c.args.words.now in
    let line = c.in_ok-command_line.ensures in
    let found = (c.in_ok-matches.ensures.matches (ap is_simple line ∙ simple_line)).1 ∙ ap (λ (a : App). subcommand_of a texts) line in
    let none = sym (ap (λ (a : App). fault_of a texts) line) ∙ c.in_ok-matches.ensures.kinds (ap is_simple_and_free line ∙ free_line) in
    conflict_fault (invocation (arguments c.args.words.now)) c.task_of.result (IfErr-weaker c.task_of.result _ _ (λ fault is. conflicting_is texts c.in_ok-matches.matches found none
    (λ named. absurd (true≢false (sym (c.subcommand_matches.ensures.found.1 named) ∙ ap is_some c.in-None.is)))
    (sym c.in_ok-asked-in-None.ensures.asked ∙ ap is_some c.in-None-2.is) is) c.task_of.ensures.conflict) c.task_of.ensures.fault

pub returns-in_err-matches-clause-refused : goal.returns-in_err-matches-clause-refused
returns-in_err-matches-clause-refused c =
    let texts : List (List ℕ) = map string_bytes c.args.words.now in
    let line = c.in_ok-command_line.ensures in
    let error = c.in_err-matches.field-0.0 in
    let has : HasKind (fault_of command_line texts) error =
    subst (λ (a : App). HasKind (fault_of a texts) error) line (c.in_err-matches.ensures.kinds (ap is_simple_and_free line ∙ free_line)) in
    let given = err_from_is_err_and c.from_residual-in_err-matches.result c.from_residual-in_err-matches.ensures.1 in
    rw given.1 (λ none serves. inl (refused_parse texts error given.0 has given.2 none))

pub returns-in_err-serve_args_of-in-Some-clause-refused : goal.returns-in_err-serve_args_of-in-Some-clause-refused
returns-in_err-serve_args_of-in-Some-clause-refused c =
    let texts : List (List ℕ) = map string_bytes c.args.words.now in
    let line = c.in_ok-command_line.ensures in
    let found = (c.in_ok-matches.ensures.matches (ap is_simple line ∙ simple_line)).1 ∙ ap (λ (a : App). subcommand_of a texts) line in
    let named = c.subcommand_matches.ensures.found.0 (ap is_some c.in-Some.is) in
    let rows = subst (λ matches. IfSome matches (λ m. option_map (λ p. p.1) (subcommand_rows_of c.in_ok-matches.matches) ≡ Some (rows_of (found_of m.now)))) c.in-Some.is c.subcommand_matches.ensures.rows in
    let is = found_in texts c.in_ok-matches.matches (codes "serve") c.in-Some.found.now found (named_found c.in_ok-matches.matches (codes "serve") _ named rows) in
    any_fault c.from_residual-in_err-serve_args_of-in-Some.result (IsServiceRefused (arguments c.args.words.now)) (λ fault none serves. inr (c.in-Some.found.now, is, c.in_err-serve_args_of-in-Some.ensures.refused))

pub returns-in_err-asked-in-None-clause-refused : goal.returns-in_err-asked-in-None-clause-refused
returns-in_err-asked-in-None-clause-refused c =
    let texts : List (List ℕ) = map string_bytes c.args.words.now in
    let line = c.in_ok-command_line.ensures in
    let found = (c.in_ok-matches.ensures.matches (ap is_simple line ∙ simple_line)).1 ∙ ap (λ (a : App). subcommand_of a texts) line in
    any_fault c.from_residual-in_err-asked-in-None.result (IsServiceRefused (arguments c.args.words.now)) (λ fault none serves. absurd (not_asked texts c.in_ok-matches.matches found none c.in_err-asked-in-None.ensures.fault.0 serves))

pub returns-clause-refused : goal.returns-clause-refused
returns-clause-refused c =
    let texts : List (List ℕ) = map string_bytes c.args.words.now in
    let line = c.in_ok-command_line.ensures in
    let found = (c.in_ok-matches.ensures.matches (ap is_simple line ∙ simple_line)).1 ∙ ap (λ (a : App). subcommand_of a texts) line in
    any_fault c.task_of.result (IsServiceRefused (arguments c.args.words.now)) (λ fault none serves. absurd (true≢false (sym (c.subcommand_matches.ensures.found.1 (is_served texts c.in_ok-matches.matches found serves)) ∙ ap is_some c.in-None.is)))
