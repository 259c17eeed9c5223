use Rattle.std.proofs.Common.{rules, ◌≡◌, IfErr, Result, Ok, Err, Option, Some, inr, option_map, subst, sym, ◌∙◌, codes}
use Rattle.clap.specs.Words.{Text, found_of, one_of, rows_of, subcommand_rows_of}
use Rattle.prt_args.specs.Tasks.{IsConflict, IsModeBy, IsModeOf, IsUnfit, flag_text, named_database, named_server}
use Rattle.prt_args.specs.declared.task.Mode.{Mode}
use Rattle.prt_args.proofs.task.task_of.Goals as goal

mode_by : (force atomic own_force own_atomic : Option Text) (mode : Option Mode) → own_force ≡ force → own_atomic ≡ atomic → IsModeBy force atomic mode → IsModeBy own_force own_atomic mode
mode_by force atomic own_force own_atomic mode forced together is = λ a b e f. is a b (sym forced ∙ e) (sym together ∙ f)

-- what holds in any case holds at an error
in_any_case : {A E P : Type 0} (result : Result A E) → P → IfErr result (λ error. P)
in_any_case (Ok value) holds = tt
in_any_case (Err error) holds = holds

pub returns-in_err-server-clause-conflict : goal.returns-in_err-server-clause-conflict
returns-in_err-server-clause-conflict c =
    let word = c.in-Some-server_word.word.now in
    let named : named_server (subcommand_rows_of c.args.matches.now) ≡ Some word = search rules in
    let database : option_map (λ path. path.now) c.database_in-database.result ≡ named_database (subcommand_rows_of c.args.matches.now) = search rules in
    let rows = rows_of (found_of c.in-Some.found.now) in
    let forced : flag_text (codes "force") (subcommand_rows_of c.args.matches.now) ≡ one_of (codes "force") rows = search rules in
    let together : flag_text (codes "atomic") (subcommand_rows_of c.args.matches.now) ≡ one_of (codes "atomic") rows = search rules in
    let mode : IsModeOf (subcommand_rows_of c.args.matches.now) (Some c.in_ok-mode.mode) = mode_by _ _ _ _ (Some c.in_ok-mode.mode) forced together c.in_ok-mode.ensures.mode in
    let unfit = subst (λ (database : Option Text). IsUnfit c.in_ok-mode.mode database word) database c.in_err-server.ensures.unfit in
    let conflict : IsConflict (subcommand_rows_of c.args.matches.now) = (search rules, search rules, inr (c.in_ok-mode.mode, word, mode, named, unfit)) in
    in_any_case c.from_residual-in_err-server.result conflict

pub returns-clause-task : goal.returns-clause-task
returns-clause-task c = (
  search rules,
  search rules,
  search rules,
  search rules,
  search rules,
  search rules,
  search rules,
  (c.in-Some-server_word.word.now, search rules, c.in_ok-server.ensures.place),
)
