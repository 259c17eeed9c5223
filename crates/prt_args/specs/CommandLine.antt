-- The words that the program knows, as a parse reads them.
use Rattle.std.specs.Prelude.{Bool, true, [], ◌∷◌, Some, codes}
use Rattle.clap.specs.Words.{App, Rule, Text, new_app, new_rule, with_rule, with_subcommand}
use Rattle.clap.specs.Simple.{on_top}
use Rattle.clap.specs.declared.builder.action.ArgAction.TheVariants.{Append, SetTrue}
use Rattle.clap.specs.declared.builder.command.Command.{Command}
use Rattle.clap.specs.declared.builder.command.Command.TheViews.{out-Command}

abbrev pub flag_rule : Text → Rule
flag_rule name = record (new_rule name) { long = Some name; action = Some SetTrue }

-- an option with a value, one that has to be given, and one that has this value if it isn't given
abbrev pub option_rule : Text → Rule
option_rule name = record (new_rule name) { long = Some name; value_names = 1 }

abbrev pub needed_rule : Text → Rule
needed_rule name = record (option_rule name) { required = true }

abbrev pub number_rule : Text → Text → Rule
number_rule name missing = record (option_rule name) { defaults = missing ∷ [] }

abbrev pub database_rule : Rule
database_rule = record (new_rule (codes "db")) { long = Some (codes "db"); value_names = 1 }

abbrev pub file_rule : Rule
file_rule = record (new_rule (codes "file")) { value_names = 1 }

abbrev pub batch_line : App
batch_line = with_rule (with_rule
    (with_rule (with_rule (with_rule (with_rule (new_app (codes "batch")) (flag_rule (codes "force")))
    (flag_rule (codes "atomic"))) database_rule) (option_rule (codes "server"))) (flag_rule (codes "verbose"))) file_rule

abbrev pub check_line : App
check_line = with_rule (new_app (codes "check")) file_rule

abbrev pub replay_line : App
replay_line = with_rule (new_app (codes "replay")) file_rule

-- with the places at which a server listens
abbrev pub with_places : App → App
with_places app = with_rule (with_rule (with_rule (with_rule app (option_rule (codes "listen"))) (option_rule (codes "atomic")))
    (option_rule (codes "feed"))) (option_rule (codes "sockets"))

-- with how much it serves
abbrev pub with_limits : App → App
with_limits app = with_rule (with_rule (with_rule app (number_rule (codes "workers") (codes "4")))
    (number_rule (codes "sessions") (codes "0"))) (number_rule (codes "idle") (codes "0"))

abbrev pub serve_line : App
serve_line = with_rule (with_limits (with_places (with_rule (new_app (codes "serve")) (needed_rule (codes "db"))))) (flag_rule (codes "log"))

-- the words of a question
abbrev pub words_rule : Rule
words_rule = record (new_rule (codes "words")) { action = Some Append; value_names = 1 }

-- which tables are queried
abbrev pub place_line : Text → App
place_line name = with_rule (with_rule (new_app name) (option_rule (codes "db"))) (option_rule (codes "server"))

-- in which form the answer is, and how it calls tables
abbrev pub tables_line : Text → App
tables_line name = with_rule (with_rule (place_line name) (flag_rule (codes "json"))) (flag_rule (codes "names"))

abbrev pub question_line : Text → App
question_line name = with_rule (tables_line name) words_rule

abbrev pub get_line : App
get_line = question_line (codes "get")

abbrev pub show_line : App
show_line = question_line (codes "show")

abbrev pub explain_line : App
explain_line = question_line (codes "explain")

abbrev pub dump_line : App
dump_line = with_rule (tables_line (codes "dump")) (flag_rule (codes "replace"))

-- an option that may be given often, each time with a value
abbrev pub repeated_rule : Text → Rule
repeated_rule name = record (option_rule name) { action = Some Append }

-- with the words that say how far it reaches
abbrev pub with_reach : App → App
with_reach app = with_rule (with_rule (with_rule (with_rule app (flag_rule (codes "all"))) (repeated_rule (codes "table")))
    (repeated_rule (codes "proto"))) (repeated_rule (codes "priority"))

abbrev pub diff_line : App
diff_line = with_rule (with_rule (with_rule (with_reach (place_line (codes "diff"))) (flag_rule (codes "check"))) (flag_rule (codes "impact"))) file_rule

-- a question of a server
abbrev pub server_line : Text → App
server_line name = with_rule (new_app name) (needed_rule (codes "server"))

abbrev pub follow_line : App
follow_line = with_rule (with_rule (with_reach (server_line (codes "follow"))) (flag_rule (codes "once"))) file_rule

abbrev pub wait_line : App
wait_line = with_rule (server_line (codes "wait")) (number_rule (codes "seconds") (codes "30"))

abbrev pub import_line : App
import_line = with_rule (with_rule (new_app (codes "import")) (option_rule (codes "db"))) file_rule

-- the words of `impact` and `assert` are the files
abbrev pub impact_line : App
impact_line = with_rule (with_rule
    (with_rule (with_rule (place_line (codes "impact")) (flag_rule (codes "json"))) (flag_rule (codes "exact")))
    (flag_rule (codes "force"))) words_rule

abbrev pub assert_line : App
assert_line = with_rule (with_rule (place_line (codes "assert")) (flag_rule (codes "explain"))) words_rule

abbrev pub unused_line : App
unused_line = with_rule (place_line (codes "unused")) file_rule

-- the tables are those of `--db`, or those of `--server` and `--atomic`
abbrev pub apply_line : App
apply_line = with_rule (with_rule
    (with_rule (with_rule (place_line (codes "apply")) (option_rule (codes "atomic"))) (flag_rule (codes "dry-run")))
    (flag_rule (codes "impact"))) file_rule

abbrev pub status_line : App
status_line = with_rule (with_rule (server_line (codes "status")) (flag_rule (codes "json"))) (flag_rule (codes "metrics"))

abbrev pub opening_line : App
opening_line = on_top (λ top. record top { subcommand_required = true; arg_required_else_help = true; has_version = true }) (new_app (codes "prt"))

-- with the subcommands that ask questions
abbrev pub with_questions : App → App
with_questions app = with_subcommand
    (with_subcommand (with_subcommand
    (with_subcommand (with_subcommand
    (with_subcommand (with_subcommand
    (with_subcommand app get_line.top) show_line.top) explain_line.top) dump_line.top) diff_line.top) follow_line.top) wait_line.top) import_line.top

-- with those that analyse where packets go
abbrev pub with_analyses : App → App
with_analyses app = with_subcommand (with_subcommand (with_subcommand app impact_line.top) assert_line.top) unused_line.top

-- with those that make tables, and that look after a server
abbrev pub with_services : App → App
with_services app = with_subcommand (with_subcommand app apply_line.top) status_line.top

abbrev pub command_line : App
command_line = with_services (with_analyses
    (with_questions (with_subcommand
    (with_subcommand (with_subcommand (with_subcommand opening_line batch_line.top) check_line.top) replay_line.top) serve_line.top)))

-- whether an argument of the command is one of its subcommands too
abbrev pub has_globals : Command → Bool
has_globals command = (out-Command command).has_globals
