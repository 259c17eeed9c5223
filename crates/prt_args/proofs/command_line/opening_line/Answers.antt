use Rattle.std.proofs.Common.{◌∙◌, ap, true}
use Rattle.std.proofs.lemmas.Result.{IfOk-weaker}
use Rattle.clap.specs.Words.{App}
use Rattle.clap.specs.Simple.{Shape, app_of_fields, on_top}
use Rattle.clap.specs.declared.builder.command.Command.{Command}
use Rattle.clap.specs.declared.builder.command.Command.TheOpen.{Command-F}
use Rattle.prt_args.proofs.command_line.opening_line.Goals as goal

-- what the program's own line asks for
abbrev needs_subcommand : Command-F Command → App
needs_subcommand fields = app_of_fields (record fields { subcommand_required = true; arg_required_else_help = true })

-- and with a version
abbrev tells_version : Command-F Command → App
tells_version fields = on_top (λ (top : Shape). record top { has_version = true }) (needs_subcommand fields)

pub returns : goal.returns
returns c =
    let opening = ap app_of_fields c.arg_required_else_help.ensures
    ∙ ap (λ (fields : Command-F Command). app_of_fields (record fields { arg_required_else_help = true })) c.subcommand_required.ensures
    ∙ ap needs_subcommand c.version.ensures ∙ ap tells_version c.about.ensures
    ∙ ap (on_top (λ (top : Shape). record top { subcommand_required = true; arg_required_else_help = true; has_version = true })) c.new.ensures.app in
    IfOk-weaker c.bin_name.result _ _ (λ command named. ap app_of_fields named.0 ∙ opening) c.bin_name.ensures
