use Rattle.std.proofs.Common.{◌≡◌, ◌∙◌, ap, ap₂, true}
use Rattle.std.proofs.lemmas.Result.{IfOk-weaker}
use Rattle.clap.specs.Words.{App, app_of, with_subcommand}
use Rattle.clap.specs.Simple.{app_of_fields}
use Rattle.clap.specs.declared.builder.command.Command.{Command}
use Rattle.clap.specs.declared.builder.command.Command.TheOpen.{Command-F}
use Rattle.cedar_program.specs.CommandLine.{bare_app}
use Rattle.cedar_program.proofs.command.command.Goals as goal

-- the settings, from the last one on
abbrev without_help : App → App
without_help a = record { top = record a.top { disable_help_subcommand = true }; subs = a.subs }

abbrev needing : App → App
needing a = record {
  top = record a.top { subcommand_required = true; disable_help_subcommand = true };
  subs = a.subs;
}

abbrev with_version : App → App
with_version a = record {
  top = record a.top {
    subcommand_required = true;
    disable_help_subcommand = true;
    has_version = true;
  };
  subs = a.subs;
}

pub returns : goal.returns
returns c =
    let bare : app_of c.disable_help_subcommand.result ≡ bare_app =
    ap app_of_fields c.disable_help_subcommand.ensures
    ∙ ap (λ (f : Command-F Command). without_help (app_of_fields f)) c.subcommand_required.ensures
    ∙ ap (λ (f : Command-F Command). needing (app_of_fields f)) c.after_help.ensures
    ∙ ap (λ (f : Command-F Command). needing (app_of_fields f)) c.version.ensures
    ∙ ap (λ (f : Command-F Command). with_version (app_of_fields f)) c.about.ensures
    ∙ ap with_version c.new.ensures.app in
    let format = c.in_ok-format_command.ensures in
    IfOk-weaker c.subcommand.result _ _ (λ made added. added.shape format.1
    ∙ ap₂ with_subcommand bare (ap (λ (a : App). a.top) format.0)) c.subcommand.ensures
