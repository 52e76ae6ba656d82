use Rattle.std.proofs.Common.{◌≡◌, ◌∙◌, ◌||◌, ap, ap₂, codes, false}
use Rattle.std.proofs.lemmas.Result.{IfOk-weaker}
use Rattle.clap.specs.Words.{app_of, new_app, with_rule}
use Rattle.clap.specs.Simple.{app_of_fields}
use Rattle.clap.specs.declared.builder.command.Command.{Command}
use Rattle.clap.specs.declared.builder.command.Command.TheOpen.{Command-F}
use Rattle.clap.specs.declared.builder.command.Command.TheViews.{out-Command as fields_of}
use Rattle.cedar_program.proofs.command.format_command.Goals as goal

pub returns : goal.returns
returns c =
    let base : app_of c.after_help.result ≡ new_app (codes "format") =
    ap app_of_fields c.after_help.ensures ∙ ap app_of_fields c.about.ensures ∙ c.new.ensures.app in
    let base_local : (fields_of c.after_help.result).has_globals ≡ false =
    ap (λ (f : Command-F Command). f.has_globals) c.after_help.ensures
    ∙ ap (λ (f : Command-F Command). f.has_globals) c.about.ensures ∙ c.new.ensures.local in
    let first = c.in_ok-arg.ensures in
    let second = c.in_ok-arg-2.ensures in
    let third = c.in_ok-arg-3.ensures in
    let file = c.file_arg.ensures in
    let indent = c.number_arg.ensures in
    let width = c.number_arg-2.ensures in
    let check = c.check_arg.ensures in
    let three = third.shape width.local ∙ ap₂ with_rule (second.shape indent.local ∙ ap₂ with_rule
    (first.shape file.local ∙ ap₂ with_rule base file.rule) indent.rule) width.rule in
    let three_local = third.globals ∙ ap₂ ◌||◌ (second.globals
    ∙ ap₂ ◌||◌ (first.globals ∙ ap₂ ◌||◌ base_local file.local) indent.local) width.local in
    IfOk-weaker c.arg-4.result _ _ (λ made fourth. (
      fourth.shape check.local ∙ ap₂ with_rule three check.rule,
      fourth.globals ∙ ap₂ ◌||◌ three_local check.local,
    )) c.arg-4.ensures
