use Rattle.std.proofs.Common.{◌≡◌, refl, subst, sym}
use Rattle.std.specs.Prelude.{string_bytes}
use Rattle.std.specs.Str.{IsUtf8}
use Rattle.cedar_program.specs.Folders.{Follows, stored}
use Rattle.cedar_grammar.specs.Refusals.{OutOfMemoryOr}
use Rattle.cedar_written.specs.Refusals.{Refuses}
use Rattle.cedar_policy_formatter.specs.Outputs.{HasOutput}
use Rattle.cedar_program.specs.FolderRuns.{GivesLayout, Handles}
use Rattle.cedar_program.specs.declared.folder.files.Layout.TheVariants.{Other}
use Rattle.cedar_program.specs.declared.folder.folder.Outcome.TheVariants.{NotUtf8, Refused, Unformatted}
use Rattle.cedar_program.proofs.Steps.{as_one, of_two}
use Rattle.cedar_program.proofs.Handling.{of_read, of_replaced}
use Rattle.cedar_program.proofs.folder.files.format_file.Goals as goal

pub returns-in-Other : goal.returns-in-Other
returns-in-Other g c =
    let pic = g.F.Folder.picture in
    let only = c.args.only_checks in
    let config = c.args.config.now in
    let f = stored c.in-Ok.file in
    let given : GivesLayout config f.bytes (Other c.in-Other.output) = subst (λ z.
    GivesLayout config z (Other c.in-Other.output)) c.deref.ensures.value c.in-Other.ensures in
    as_one (λ p q h. of_read config c.args.name.now only
    (Unformatted c.in-Ok.file.bytes c.in-Other.output) f p q h
    (c.if-only_checks.true, given.0, refl, given.1, refl))
    (pic c.args.folder.now) (pic c.read.new.self) c.in-Ok.ensures

pub returns-in-Other-2 : goal.returns-in-Other-2
returns-in-Other-2 g c =
    let pic = g.F.Folder.picture in
    let config = c.args.config.now in
    let name = c.args.name.now in
    let f = stored c.in-Ok.file in
    let o = c.replace_file.result in
    let ys = c.as_bytes.result.now in
    let given : GivesLayout config f.bytes (Other c.in-Other.output) = subst (λ z.
    GivesLayout config z (Other c.in-Other.output)) c.deref.ensures.value c.in-Other.ensures in
    let is : string_bytes c.in-Other.output ≡ ys = sym c.as_bytes.ensures.value in
    subst (λ b. Follows (Handles config b name o) (pic c.args.folder.now)
    (pic c.replace_file.new.folder)) (sym c.if-only_checks.false)
    (of_two (λ p q r h done. of_replaced config name f ys given.0 (subst
    (λ z. HasOutput config f.bytes z) is given.1) (subst (λ z. IsUtf8 z) is given.2) o p q r h done)
    (pic c.args.folder.now) (pic c.read.new.self)
    (pic c.replace_file.new.folder) c.in-Ok.ensures c.replace_file.ensures)

pub returns-in-NotUtf8 : goal.returns-in-NotUtf8
returns-in-NotUtf8 g c =
    let pic = g.F.Folder.picture in
    as_one (λ p q h.
    of_read c.args.config.now c.args.name.now c.args.only_checks NotUtf8 (stored c.in-Ok.file) p q h
    (subst (λ z. IsUtf8 z → ⊥) c.deref.ensures.value c.in-NotUtf8.ensures, refl))
    (pic c.args.folder.now) (pic c.read.new.self) c.in-Ok.ensures

pub returns-in-Refused : goal.returns-in-Refused
returns-in-Refused g c =
    let pic = g.F.Folder.picture in
    let why : OutOfMemoryOr (Refuses c.in-Ok.file.bytes.items) c.in-Refused.error = subst (λ z.
    OutOfMemoryOr (Refuses z) c.in-Refused.error) c.deref.ensures.value c.in-Refused.ensures in
    as_one (λ p q h. of_read c.args.config.now c.args.name.now c.args.only_checks
    (Refused c.in-Refused.error c.in-Ok.file.bytes) (stored c.in-Ok.file) p q h (why, refl, refl))
    (pic c.args.folder.now) (pic c.read.new.self) c.in-Ok.ensures
