use Rattle.std.proofs.Common.{◌≡◌, ℕ, ℤ, List, Some, string_bytes, sym, ap, ◌∙◌}
use Rattle.std.specs.Option.{option_map}
use Rattle.cedar_server.specs.declared.documents.Document.{Document}
use Rattle.cedar_server.specs.declared.messages.Answer.{Answer}
use Rattle.cedar_server.specs.Layouts.{LaysOut}
use Rattle.cedar_server.specs.Sessions.{document_of, indent_for, known, state_of, width_for}
use Rattle.cedar_server.proofs.Layouts.{lays_out_document}
use Rattle.cedar_server.proofs.server.Server.format.Goals as goal

pub returns-in-Some-Text : goal.returns-in-Some-Text
returns-in-Some-Text c =
    let s = c.args.self.now in
    let uri = c.args.uri.now in
    let version = c.in-Some-Text.field-0-0 in
    let text = string_bytes c.in-Some-Text.text in
    let Lays : ℕ → ℤ → List ℕ → Answer → Type 0 = λ w i text a. LaysOut s.encoding w i text a in
    let found : document_of s uri ≡ Some (known version text) =
    sym (ap (λ (it : Document). Some (state_of it)) (sym c.in-Some-Text.field-0-is)
    ∙ ap (option_map state_of) c.in-Some-Text.ensures.value) in
    lays_out_document (document_of s uri) version Lays text c.as_str.result.now c.format_whole.result
    c.config_for-config.result.line_width (width_for s.wishes c.args.project)
    c.config_for-config.result.indent_width (indent_for s.wishes c.args.project) found
    c.as_str.ensures.value c.config_for-config.ensures.width c.config_for-config.ensures.indent
    c.format_whole.ensures
