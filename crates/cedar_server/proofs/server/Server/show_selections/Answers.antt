use Rattle.std.proofs.Common.{◌≡◌, ℕ, List, Some, string_bytes, sym, ap, ◌∙◌}
use Rattle.std.specs.Option.{option_map}
use Rattle.cedar_server.specs.declared.documents.Document.{Document}
use Rattle.cedar_server.specs.declared.messages.Answer.{Answer}
use Rattle.cedar_server.specs.Outline.{ShowsSelections}
use Rattle.cedar_server.specs.Sessions.{document_of, known, state_of}
use Rattle.cedar_server.proofs.Layouts.{of_document}
use Rattle.cedar_server.proofs.server.Server.show_selections.Goals as goal

pub returns-in-Some-Text : goal.returns-in-Some-Text
returns-in-Some-Text c =
    let s = c.args.self.now in
    let uri = c.args.uri.now in
    let version = c.in-Some-Text.field-0-0 in
    let text = string_bytes c.in-Some-Text.text in
    let Answers : List ℕ → Answer → Type 0 = λ it a. ShowsSelections s.encoding c.args.positions.now it a in
    let found : document_of s uri ≡ Some (known version text) =
    sym (ap (λ (it : Document). Some (state_of it)) (sym c.in-Some-Text.field-0-is)
    ∙ ap (option_map state_of) c.in-Some-Text.ensures.value) in
    of_document (document_of s uri) version Answers text c.as_str.result.now c.selections_of.result found
    c.as_str.ensures.value c.selections_of.ensures
