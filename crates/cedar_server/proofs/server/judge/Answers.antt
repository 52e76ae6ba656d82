use Rattle.std.proofs.Common.{◌≡◌, [], ◌∷◌, Some, string_bytes, ap, subst, sym, ◌∙◌}
use Rattle.std.specs.Option.{option_map}
use Rattle.cedar_server.specs.declared.documents.Document.{Document}
use Rattle.cedar_server.specs.Diagnoses.{AreDiagnoses}
use Rattle.cedar_server.specs.Sessions.{Judges, state_in, known, state_of}
use Rattle.cedar_server.proofs.server.judge.Goals as goal

pub returns-in_ok-push-in-Some-Text : goal.returns-in_ok-push-in-Some-Text
returns-in_ok-push-in-Some-Text c =
    let e = c.args.encoding in
    let text = string_bytes c.in-Some-Text.text in
    let one = c.in_ok-message-in-Some-Text.ensures in
    let found = c.in_ok-diagnoses-in-Some-Text.diagnoses.items in
    let wrong : AreDiagnoses e text found =
    subst (λ bytes. AreDiagnoses e bytes found) c.as_str.ensures.value c.in_ok-diagnoses-in-Some-Text.ensures in
    let held : Some (known c.in-Some-Text.version text) ≡ state_in c.args.documents.now c.args.uri.now =
    ap (λ (it : Document). Some (state_of it)) (sym c.in-Some-Text.field-0-is)
    ∙ ap (option_map state_of) c.in-Some-Text.ensures.value in (
      c.in_ok-message-in-Some-Text.message ∷ [],
      c.in_ok-push-in-Some-Text.ensures.items,
      subst (λ o. Judges e c.args.uri.now o (c.in_ok-message-in-Some-Text.message ∷ [])) held
          (one.0, one.1, one.2, one.3, subst (AreDiagnoses e text) (sym one.4) wrong),
    )
