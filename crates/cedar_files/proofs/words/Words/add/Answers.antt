use Rattle.std.proofs.Common.{◌∙◌, ◌++◌, ◌∷◌, [], ap, arith, map, option_map, string_bytes, subst}
use Rattle.std.proofs.lemmas.List.{map-append}
use Rattle.std.proofs.lemmas.Map.Text.{text_keys}
use Rattle.std.specs.Str.{IsUtf8}
use Rattle.cedar_files.proofs.words.Words.add.Goals as goal

pub returns : goal.returns
returns c =
    let text = string_bytes c.push_str.new.self in
    let items = c.args.self.now.texts.items in
    let not_text : ¬ (IsUtf8 c.args.bytes.items) = subst (λ bs. ¬ (IsUtf8 bs)) c.deref.ensures.value c.in_default.ensures.cases.0 in
    record {
      text = text;
      texts = ap (λ xs. map string_bytes xs) c.in_ok-push-2.ensures.items ∙ map-append string_bytes items (c.in_ok-clone.field-0 ∷ [])
          ∙ ap (λ t. map string_bytes items ++ (t ∷ [])) c.in_ok-clone.ensures.cases;
      itself = λ is_text. absurd (not_text is_text);
      begins = λ _. (
        string_bytes c.in_ok-shown.shown,
        c.in_ok-push_str.ensures.bytes ∙ ap (λ z. z ++ c.as_str.result.now) c.in_ok-stand_in.ensures.ok
            ∙ ap (λ z. 0 ∷ z) c.as_str.ensures.value,
      );
      stands_in = λ _. ap (λ o. option_map (λ v. v.items) o) c.in_ok-insert.ensures.updates.1;
      others = λ other is_text. absurd (not_text is_text);
      odd_others = λ other differs. ap (λ o. option_map (λ v. v.items) o) (grind (arith, text_keys));
    }
