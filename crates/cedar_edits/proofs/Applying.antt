-- Edits applied one after the other.
use Rattle.std.proofs.Common.{◌≡◌, ℕ, List, ◌∷◌, ◌++◌, sym, ap, ◌∙◌, append_assoc}
use Rattle.std.specs.Prelude.{slice_range, string_bytes}
use Rattle.std.specs.Str.{IsCharBoundary}
use Rattle.cedar_edits.specs.declared.edits.Edit.{Edit}
use Rattle.cedar_edits.specs.Edits.{AreInOrder, edited_by, edited_from}

-- the edits up to the byte at are applied, and these are left
pub record IsApplied (text : List ℕ) (all left : List Edit) (at : ℕ) (result : List ℕ) : Type 0 where
  pub order : AreInOrder text at left
  pub place : IsCharBoundary text at
  pub bytes : result ++ edited_from text at left ≡ edited_by text all

pub applied_more : (text : List ℕ) (all left rest : List Edit) (at : ℕ) (e : Edit)
    (result : List ℕ) → left ≡ e ∷ rest → AreInOrder text at (e ∷ rest) → result ++ edited_from text at left ≡ edited_by text all
    → IsApplied text all rest e.span.end
    ((result ++ slice_range text at e.span.start) ++ string_bytes e.text)
applied_more text all left rest at e result same order bytes = record {
  order = order.2;
  place = order.1.last.boundary;
  bytes = append_assoc (result ++ slice_range text at e.span.start) (string_bytes e.text)
      (edited_from text e.span.end rest)
      ∙ (append_assoc result (slice_range text at e.span.start)
      (string_bytes e.text ++ edited_from text e.span.end rest)
      ∙ (ap (λ es. result ++ edited_from text at es) (sym same) ∙ bytes));
}
