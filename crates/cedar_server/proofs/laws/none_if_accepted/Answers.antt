use Rattle.std.proofs.Common.{◌≡◌, ◌+◌, ◌↔◌, ℕ, List, [], ◌∷◌, ◌++◌, length, inl, inr, arith, sym, ◌∙◌, length-append}
use Rattle.std.specs.Prelude.{◌⊎◌}
use Rattle.cedar_grammar.specs.Texts.{Accepted}
use Rattle.cedar_edits.specs.declared.positions.Encoding.{Encoding}
use Rattle.cedar_faults.specs.Laws.{FirstNoneIfAccepted}
use Rattle.cedar_server.specs.declared.diagnoses.Diagnosis.{Diagnosis}
use Rattle.cedar_server.specs.Diagnoses.{most, TellsEach, TellsFirst}
use Rattle.cedar_server.proofs.Lists.{no_diagnoses, no_faults, not_empty}
use Rattle.cedar_server.proofs.laws.none_if_accepted.Goals as goal

by_cases : FirstNoneIfAccepted → (e : Encoding) (text : List ℕ) (ds : List Diagnosis)
    → TellsEach e text ds ⊎ TellsFirst e text ds → (ds ≡ []) ↔ Accepted text
by_cases law e text ds (inl (fs, are, few, told)) =
    let same = law text most fs (omega arith) (inl (are, few)) in (
      λ none. same.0 (no_faults e text fs ds told none),
      λ accepted. no_diagnoses e text fs ds told (same.1 accepted),
    )
by_cases law e text ds (inr t) =
    let number : length (t.first ++ t.next ∷ []) ≡ most + 1 =
    omega (arith, t.number, length-append t.first (t.next ∷ [])) in
    let same = law text (most + 1) (t.first ++ t.next ∷ []) (omega arith) (inr (number, (t.to, t.found))) in (
      λ none. absurd (not_empty t.told t.last (sym t.in_order ∙ none)),
      λ accepted. absurd (not_empty t.first t.next (same.1 accepted)),
    )

pub returns : goal.returns
returns c = λ e text ds told. by_cases c.none_if_accepted.ensures.first e text ds told
