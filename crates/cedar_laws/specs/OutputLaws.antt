-- How the outputs of several texts and widths are related.
use Rattle.std.specs.Prelude.{◌≡◌, ◌↔◌, ℕ, ℤ, List, map}
use Rattle.std.specs.List.{slice_get}
use Rattle.std.specs.Str.{IsUtf8}
use Rattle.cedar_layout.specs.Layout.{IsTheLayoutAt}
use Rattle.cedar_tokens.specs.Listing.{Decorated}
use Rattle.cedar_grammar.specs.TypedTrees.{Clause, policy, part_yield}
use Rattle.cedar_laws.specs.Leaves.{part_map}
use Rattle.cedar_laws.specs.Output.{IsOutput, with_value}
use Rattle.cedar_laws.specs.Canonical.{IsOutputOf}

-- laying out at one width and indentation and then at another equals laying out at the other
abbrev pub LastWidthDecides : Type 0
LastWidthDecides = (w v : ℕ) (i j : ℤ) (x y z : List ℕ) → IsUtf8 x → IsOutputOf w i x y → (IsOutputOf v j y z ↔ IsOutputOf v j x z)

-- the policies by value
abbrev pub policy_values : List (Clause Decorated policy) → List (Clause Decorated policy)
policy_values ps = map (part_map with_value) ps

-- equal policies have equal texts in the outputs, whatever comes before or after them
abbrev pub PoliciesStandAlone : Type 0
PoliciesStandAlone = (w : ℕ) (i : ℤ) (ps qs : List (Clause Decorated policy)) (cs ds : List (List ℕ)) (y z : List ℕ) (m n : ℕ) → (a : IsOutput (IsTheLayoutAt w) i ps cs y) (b : IsOutput (IsTheLayoutAt w) i qs ds z)
    → slice_get (policy_values ps) m ≡ slice_get (policy_values qs) n → slice_get a.texts m ≡ slice_get b.texts n

-- each policy's tokens with their comments, by value
abbrev pub policy_tokens : List (Clause Decorated policy) → List (List Decorated)
policy_tokens ps = map (λ p. map with_value (part_yield p)) ps

-- for texts: policies with equal tokens and comments have equal texts in the outputs
abbrev pub TokensTellPolicies : Type 0
TokensTellPolicies = (w : ℕ) (i : ℤ) (x1 x2 y1 y2 : List ℕ) (m n : ℕ) → (a : IsOutputOf w i x1 y1) (b : IsOutputOf w i x2 y2)
    → slice_get (policy_tokens a.policies) m ≡ slice_get (policy_tokens b.policies) n → slice_get a.output.texts m ≡ slice_get b.output.texts n
