-- Laws of what an editor shows.
use Rattle.std.specs.Prelude.{◌≡◌, ◌<◌, ◌≤◌, ◌⊎◌, ℕ, List, [], ◌∷◌, length}
use Rattle.cedar_tokens.specs.declared.token.Span.{Span}
use Rattle.cedar_server.specs.Selections.{IsSelection}

-- the outer part has all of the inner one, and more
pub record HasMore (inner outer : Span) : Type 0 where
  pub start : outer.start ≤ inner.start
  pub end : inner.end ≤ outer.end
  pub more : (outer.start < inner.start) ⊎ (inner.end < outer.end)

-- the place is in each of these parts, or at one of its ends; each has all of the one before, and more; and the last is a whole
-- text of n bytes
abbrev pub GrowToTheWhole : ℕ → ℕ → List Span → Type 0
GrowToTheWhole at n [] = ⊥
GrowToTheWhole at n (s ∷ []) = (s.start ≡ 0) × (s.end ≡ n)
GrowToTheWhole at n (s ∷ t ∷ ss) = (s.start ≤ at) × (at ≤ s.end) × HasMore s t × GrowToTheWhole at n (t ∷ ss)

-- what is around a place of a text grows to the whole text
abbrev pub SelectionsGrow : Type 0
SelectionsGrow = (text : List ℕ) (at : ℕ) (ss : List Span) → at ≤ length text → IsSelection text at ss → GrowToTheWhole at (length text) ss
