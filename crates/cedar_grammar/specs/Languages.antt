-- The building blocks of grammars. A language is a set of rows of trees.
use Rattle.std.specs.Prelude.{◌≡◌, ◌⊎◌, Bool, IsTrue}
use Rattle.cedar_tokens.specs.declared.kind.Kind.{Kind}
use Rattle.cedar_grammar.specs.Trees.{Label, Forest, none, leaf, branch, join}

abbrev pub Lang : Type 0 → Type 1
Lang A = Forest Label A → Type 0

infixr 24 ◌⋄◌
infixr 22 ◌∪◌
-- X Y: X followed by Y
abbrev pub ◌⋄◌ : {A : Type 0} → Lang A → Lang A → Lang A
(X ⋄ Y) f = (g : Forest Label _) × (h : Forest Label _) × (f ≡ join g h) × X g × Y h

-- X | Y
abbrev pub ◌∪◌ : {A : Type 0} → Lang A → Lang A → Lang A
(X ∪ Y) f = X f ⊎ Y f

abbrev pub Empty : {A : Type 0} → Lang A
Empty f = f ≡ none

-- {X}: any number of times
pub data Many {A : Type 0} (X : Forest Label A → Type 0) : Forest Label A → Type 0 where
  no_more : (f : Forest Label A) → f ≡ none → Many X f
  one_more : (f g h : Forest Label A) → f ≡ join g h → X g → Many X h → Many X f

-- [X]: once or not at all
abbrev pub Maybe : {A : Type 0} → Lang A → Lang A
Maybe X = X ∪ Empty

-- a tree of that label with parts of X
abbrev pub Branch : {A : Type 0} → Label → Lang A → Lang A
Branch l X f = (g : Forest Label _) × (f ≡ branch l g none) × X g

abbrev pub Never : {A : Type 0} → Lang A
Never f = ⊥

-- a token whose kind is in the set
abbrev pub Of : {A : Type 0} → (A → Kind) → (Kind → Bool) → Lang A
Of kind p f = (a : _) × (f ≡ leaf a none) × IsTrue (p (kind a))
