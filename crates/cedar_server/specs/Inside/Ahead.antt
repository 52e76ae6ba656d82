-- The first two tokens of a text.
use Rattle.std.specs.Prelude.{◌≡◌, ℕ, List, Option, slice_get}
use Rattle.cedar_tokens.specs.declared.kind.Kind.{Kind}
use Rattle.cedar_server.specs.Parts.{AreParts}
use Rattle.cedar_server.specs.Semantic.{kinds}

-- whatever the parts of the text are, these are the kinds of the first two tokens among them
abbrev pub HasAhead : List ℕ → Option Kind → Option Kind → Type 0
HasAhead text first second = (parts : List (List ℕ)) → AreParts text parts → (first ≡ slice_get (kinds parts) 0) × (second ≡ slice_get (kinds parts) 1)
