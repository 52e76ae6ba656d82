-- What an editor shows of a text, by the positions that it counts in.
use Rattle.std.specs.Prelude.{◌≡◌, ℕ, List, [], ◌∷◌, string_bytes, ⊤}
use Rattle.cedar_tokens.specs.declared.token.Span.{Span}
use Rattle.cedar_edits.specs.declared.positions.Encoding.{Encoding}
use Rattle.cedar_edits.specs.declared.changes.Range.{Range}
use Rattle.cedar_edits.specs.declared.positions.Position.{Position}
use Rattle.cedar_edits.specs.Positions.{IsOffsetOf, IsPositionAt}
use Rattle.cedar_server.specs.Semantic.{AreSemanticTokens}
use Rattle.cedar_server.specs.Symbols.{AreSymbols}
use Rattle.cedar_server.specs.Folds.{AreFolds}
use Rattle.cedar_server.specs.Selections.{IsSelection}
use Rattle.cedar_server.specs.declared.semantic.SemanticToken.{SemanticToken}
use Rattle.cedar_server.specs.declared.symbols.Symbol.{Symbol}
use Rattle.cedar_server.specs.declared.folds.Fold.{Fold}
use Rattle.cedar_server.specs.declared.placed.PlacedToken.{PlacedToken}
use Rattle.cedar_server.specs.declared.placed.PlacedSymbol.{PlacedSymbol}
use Rattle.cedar_server.specs.declared.placed.PlacedFold.{PlacedFold}
use Rattle.cedar_server.specs.declared.placed.PlacedSelection.{PlacedSelection}

-- a part of a text at the positions of its bytes
pub record IsRangeOf (e : Encoding) (text : List ℕ) (part : Span) (range : Range) : Type 0 where
  pub start : IsPositionAt e text part.start range.start
  pub end : IsPositionAt e text part.end range.end

-- each of these is placed as one of those, in order
abbrev pub InTurn : {A B : Type 0} → (A → B → Type 0) → List A → List B → Type 0
InTurn Places [] [] = ⊤
InTurn Places (x ∷ xs) (y ∷ ys) = Places x y × InTurn Places xs ys
InTurn Places xs ys = ⊥

-- a token or a comment with its class
pub record PlacesToken (e : Encoding) (text : List ℕ) (t : SemanticToken) (p : PlacedToken) : Type 0 where
  pub range : IsRangeOf e text t.span p.range
  pub class : p.class ≡ t.class

-- a policy with its name
pub record PlacesSymbol (e : Encoding) (text : List ℕ) (s : Symbol) (p : PlacedSymbol) : Type 0 where
  pub name : string_bytes p.name ≡ string_bytes s.name
  pub range : IsRangeOf e text s.span p.range
  pub place : IsRangeOf e text s.place p.place

-- what can be folded
pub record PlacesFold (e : Encoding) (text : List ℕ) (f : Fold) (p : PlacedFold) : Type 0 where
  pub range : IsRangeOf e text f.span p.range
  pub kind : p.kind ≡ f.kind

-- the tokens and comments of a text; its policies; and what can be folded in it
abbrev pub ArePlacedTokens : Encoding → List ℕ → List PlacedToken → Type 0
ArePlacedTokens e text ps = (ts : List SemanticToken) × AreSemanticTokens text ts × InTurn (PlacesToken e text) ts ps

abbrev pub ArePlacedSymbols : Encoding → List ℕ → List PlacedSymbol → Type 0
ArePlacedSymbols e text ps = (ss : List Symbol) × AreSymbols text ss × InTurn (PlacesSymbol e text) ss ps

abbrev pub ArePlacedFolds : Encoding → List ℕ → List PlacedFold → Type 0
ArePlacedFolds e text ps = (fs : List Fold) × AreFolds text fs × InTurn (PlacesFold e text) fs ps

-- the blocks of a text around a position, and around each of these positions
pub record IsPlacedSelection (e : Encoding) (text : List ℕ) (p : Position) (placed : PlacedSelection) : Type 0 where
  pub at : ℕ
  pub offset : IsOffsetOf e text p at
  pub spans : List Span
  pub are : IsSelection text at spans
  pub ranges : InTurn (IsRangeOf e text) spans placed.ranges.items

abbrev pub ArePlacedSelections : Encoding → List ℕ → List Position → List PlacedSelection → Type 0
ArePlacedSelections e text ps placed = InTurn (IsPlacedSelection e text) ps placed
