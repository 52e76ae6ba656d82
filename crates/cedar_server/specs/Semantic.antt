-- The classes of the tokens and comments of a text.
use Rattle.std.specs.Prelude.{◌≡◌, ◌+◌, ℕ, if◌then◌else◌, List, [], ◌∷◌, length, map, Option, Some, None, slice_get}
use Rattle.std.specs.List.{filter}
use Rattle.cedar_tokens.specs.Units.{is_token, is_comment}
use Rattle.cedar_tokens.specs.TokenKinds.{kind_of}
use Rattle.cedar_tokens.specs.declared.kind.Kind.{Kind}
use Rattle.cedar_server.specs.Parts.{AreParts}
use Rattle.cedar_server.specs.Classes.{class_of}
use Rattle.cedar_server.specs.declared.classes.Class.{Class}
use Rattle.cedar_server.specs.declared.classes.Neighbours.{Neighbours}
use Rattle.cedar_server.specs.declared.semantic.SemanticToken.{SemanticToken}

-- the kinds of the tokens among parts
abbrev pub kinds : List (List ℕ) → List Kind
kinds parts = map kind_of (filter is_token parts)

-- the neighbours of a token between a token of this kind, or none, and these parts
abbrev pub between : Option Kind → List (List ℕ) → Neighbours
between before after = record { before = before; next = slice_get (kinds after) 0; second = slice_get (kinds after) 1 }

-- the tokens and comments among parts, each with its place and class; the parts begin at the byte `at`, after a token of the kind
-- `before`
unfoldable pub semantic : ℕ → Option Kind → List (List ℕ) → List SemanticToken
semantic at before [] = []
semantic at before (u ∷ us) =
    if is_token u then record { span = record { start = at; end = at + length u }; class = class_of (between before us) (kind_of u) } ∷ semantic (at + length u) (Some (kind_of u)) us
    else (if is_comment u then record { span = record { start = at; end = at + length u }; class = Class.Comment } ∷ semantic (at + length u) before us
    else semantic (at + length u) before us)

-- the same for the parts of a text
pub record AreSemantic (at : ℕ) (before : Option Kind) (text : List ℕ) (tokens : List SemanticToken) : Type 0 where
  pub parts : List (List ℕ)
  pub are : AreParts text parts
  pub value : tokens ≡ semantic at before parts

-- the tokens and comments of a text, each with its place and class
abbrev pub AreSemanticTokens : List ℕ → List SemanticToken → Type 0
AreSemanticTokens text tokens = AreSemantic 0 None text tokens
