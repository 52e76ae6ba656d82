-- Tokens that are what a node says of them, and what is taken of them.
use Rattle.std.specs.Prelude.{◌≡◌, ◌==◌, ◌&&◌, ◌||◌, ℕ, Bool, true, List, [], ◌∷◌, ⊤}
use Rattle.cedar_tokens.specs.Listing.{Decorated, token_value}
use Rattle.cedar_tokens.specs.Tokens.{leading_lines, token_text, trailing_text}
use Rattle.cedar_tokens.specs.declared.token.Span.{Span}
use Rattle.cedar_grammar.specs.Trees.{Label, Forest}
use Rattle.cedar_grammar.specs.Erased.{Erased}
use Rattle.cedar_grammar.specs.NodeTrees.{spanned}
use Rattle.cedar_layout.specs.Lookups.{Shown}
use Rattle.cedar_documents.specs.Found.{count_between, starts}
use Rattle.cedar_documents.specs.Items.{Item, token, at, needed, signs}
use Rattle.cedar_documents.specs.declared.take.OwnToken.{OwnToken}

-- the source text of a token
abbrev pub text_of : Shown → List ℕ
text_of t = token_text t.token

-- the nodes that stand for trees of tokens
abbrev pub nodes_of : Forest Label Shown → Erased
nodes_of f = spanned text_of (λ t. t.span) f

-- a token's text, where a number has no leading zeros, and its comments
abbrev pub by_value : Shown → Decorated
by_value t = record { text = token_value (text_of t); leading = t.comment.leading; trailing = t.comment.trailing }

-- the text and the comments of a token of a node
abbrev pub own : OwnToken → Decorated
own t = record { text = t.text.now; leading = leading_lines t.comment; trailing = trailing_text t.comment }

-- the texts of the tokens that the items list
abbrev pub texts_of : List Item → List (List ℕ)
texts_of [] = []
texts_of (token s ∷ is) = s ∷ texts_of is
texts_of (i ∷ is) = texts_of is

-- these tokens are what the items say, one after the other
abbrev pub Follow : List Item → List Shown → Type 0
Follow [] ts = ts ≡ []
Follow (token s ∷ is) [] = ⊥
Follow (token s ∷ is) (t ∷ ts) = (s ≡ token_value (text_of t)) × Follow is ts
Follow (at p ∷ is) [] = ⊥
Follow (at p ∷ is) (t ∷ ts) = (t.span.start ≡ p) × Follow is (t ∷ ts)
Follow (needed p ∷ is) [] = ⊥
Follow (needed p ∷ is) (t ∷ ts) = (t.span.start ≡ p) × Follow is (t ∷ ts)
Follow (signs n p q ∷ is) ts = Follow is ts

-- the first item says where its token is
abbrev pub BeginsAt : List Item → Type 0
BeginsAt (at p ∷ is) = ⊤
BeginsAt (needed p ∷ is) = ⊤
BeginsAt is = ⊥

-- the tokens at these places include those that this item needs
abbrev pub has : List Span → Item → Bool
has places (needed p) = starts p places
has places (signs n p q) = n == 0 || count_between p q places == n
has places i = true

-- the tokens at these places include those that each item needs
abbrev pub has_all : List Span → List Item → Bool
has_all places [] = true
has_all places (i ∷ is) = has places i && has_all places is
