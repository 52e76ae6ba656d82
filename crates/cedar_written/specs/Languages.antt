-- The building blocks of the written grammar. A language relates rows of tokens to documents: it says which rows it
-- has, and the document of each.
use Rattle.std.specs.Prelude.{◌≡◌, ◌⊎◌, ℕ, ℤ, List, [], ◌∷◌, ◌++◌}
use Rattle.cedar_tokens.specs.Listing.{Decorated}
use Rattle.cedar_layout.specs.Layout.{Doc, nil, nest, group, ◌·◌}
use Rattle.cedar_laws.specs.Table.{lead, bare_token, C}

-- these tokens with their comments, in a row, and this document
abbrev pub Lang : Type 1
Lang = List Decorated → Doc → Type 0

infixr 24 ◌⋄◌
infixr 22 ◌∪◌
-- X Y: X followed by Y, with one document after the other
abbrev pub ◌⋄◌ : Lang → Lang → Lang
(X ⋄ Y) ts d = (us vs : List Decorated) × (e f : Doc) × (ts ≡ us ++ vs) × (d ≡ e · f) × X us e × Y vs f

-- X | Y
abbrev pub ◌∪◌ : Lang → Lang → Lang
(X ∪ Y) ts d = X ts d ⊎ Y ts d

-- no rows
abbrev pub Never : Lang
Never ts d = ⊥

-- no tokens, with this document: what stands between tokens
abbrev pub Put : Doc → Lang
Put e ts d = (ts ≡ []) × (d ≡ e)

-- [X]: once or not at all
abbrev pub Maybe : Lang → Lang
Maybe X = X ∪ Put nil

-- {X}: any number of times
pub data Many (X : List Decorated → Doc → Type 0) : List Decorated → Doc → Type 0 where
  no_more : Many X [] nil
  one_more : (us vs : List Decorated) (e f : Doc) → X us e → Many X vs f → Many X (us ++ vs) (e · f)

-- a token whose text satisfies P, between its comments; `next` takes the place of a missing trailing text
abbrev pub Token : (List ℕ → Type 0) → Doc → Lang
Token P next ts d = (t : Decorated) × (ts ≡ t ∷ []) × (d ≡ C t next) × P t.text

-- X, with its document changed by g
abbrev pub Mapped : (Doc → Doc) → Lang → Lang
Mapped g X ts d = (e : Doc) × (d ≡ g e) × X ts e

-- X as a group
abbrev pub Group : Lang → Lang
Group X = Mapped group X

-- X, indented by n more columns
abbrev pub Nested : ℤ → Lang → Lang
Nested n X = Mapped (nest n) X

-- X as a group, with the leading lines of its first token before the group
abbrev pub LedGroup : Lang → Lang
LedGroup X [] d = ⊥
LedGroup X (t ∷ ts) d = (e : Doc) × (d ≡ lead t · group e) × X (bare_token t ∷ ts) e
