-- That a node is made of tokens and has a document, and what `to_doc` answers.
use Rattle.std.specs.Prelude.{◌≡◌, ◌⊎◌, ℤ, List, ◌∷◌, ◌++◌, ⊤, map, Option, Result, IfOk, IsSomeAnd}
use Rattle.cedar_tokens.specs.Listing.{Decorated}
use Rattle.cedar_tokens.specs.declared.token.WrappedToken.{WrappedToken}
use Rattle.cedar_grammar.specs.Laws.{AreTokens}
use Rattle.cedar_grammar.specs.Texts.{greatest_depth}
use Rattle.cedar_grammar.specs.Trees.{Label, Forest, none, leaf, branch, yield}
use Rattle.cedar_layout.specs.Layout.{Doc}
use Rattle.cedar_layout.specs.Lookups.{Shown, shown, emptied}
use Rattle.cedar_layout.specs.Value.{doc_of}
use Rattle.cedar_layout.specs.declared.layout.Document.{Document}
use Rattle.cedar_grammar.specs.Erased.{Erased}
use Rattle.cedar_written.specs.Languages.{Lang}
use Rattle.cedar_written.specs.NodeLines.{line_of}
use Rattle.cedar_writer.specs.NodeRules.{Apart}
use Rattle.std.specs.declared.alloc.AllocError.{AllocError}
use Rattle.cedar_documents.specs.Taking.{by_value, nodes_of}

abbrev pub HasToken : Forest Label Shown → Type 0
HasToken f = (x : Shown) × (ts : List Shown) × (yield f ≡ x ∷ ts)

-- some tokens, and then a member with tokens of its own
abbrev pub IsSigned : Forest Label Shown → Type 0
IsSigned none = ⊥
IsSigned (leaf x f) = IsSigned f
IsSigned (branch l f g) = (l ≡ Label.member) × (g ≡ none) × HasToken f

abbrev pub HasMember : Label → Forest Label Shown → Type 0
HasMember Label.unary f = IsSigned f
HasMember l f = ⊤

-- each unary in these trees consists of signs and a member
abbrev pub AreSigned : Forest Label Shown → Type 0
AreSigned none = ⊤
AreSigned (leaf x f) = AreSigned f
AreSigned (branch l f g) = HasMember l f × AreSigned f × AreSigned g

-- these nodes stand for trees of these tokens
abbrev pub IsMadeOf : Erased → List Shown → Type 0
IsMadeOf nodes ts = (f : Forest Label Shown) × (nodes ≡ nodes_of f) × (ts ≡ yield f) × AreSigned f

-- and the tokens, numbers by value, are a row of the line that reads nodes of this label, with this document
abbrev pub IsRowOf : Label → Erased → ℤ → List Shown → Doc → Type 0
IsRowOf l nodes i ts doc = IsMadeOf nodes ts × line_of i greatest_depth l (map by_value ts) doc

-- the document that a line has for tokens; or, if it has none, that of the tokens with a space between neighbours
abbrev pub IsDocumentOf : Lang → List Decorated → Doc → Type 0
IsDocumentOf X ts d = X ts d ⊎ (AreTokens (λ t. t.text) ts × ((e : Doc) → ¬ (X ts e)) × Apart ts d)

-- these nodes are made of these tokens, which are written so by the line that reads nodes of this label
abbrev pub IsWrittenAs : Label → Erased → ℤ → List Shown → Doc → Type 0
IsWrittenAs l nodes i ts doc = IsMadeOf nodes ts × IsDocumentOf (line_of i greatest_depth l) (map by_value ts) doc

-- the consecutive tokens ts are shown in the document that `to_doc` answers, unless out of memory; then they have no comments, and nothing else has changed
abbrev pub ShowsPart : Result (Option Document) AllocError → List WrappedToken → List WrappedToken → List Shown → Doc → Type 0
ShowsPart result old new ts doc = (before after : List Shown) → map shown old ≡ before ++ (ts ++ after)
    → IfOk result (λ r. IsSomeAnd r (λ d. (doc_of d ≡ doc) × (map shown new ≡ (before ++ map emptied ts) ++ after)))
