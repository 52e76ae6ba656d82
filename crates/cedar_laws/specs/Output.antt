-- The text of policies and closing comments, and the law that every layout reads back.
use Rattle.std.specs.Prelude.{◌≡◌, ℕ, ℤ, List, [], ◌∷◌, ◌++◌, map}
use Rattle.std.specs.List.{AllByRecursion, AllZip, flat_map}
use Rattle.cedar_layout.specs.Layout.{Doc, Choice, text_of_choice}
use Rattle.cedar_tokens.specs.Listing.{Decorated, IsListing, token_value}
use Rattle.cedar_grammar.specs.TypedTrees.{Clause, policy, part_yield}
use Rattle.cedar_laws.specs.Table.{part_table}
use Rattle.cedar_laws.specs.Fit.{PartFit}
use Rattle.cedar_laws.specs.Good.{IsGood, IsLine}
use Rattle.cedar_layout.specs.Cleaning.{IsCleaned}
use Rattle.cedar_tokens.specs.Bytes.{line_feed}

-- the texts with two line feeds between neighbours
abbrev pub paragraphs : List (List ℕ) → List ℕ
paragraphs [] = []
paragraphs (x ∷ []) = x
paragraphs (x ∷ (y ∷ ys)) = x ++ (line_feed ∷ (line_feed ∷ paragraphs (y ∷ ys)))

abbrev pub closing_text : List (List ℕ) → List ℕ
closing_text [] = []
closing_text (l ∷ ls) = l ++ (line_feed ∷ closing_text ls)

-- each policy's document, laid out by `laid` (a width's layout, or any choice's) and cleaned
abbrev pub PolicyTexts : (Doc → List ℕ → Type 0) → ℤ → List (Clause Decorated policy) → List (List ℕ) → Type 0
PolicyTexts laid i ps ts = AllZip (λ p t. (s : List ℕ) × laid (part_table i p) s × IsCleaned s t) ps ts

-- output is the text of these policies and closing comments
pub record IsOutput (laid : Doc → List ℕ → Type 0) (i : ℤ) (policies : List (Clause Decorated policy)) (closing : List (List ℕ)) (output : List ℕ) : Type 0 where
  pub texts : List (List ℕ)
  pub cleaned : PolicyTexts laid i policies texts
  pub written : output ≡ paragraphs texts ++ (line_feed ∷ closing_text closing)

-- s is a layout of d under some choice of flat and broken groups
abbrev pub IsSomeLayout : Doc → List ℕ → Type 0
IsSomeLayout d s = (c : Choice d) × (s ≡ text_of_choice d c)

-- the token without leading zeros in its number
abbrev pub with_value : Decorated → Decorated
with_value d = record { text = token_value d.text; leading = d.leading; trailing = d.trailing }

abbrev pub tokens_of : List (Clause Decorated policy) → List Decorated
tokens_of ps = flat_map part_yield ps

-- For policies whose leaves fit and have the decorations of a real text, under every choice of flat and broken groups and at
-- every indentation: the output splits, and its decorated list is that of the policies and the closing comments, by value.
abbrev pub EveryLayoutReadsBack : Type 0
EveryLayoutReadsBack = (i : ℤ) (policies : List (Clause Decorated policy)) (closing : List (List ℕ)) (output : List ℕ)
    → AllByRecursion PartFit policies → AllByRecursion IsGood (tokens_of policies) → AllByRecursion IsLine closing
    → IsOutput IsSomeLayout i policies closing output
    → IsListing output (record { tokens = map with_value (tokens_of policies); closing = closing })
