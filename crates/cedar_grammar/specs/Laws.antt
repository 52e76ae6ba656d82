-- Laws of the grammar.
use Rattle.std.specs.Prelude.{◌≡◌, ◌↔◌, ℕ, suc, List, ◌⊎◌, map}
use Rattle.std.specs.List.{AllByRecursion, flat_map}
use Rattle.cedar_tokens.specs.Units.{IsToken}
use Rattle.cedar_tokens.specs.Listing.{Decorated}
use Rattle.cedar_tokens.specs.PlainList.{plain_list, NoNeighbours}
use Rattle.cedar_tokens.specs.declared.kind.Kind.{Kind}
use Rattle.cedar_tokens.specs.Kinds.{is}
use Rattle.cedar_grammar.specs.Trees.{Label, Forest, yield}
use Rattle.cedar_grammar.specs.Grammar.{IsSyntaxTree}
use Rattle.cedar_grammar.specs.KindGrammar.{G}
use Rattle.cedar_tokens.specs.TokenKinds.{kind_of}
use Rattle.cedar_grammar.specs.TrailingCommas.{plain, without_trailing}
use Rattle.cedar_grammar.specs.TypedTrees.{Clause, policy, set_tree, part_yield}

-- a decorated token has the kind of its text
abbrev pub kind_of_decorated : Decorated → Kind
kind_of_decorated t = kind_of t.text

-- For tokens of any type that have a text.
module _ {A : Type 0} (text : A → List ℕ) where
  -- each token of the list has the text of a token
  abbrev pub AreTokens : List A → Type 0
  AreTokens ts = AllByRecursion (λ a. IsToken (text a)) ts

  -- a list of tokens has the same trees in the grammar over texts and in the grammar over kinds, at each depth
  abbrev pub GrammarsAgree : Type 0
  GrammarsAgree = (d : ℕ) (ts : List A) (f : Forest Label A) → AreTokens ts → IsSyntaxTree text d f ts ↔ G (λ a. kind_of (text a)) d f ts

  -- a list of the grammar over texts consists of tokens
  abbrev pub TextsAreTokens : Type 0
  TextsAreTokens = (d : ℕ) (ts : List A) (f : Forest Label A) → IsSyntaxTree text d f ts → AreTokens ts

-- For tokens of any type that have a kind.
module _ {A : Type 0} (kind : A → Kind) where
  -- a list of tokens has at most one tree, whatever the depth
  abbrev pub ListHasOneTree : Type 0
  ListHasOneTree = (d e : ℕ) (ts : List A) (f g : Forest Label A) → G kind d f ts → G kind e g ts → f ≡ g

  -- whether a list has a tree is decidable
  abbrev pub GrammarIsDecidable : Type 0
  GrammarIsDecidable = (d : ℕ) (ts : List A) → ((f : Forest Label A) × G kind d f ts) ⊎ ((f : Forest Label A) → ¬ (G kind d f ts))

  -- a tree of some depth is a tree of every greater depth
  abbrev pub DeeperHasMore : Type 0
  DeeperHasMore = (d : ℕ) (ts : List A) (f : Forest Label A) → G kind d f ts → G kind (suc d) f ts

  -- the leaves of a tree without trailing commas are its list without them
  abbrev pub LeavesArePlain : Type 0
  LeavesArePlain = (d : ℕ) (ts : List A) (f : Forest Label A) → G kind d f ts → yield (without_trailing kind f) ≡ plain kind ts

  -- no two commas are next to each other in a list of the grammar
  abbrev pub CommasStandAlone : Type 0
  CommasStandAlone = (d : ℕ) (ts : List A) (f : Forest Label A) → G kind d f ts → NoNeighbours (λ a. is Kind.Comma (kind a)) ts

  -- so a list of the grammar without its trailing commas has none left
  abbrev pub PlainIsPlain : Type 0
  PlainIsPlain = (d : ℕ) (ts : List A) (f : Forest Label A) → G kind d f ts → plain kind (plain kind ts) ≡ plain kind ts

  -- a tree without its trailing commas is a tree of the list without them
  abbrev pub PlainIsInTheGrammar : Type 0
  PlainIsInTheGrammar = (d : ℕ) (ts : List A) (f : Forest Label A) → G kind d f ts → G kind d (without_trailing kind f) (plain kind ts)

  -- each tree without trailing commas is that of typed policies
  abbrev pub EveryTreeIsTyped : Type 0
  EveryTreeIsTyped = (d : ℕ) (ts : List A) (f : Forest Label A) → G kind d f ts → (ps : List (Clause A policy)) × (without_trailing kind f ≡ set_tree kind ps)

  -- and of no others
  abbrev pub TypedTreeIsUnique : Type 0
  TypedTreeIsUnique = (ps qs : List (Clause A policy)) → set_tree kind ps ≡ set_tree kind qs → ps ≡ qs

  -- typed policies have the leaves of their tree
  abbrev pub TypedLeavesAgree : Type 0
  TypedLeavesAgree = (ps : List (Clause A policy)) → yield (set_tree kind ps) ≡ flat_map part_yield ps

-- the texts of the plain list are the texts without trailing commas
abbrev pub PlainTextsAgree : Type 0
PlainTextsAgree = (l : List Decorated) → map (λ t. t.text) (plain_list l) ≡ plain kind_of (map (λ t. t.text) l)
