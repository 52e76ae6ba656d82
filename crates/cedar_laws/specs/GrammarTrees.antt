-- The trees of the written grammar, with decorated tokens as leaves.
use Rattle.std.specs.Prelude.{◌≡◌, ℕ, List}
use Rattle.std.specs.List.{AllByRecursion}
use Rattle.std.specs.Str.{IsUtf8}
use Rattle.cedar_tokens.specs.Units.{IsToken}
use Rattle.cedar_tokens.specs.Listing.{Decorated, Listing, IsListing}
use Rattle.cedar_tokens.specs.PlainList.{plain_list}
use Rattle.cedar_grammar.specs.KindGrammar.{G}
use Rattle.cedar_grammar.specs.Laws.{kind_of_decorated}
use Rattle.cedar_grammar.specs.Texts.{Accepted, greatest_depth}
use Rattle.cedar_grammar.specs.TrailingCommas.{without_trailing}
use Rattle.cedar_grammar.specs.TypedTrees.{Clause, policy, set_tree}
use Rattle.cedar_laws.specs.Fit.{PartFit}
use Rattle.cedar_laws.specs.Output.{tokens_of}

-- the policies' leaves are tokens, and their tree is one of the grammar without a trailing comma
pub record IsTree (ps : List (Clause Decorated policy)) : Type 0 where
  pub tokens : AllByRecursion (λ t. IsToken t.text) (tokens_of ps)
  pub grammar : G kind_of_decorated greatest_depth (set_tree kind_of_decorated ps) (tokens_of ps)
  pub plain : without_trailing kind_of_decorated (set_tree kind_of_decorated ps) ≡ set_tree kind_of_decorated ps

-- an accepted text has the trees whose leaves are its plain list, and no others
abbrev pub AcceptedHasTree : Type 0
AcceptedHasTree = (x : List ℕ) (l : Listing) → IsUtf8 x → Accepted x → IsListing x l → (ps : List (Clause Decorated policy)) × IsTree ps × (tokens_of ps ≡ plain_list l.tokens)

abbrev pub ListHasOneTree : Type 0
ListHasOneTree = (ps qs : List (Clause Decorated policy)) → IsTree ps → IsTree qs → tokens_of ps ≡ tokens_of qs → ps ≡ qs

-- their leaves fit the table
abbrev pub TreeFits : Type 0
TreeFits = (ps : List (Clause Decorated policy)) → IsTree ps → AllByRecursion PartFit ps
