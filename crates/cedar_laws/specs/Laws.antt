-- The list of a policy's layout before cleaning.
use Rattle.std.specs.Prelude.{◌≡◌, ℕ, ℤ, List, [], map}
use Rattle.std.specs.List.{AllByRecursion, filter}
use Rattle.cedar_tokens.specs.Split.{SplitsInto}
use Rattle.cedar_layout.specs.Layout.{Choice, text_of_choice}
use Rattle.cedar_tokens.specs.Listing.{Decorated, Listing, IsListing}
use Rattle.cedar_grammar.specs.TypedTrees.{Clause, policy, part_yield}
use Rattle.cedar_laws.specs.Table.{part_table}
use Rattle.cedar_laws.specs.Fit.{PartFit}
use Rattle.cedar_laws.specs.Good.{IsGood}
use Rattle.cedar_laws.specs.CleaningLaws.{is_solid}
use Rattle.cedar_laws.specs.Output.{with_value}

-- the decorated list of these tokens, by value
abbrev pub of_tokens : List Decorated → Listing
of_tokens ts = record { tokens = map with_value ts; closing = [] }

-- under every choice of groups and at every indentation a policy's layout has the list of its tokens before cleaning
abbrev pub RawLayoutsReadBack : Type 0
RawLayoutsReadBack = (i : ℤ) (p : Clause Decorated policy) (c : Choice (part_table i p)) → PartFit p → AllByRecursion IsGood (part_yield p) → IsListing (text_of_choice (part_table i p) c) (of_tokens (part_yield p))

-- two layouts of a policy have the same tokens and comments in the same order: a choice changes only blanks
abbrev pub ChoicesDifferInBlanks : Type 0
ChoicesDifferInBlanks = (i : ℤ) (p : Clause Decorated policy) (c d : Choice (part_table i p)) (us vs : List (List ℕ)) → PartFit p → AllByRecursion IsGood (part_yield p)
    → SplitsInto (text_of_choice (part_table i p) c) us → SplitsInto (text_of_choice (part_table i p) d) vs → filter is_solid us ≡ filter is_solid vs
