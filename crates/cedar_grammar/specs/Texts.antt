-- Accepted texts, and where and why a text is not in the grammar.
use Rattle.std.specs.Prelude.{◌≡◌, ◌↔◌, ℕ, Bool, true, false, IsTrue, List, [], ◌∷◌, ◌++◌, length}
use Rattle.std.specs.List.{filter, list_any, sum_by}
use Rattle.cedar_tokens.specs.Units.{is_token}
use Rattle.cedar_tokens.specs.Split.{SplitsInto}
use Rattle.cedar_grammar.specs.Trees.{Label, Forest}
use Rattle.cedar_grammar.specs.Grammar.{IsSyntaxTree}
use Rattle.cedar_grammar.specs.Numbers.{is_too_large}
use Rattle.cedar_grammar.specs.Beginnings.{Begins}

-- how deep ifs and brackets may be nested in a condition
abbrev pub greatest_depth : ℕ
greatest_depth = 128

-- the tokens of a text that has these units
abbrev pub only_tokens : List (List ℕ) → List (List ℕ)
only_tokens units = filter is_token units

-- the text splits, its numbers fit, and its tokens are a list of the grammar with this tree
pub record IsAccepted (text : List ℕ) (tree : Forest Label (List ℕ)) : Type 0 where
  pub units : List (List ℕ)
  pub split : SplitsInto text units
  pub fitting : list_any is_too_large units ≡ false
  pub grammar : IsSyntaxTree (λ t. t) greatest_depth tree (only_tokens units)

abbrev pub Accepted : List ℕ → Type 0
Accepted text = (tree : Forest Label (List ℕ)) × IsAccepted text tree

-- How tokens leave the grammar after those before them: none follow, and those aren't a list of the grammar; or the next
-- unit is a token through which no list of the grammar begins. `deep` says whether only depth is to blame.
abbrev pub LeaveAfter : List (List ℕ) → List (List ℕ) → Bool → Type 0
LeaveAfter front [] deep = ((tree : Forest Label (List ℕ)) → ¬ (IsSyntaxTree (λ t. t) greatest_depth tree front)) × (deep ≡ false)
LeaveAfter front (u ∷ us) deep = (is_token u ≡ true) × ¬ (Begins greatest_depth (front ++ (u ∷ []))) × (IsTrue deep ↔ ((d : ℕ) × Begins d (front ++ (u ∷ []))))

-- the text splits, its numbers fit, and at this byte its tokens leave the grammar: a list of the grammar begins with those before it
pub record LeavesGrammar (text : List ℕ) (at : ℕ) (deep : Bool) : Type 0 where
  pub before : List (List ℕ)
  pub after : List (List ℕ)
  pub split : SplitsInto text (before ++ after)
  pub fitting : list_any is_too_large (before ++ after) ≡ false
  pub place : at ≡ sum_by length before
  pub begins : Begins greatest_depth (only_tokens before)
  pub leaves : LeaveAfter (only_tokens before) after deep
