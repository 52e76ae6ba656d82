-- Accepted texts, and where and why a text is not in the written grammar.
use Rattle.std.specs.Prelude.{◌≡◌, ◌↔◌, ℕ, pos, Bool, true, false, IsTrue, List, [], ◌∷◌, ◌++◌, length, map}
use Rattle.std.specs.List.{filter, list_any, sum_by}
use Rattle.cedar_tokens.specs.Units.{is_token}
use Rattle.cedar_tokens.specs.Split.{SplitsInto}
use Rattle.cedar_tokens.specs.Listing.{Decorated}
use Rattle.cedar_layout.specs.Layout.{Doc}
use Rattle.cedar_grammar.specs.Numbers.{is_too_large}
use Rattle.cedar_grammar.specs.Texts.{greatest_depth}
use Rattle.cedar_written.specs.Written.{PolicySet}

-- the token with this text, without comments
abbrev pub without_comments : List ℕ → Decorated
without_comments t = record { text = t; leading = []; trailing = [] }

-- Tokens with these texts are a list of the grammar at depth n: they have documents. Neither comments nor the
-- indentation make a difference to that, so there are no comments here and the indentation is 0.
abbrev pub InGrammar : ℕ → List (List ℕ) → Type 0
InGrammar n ts = (ds : List Doc) × PolicySet (pos 0) n (map without_comments ts) ds

-- the text splits, its numbers fit, and its tokens are a list of the grammar
pub record Accepted (text : List ℕ) : Type 0 where
  pub units : List (List ℕ)
  pub split : SplitsInto text units
  pub fitting : list_any is_too_large units ≡ false
  pub grammar : InGrammar greatest_depth (filter is_token units)

-- some list of the grammar at depth n begins with these tokens
abbrev pub Begins : ℕ → List (List ℕ) → Type 0
Begins n front = (rest : List (List ℕ)) × InGrammar n (front ++ rest)

-- How tokens leave the grammar after those before them: none follow, and those aren't a list of the grammar; or the
-- next unit is a token through which no list of the grammar begins. `deep` says whether only depth is to blame.
abbrev pub LeaveAfter : List (List ℕ) → List (List ℕ) → Bool → Type 0
LeaveAfter front [] deep = ¬ (InGrammar greatest_depth front) × (deep ≡ false)
LeaveAfter front (u ∷ us) deep = (is_token u ≡ true) × ¬ (Begins greatest_depth (front ++ (u ∷ [])))
    × (IsTrue deep ↔ ((n : ℕ) × Begins n (front ++ (u ∷ []))))

-- The text splits, its numbers fit, and at this byte its tokens leave the grammar: a list of the grammar begins with
-- those before it.
pub record LeavesGrammar (text : List ℕ) (at : ℕ) (deep : Bool) : Type 0 where
  pub before : List (List ℕ)
  pub after : List (List ℕ)
  pub split : SplitsInto text (before ++ after)
  pub fitting : list_any is_too_large (before ++ after) ≡ false
  pub place : at ≡ sum_by length before
  pub begins : Begins greatest_depth (filter is_token before)
  pub leaves : LeaveAfter (filter is_token before) after deep
