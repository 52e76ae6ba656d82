-- Where and why a list of tokens or a text is not in the grammar, in terms of the reader of rules.
use Rattle.std.specs.Prelude.{◌≡◌, ◌↔◌, ℕ, Bool, true, false, IsTrue, List, [], ◌∷◌, ◌++◌, ◌⊎◌, length}
use Rattle.std.specs.List.{list_any, sum_by}
use Rattle.cedar_tokens.specs.Units.{is_token}
use Rattle.cedar_tokens.specs.Split.{SplitsInto}
use Rattle.cedar_tokens.specs.declared.kind.Kind.{Kind}
use Rattle.cedar_grammar.specs.Trees.{Label, Forest}
use Rattle.cedar_grammar.specs.KindGrammar.{G}
use Rattle.cedar_grammar.specs.Numbers.{is_too_large}
use Rattle.cedar_tokens.specs.TokenKinds.{kind_of}
use Rattle.cedar_grammar.specs.Texts.{greatest_depth, only_tokens}

module _ {A : Type 0} (kind : A → Kind) where
  -- some list of the grammar over kinds at depth d begins with these tokens
  pub record BeginsByKinds (d : ℕ) (front : List A) : Type 0 where
    pub rest : List A
    pub tree : Forest Label A
    pub grammar : G kind d tree (front ++ rest)

  -- `at` is the first token through which no list of the grammar at depth d begins;
  -- `deep` says whether only the depth is to blame: at some depth a list begins with the tokens through it
  pub record Hopeless (d : ℕ) (tokens front : List A) (at : A) (rest : List A) (deep : Bool) : Type 0 where
    pub split : tokens ≡ front ++ (at ∷ rest)
    pub before : BeginsByKinds d front
    pub through : ¬ (BeginsByKinds d (front ++ (at ∷ [])))
    pub kind_is : IsTrue deep ↔ ((e : ℕ) × BeginsByKinds e (front ++ (at ∷ [])))

  -- the tokens begin a list of the grammar but aren't one
  pub record Unfinished (d : ℕ) (tokens : List A) : Type 0 where
    pub before : BeginsByKinds d tokens
    pub not_whole : (tree : Forest Label A) → ¬ (G kind d tree tokens)

-- the text splits, its numbers fit, and `at` is where its first token begins through which no list of the grammar begins:
-- after the units before it
pub record IsHopeless (text : List ℕ) (at : ℕ) (deep : Bool) : Type 0 where
  pub before : List (List ℕ)
  pub token : List ℕ
  pub after : List (List ℕ)
  pub split : SplitsInto text (before ++ (token ∷ after))
  pub fitting : list_any is_too_large (before ++ (token ∷ after)) ≡ false
  pub place : at ≡ sum_by length before
  pub is_one : is_token token ≡ true
  pub hopeless : Hopeless kind_of greatest_depth (only_tokens (before ++ (token ∷ after))) (only_tokens before) token (only_tokens after) deep

-- the text splits, its numbers fit, and its tokens only begin a list of the grammar
pub record IsUnfinished (text : List ℕ) : Type 0 where
  pub units : List (List ℕ)
  pub split : SplitsInto text units
  pub fitting : list_any is_too_large units ≡ false
  pub unfinished : Unfinished kind_of greatest_depth (only_tokens units)

-- a text whose numbers fit leaves the grammar at this byte, deep if only by its depth; an unfinished one at its length
abbrev pub IsRefused : List ℕ → ℕ → Bool → Type 0
IsRefused text at deep = IsHopeless text at deep ⊎ (IsUnfinished text × (at ≡ length text) × (deep ≡ false))
