-- A part of a text, parsed with the places of the whole text. Only contracts of private functions use these.
use Rattle.std.specs.Prelude.{◌≡◌, ◌+◌, ◌-◌, ℕ, true, false, List, [], ◌∷◌, length, map, take, drop}
use Rattle.std.specs.List.{list_any, slice_get}
use Rattle.std.specs.Str.{IsCharBoundary}
use Rattle.cedar_tokens.specs.Split.{SplitsInto}
use Rattle.cedar_tokens.specs.Places.{token_spans}
use Rattle.cedar_tokens.specs.declared.token.Span.{Span}
use Rattle.cedar_grammar.specs.Languages.{Many}
use Rattle.cedar_grammar.specs.KindGrammar.{Policy}
use Rattle.cedar_grammar.specs.Numbers.{is_too_large}
use Rattle.cedar_grammar.specs.Placed.{Placed, with_places, kind_of_placed}
use Rattle.cedar_grammar.specs.Texts.{greatest_depth, only_tokens, LeavesGrammar}
use Rattle.cedar_grammar.specs.TrailingCommas.{without_trailing}
use Rattle.cedar_grammar.specs.Trees.{Label, Forest, yield}
use Rattle.cedar_reading.specs.Pieces.{IsFirstPiece}
use Rattle.cedar_reading.specs.declared.lexeme.Lexeme.{Lexeme}
use Rattle.cedar_reading.specs.Lexemes.{AreLexemes}
use Rattle.cedar_reading.specs.Reading.{start_or}
use Rattle.cedar_grammar.specs.declared.error.FormatError.{FormatError}
use Rattle.cedar_grammar.specs.declared.error.FormatError.TheVariants.{Grammar, TooDeep}
use Rattle.cedar_grammar.specs.declared.tree.Node as Nodes
use Rattle.cedar_grammar.specs.declared.tree.Policy as Policies
use Rattle.cedar_grammar.specs.declared.tree.Policies as Trees
use Rattle.cedar_grammar.specs.Erased.{policy_trees}
use Rattle.cedar_grammar.specs.NodeTrees.{spanned}
use Rattle.cedar_grammar.specs.Refusals.{OutOfMemoryOr, RefusesTokens}
use Rattle.cedar_cst.specs.PolicyReaders.{Position}

-- the place, with so many more bytes before it
abbrev pub moved_span : ℕ → Span → Span
moved_span n s = record { start = n + s.start; end = n + s.end }

abbrev pub moved_lexeme : ℕ → Lexeme → Lexeme
moved_lexeme n l = record { kind = l.kind; text = l.text; span = moved_span n l.span }

-- where the token starts from which so many are left, or the end
abbrev pub place_before : ℕ → List Lexeme → ℕ → ℕ
place_before end lexemes left = start_or end (slice_get lexemes (length lexemes - left))

-- the tokens, with their places, of a part that has these units and starts at this byte
abbrev pub placed_from : ℕ → List (List ℕ) → List Placed
placed_from from units = with_places (only_tokens units) (token_spans from units)

-- these are the lexemes of the part, with the places of a text in which it starts at this byte
abbrev pub AreLexemesFrom : ℕ → List ℕ → List Lexeme → Type 0
AreLexemesFrom from part lexemes = (own : List Lexeme) × AreLexemes part own × (lexemes ≡ map (moved_lexeme from) own)

-- the part is accepted, and these are its policies, with the places of a text in which it starts at this byte
pub record HasPoliciesFrom (from : ℕ) (part : List ℕ) (policies : List (Nodes.Node Policies.Policy)) : Type 0 where
  pub units : List (List ℕ)
  pub split : SplitsInto part units
  pub fitting : list_any is_too_large units ≡ false
  pub row : Forest Label Placed
  pub among : Many (Policy kind_of_placed greatest_depth) row
  pub leaves : yield row ≡ placed_from from units
  pub nodes : policy_trees policies ≡ spanned (λ t. t.text) (λ t. t.span) (without_trailing kind_of_placed row)

-- why the part is refused: the grammar refuses it, with the place in the text; or its tokens are refused
abbrev pub RefusesFrom : ℕ → List ℕ → FormatError → Type 0
RefusesFrom from part (Grammar p) = (q : ℕ) × (p ≡ from + q) × LeavesGrammar part q false
RefusesFrom from part (TooDeep p) = (q : ℕ) × (p ≡ from + q) × LeavesGrammar part q true
RefusesFrom from part e = OutOfMemoryOr (RefusesTokens part) e

-- the first piece of what is left of a reader's text
pub record IsNext (reader : Position) (piece : List ℕ) : Type 0 where
  pub first : IsFirstPiece (drop reader.at reader.text) (length piece)
  pub bytes : piece ≡ take (length piece) (drop reader.at reader.text)
  pub boundary : IsCharBoundary reader.text (reader.at + length piece)

-- the part is accepted, and this is its only policy, with the places of a text in which the part starts at this byte
abbrev pub IsPolicyFrom : ℕ → List ℕ → Nodes.Node Policies.Policy → Type 0
IsPolicyFrom from part policy = (p : Trees.Policies) × HasPoliciesFrom from part p.policies.items × (p.policies.items ≡ policy ∷ [])
