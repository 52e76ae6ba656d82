-- The tokens of a text as the parser reads them, and what it makes of a tree of them. Only contracts of the parser's own functions use these.
use Rattle.std.specs.Prelude.{◌≡◌, ℕ, false, List, map}
use Rattle.std.specs.List.{list_any, AllByRecursion}
use Rattle.cedar_tokens.specs.Split.{SplitsInto}
use Rattle.cedar_tokens.specs.Places.{token_spans}
use Rattle.cedar_reading.specs.declared.lexeme.Lexeme.{Lexeme}
use Rattle.cedar_grammar.specs.Trees.{Label, Forest}
use Rattle.cedar_tokens.specs.TokenKinds.{kind_of}
use Rattle.cedar_grammar.specs.Numbers.{is_too_large}
use Rattle.cedar_grammar.specs.Texts.{only_tokens}
use Rattle.cedar_grammar.specs.TrailingCommas.{without_trailing}
use Rattle.cedar_grammar.specs.Erased.{Erased}
use Rattle.cedar_grammar.specs.NodeTrees.{spanned}

-- the lexemes are the tokens of the text, each with its kind and place, and no number is too large
pub record AreLexemes (text : List ℕ) (lexemes : List Lexeme) : Type 0 where
  pub units : List (List ℕ)
  pub split : SplitsInto text units
  pub fitting : list_any is_too_large units ≡ false
  pub texts : map (λ l. l.text.now) lexemes ≡ only_tokens units
  pub places : map (λ l. l.span) lexemes ≡ token_spans 0 units
  pub kinds : AllByRecursion (λ l. l.kind ≡ kind_of l.text.now) lexemes

-- the tree of nodes that stands for a tree of lexemes
abbrev pub lexeme_nodes : Forest Label Lexeme → Erased
lexeme_nodes f = spanned (λ l. l.text.now) (λ l. l.span) (without_trailing (λ l. l.kind) f)
