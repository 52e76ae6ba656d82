-- A piece through its `;`. Only contracts of private functions cite these.
use Rattle.std.specs.Prelude.{◌≡◌, ℕ, false, List, [], ◌∷◌, ◌++◌, length, drop, map, codes}
use Rattle.std.specs.List.{list_any, sum_by, AllByRecursion}
use Rattle.cedar_tokens.specs.Split.{Scans}
use Rattle.cedar_tokens.specs.Places.{token_spans}
use Rattle.cedar_grammar.specs.Numbers.{is_too_large}
use Rattle.cedar_grammar.specs.Texts.{only_tokens}
use Rattle.cedar_tokens.specs.TokenKinds.{kind_of}
use Rattle.cedar_reading.specs.declared.lexeme.Lexeme.{Lexeme}
use Rattle.cedar_reading.specs.Pieces.{is_semicolon}

-- the text's first n bytes are whole units, of which the last is their only `;`
pub record EndsInSemicolon (text : List ℕ) (n : ℕ) : Type 0 where
  pub before : List (List ℕ)
  pub scans : Scans (before ++ (codes ";" ∷ [])) text (drop n text)
  pub place : n ≡ sum_by length (before ++ (codes ";" ∷ []))
  pub first : list_any is_semicolon before ≡ false

-- the same, these are the lexemes among the units, and no number is too large
pub record LexesToSemicolon (text : List ℕ) (n : ℕ) (lexemes : List Lexeme) : Type 0 where
  pub ends : EndsInSemicolon text n
  pub fitting : list_any is_too_large ends.before ≡ false
  pub texts : map (λ l. l.text.now) lexemes ≡ only_tokens (ends.before ++ (codes ";" ∷ []))
  pub places : map (λ l. l.span) lexemes ≡ token_spans 0 (ends.before ++ (codes ";" ∷ []))
  pub kinds : AllByRecursion (λ l. l.kind ≡ kind_of l.text.now) lexemes
