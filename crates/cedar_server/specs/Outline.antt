-- The answers to requests for what an editor shows of a document.
use Rattle.std.specs.Prelude.{ℕ, List}
use Rattle.cedar_edits.specs.declared.positions.Encoding.{Encoding}
use Rattle.cedar_edits.specs.declared.positions.Position.{Position}
use Rattle.cedar_server.specs.Placed.{ArePlacedFolds, ArePlacedSelections, ArePlacedSymbols, ArePlacedTokens}
use Rattle.cedar_server.specs.declared.messages.Answer.{Answer}
use Rattle.cedar_server.specs.declared.messages.Answer.TheVariants as answer

-- the tokens and comments of a text with their classes
abbrev pub ShowsTokens : Encoding → List ℕ → Answer → Type 0
ShowsTokens e text (answer.Tokens tokens) = ArePlacedTokens e text tokens.items
ShowsTokens e text a = ⊥

-- the policies of a text by name
abbrev pub ShowsSymbols : Encoding → List ℕ → Answer → Type 0
ShowsSymbols e text (answer.Symbols symbols) = ArePlacedSymbols e text symbols.items
ShowsSymbols e text a = ⊥

-- what can be folded in a text
abbrev pub ShowsFolds : Encoding → List ℕ → Answer → Type 0
ShowsFolds e text (answer.Folds folds) = ArePlacedFolds e text folds.items
ShowsFolds e text a = ⊥

-- the blocks of a text around each of these positions
abbrev pub ShowsSelections : Encoding → List Position → List ℕ → Answer → Type 0
ShowsSelections e positions text (answer.Selections selections) = ArePlacedSelections e text positions selections.items
ShowsSelections e positions text a = ⊥
