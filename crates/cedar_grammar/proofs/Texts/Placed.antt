-- The tokens of a text with their places: their tree by texts and by kinds.
use Rattle.std.proofs.Common.{ℕ, List, [], ◌∷◌}
use Rattle.cedar_tokens.specs.declared.token.Span.{Span}
use Rattle.cedar_tokens.specs.Places.{token_spans}
use Rattle.cedar_grammar.specs.Trees.{Label, Forest}
use Rattle.cedar_grammar.specs.Grammar.{IsSyntaxTree}
use Rattle.cedar_grammar.specs.KindGrammar.{G}
use Rattle.cedar_grammar.specs.Laws.{AreTokens}
use Rattle.cedar_grammar.specs.Placed.{Placed, with_places, placed, kind_of_placed}
use Rattle.cedar_grammar.specs.Texts.{greatest_depth, only_tokens}
use Rattle.cedar_grammar.proofs.Texts.Accepted.{are_tokens}
use Rattle.cedar_grammar.proofs.Texts.Grammars.{grammars_agree, texts_are_tokens}

abbrev text_of : Placed → List ℕ
text_of t = t.text

placed_are_tokens : (ts : List (List ℕ)) (ss : List Span) → AreTokens (λ t. t) ts
    → AreTokens text_of (with_places ts ss)
placed_are_tokens [] ss h = tt
placed_are_tokens (t ∷ ts) [] h = tt
placed_are_tokens (t ∷ ts) (s ∷ ss) h = (h.0, placed_are_tokens ts ss h.1)

pub tree_by_kinds : (units : List (List ℕ)) (tree : Forest Label Placed)
    → IsSyntaxTree text_of greatest_depth tree (placed units)
    → G kind_of_placed greatest_depth tree (placed units)
tree_by_kinds units tree g = (grammars_agree text_of greatest_depth (placed units) tree
    (texts_are_tokens text_of greatest_depth (placed units) tree g)).0 g

pub tree_by_texts : (units : List (List ℕ)) (tree : Forest Label Placed)
    → G kind_of_placed greatest_depth tree (placed units)
    → IsSyntaxTree text_of greatest_depth tree (placed units)
tree_by_texts units tree g = (grammars_agree text_of greatest_depth (placed units) tree
    (placed_are_tokens (only_tokens units) (token_spans 0 units) (are_tokens units))).1 g
