-- What parsing items with commas between them gives, in terms of the reader.
use Rattle.std.specs.Prelude.{◌≡◌, ℕ, true, List, [], ◌∷◌, Result, Ok, Err, Vec, box_value, codes}
use Rattle.std.specs.Global.{Box}
use Rattle.std.specs.declared.alloc.Global.{Global}
use Rattle.std.specs.Borrow.{Bor}
use Rattle.cedar_tokens.specs.Kinds.{is_closing}
use Rattle.cedar_grammar.specs.Trees.{Label, Forest, none, leaf, join}
use Rattle.cedar_grammar.specs.Reader.Reading.{Answer, done}
use Rattle.cedar_reading.specs.declared.lexeme.Lexeme.{Lexeme}
use Rattle.cedar_reading.specs.declared.reading.Refusal.{Refusal}
use Rattle.cedar_grammar.specs.declared.tree.Node.{Node}
use Rattle.cedar_grammar.specs.declared.tree.Expr as Expr
use Rattle.cedar_grammar.specs.declared.tree.Primary as Primary
use Rattle.cedar_grammar.specs.NodeLists.{item_trees}
use Rattle.cedar_grammar.specs.Erased.{Erased, variant, expr_parts, primary_parts, variable_parts}
use Rattle.cedar_reading.specs.Lexemes.{lexeme_nodes}
use Rattle.cedar_reading.specs.Reading.{AreRight, Fails, Stands, IsMade}
use Rattle.cedar_grammar.specs.declared.tree.VariableDef.{VariableDef}
use Rattle.cedar_tokens.specs.declared.token.Span.{Span}

-- a node in a box, as nested parsing passes it up
abbrev pub Boxed : Type 0 → Type 0
Boxed X = Box (Node X)

-- before a closing bracket these trees stand for those inside, without a trailing comma
abbrev pub StandsItems : Erased → Forest Label Lexeme → Type 0
StandsItems trees inside = (t : Lexeme) → is_closing t.kind ≡ true → AreRight inside → lexeme_nodes (join inside (leaf t none)) ≡ join trees (lexeme_nodes (leaf t none))

-- the reader gives trees, and the items that were read stand for them; or the refusal is the reader's
abbrev pub GivesItems : {X : Type 0} → Label → (X → Erased) → Result (Vec (Node X) Global × Bor (List Lexeme)) Refusal → Answer Lexeme → Type 0
GivesItems l parts (Ok x) a = (f : Forest Label Lexeme) × (a ≡ done f x.1.now) × StandsItems (item_trees l parts x.0.items) f
GivesItems l parts (Err e) a = Fails e a

-- these trees between two brackets
abbrev pub bracketed : List ℕ → Erased → List ℕ → Erased
bracketed first trees last = leaf first (join trees (leaf last none))

-- a primary of this variant: these trees between two brackets, from here to there
abbrev pub IsBracketsOf : Label → List ℕ → Erased → List ℕ → ℕ → ℕ → Boxed Primary.Primary → Type 0
IsBracketsOf l first trees last start end n = IsMade primary_parts (variant l (bracketed first trees last) none) (record { start = start; end = end }) (box_value n)

-- a list that starts here, with these items and the end of its closing bracket
abbrev pub IsListOf : ℕ → Vec (Node Expr.Expr) Global × ℕ → Boxed Primary.Primary → Type 0
IsListOf start x = IsBracketsOf Label.list (codes "[") (item_trees Label.expr expr_parts x.0.items) (codes "]") start x.1

-- the reader gives a scope, and the three variables that were read stand for it; or the refusal is the reader's
abbrev pub GivesScope : Result ((Node VariableDef × Node VariableDef × Node VariableDef) × Bor (List Lexeme)) Refusal → Answer Lexeme → Type 0
GivesScope (Ok x) a = (f : Forest Label Lexeme) × (s : Span) × (a ≡ done f x.1.now)
    × Stands s (leaf (codes "(") (join (item_trees Label.variable variable_parts (x.0.0 ∷ x.0.1 ∷ x.0.2 ∷ [])) (leaf (codes ")") none))) f
GivesScope (Err e) a = Fails e a
