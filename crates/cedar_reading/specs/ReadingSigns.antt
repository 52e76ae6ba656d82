-- What reading the signs before a member gives, in terms of the reader.
use Rattle.std.specs.Prelude.{◌≡◌, ℕ, zero, suc, ◌<◌, ◌≤◌, false, List, ◌∷◌, Option, Some, None}
use Rattle.std.specs.Borrow.{Bor}
use Rattle.cedar_tokens.specs.declared.token.Span.{Span}
use Rattle.cedar_tokens.specs.declared.kind.Kind.{Kind}
use Rattle.cedar_tokens.specs.declared.kind.Kind.TheVariants as K
use Rattle.cedar_tokens.specs.Kinds.{is, begins}
use Rattle.cedar_grammar.specs.Trees.{Label, Forest, join}
use Rattle.cedar_grammar.specs.Reader.Reading.{done}
use Rattle.cedar_grammar.specs.Reader.Rules.{Rule}
use Rattle.cedar_grammar.specs.Reader.Lines.{◌∥◌, maybe}
use Rattle.cedar_grammar.specs.Reader.Lines as L
use Rattle.cedar_reading.specs.declared.lexeme.Lexeme.{Lexeme}
use Rattle.cedar_grammar.specs.declared.tree.NegOp.{NegOp}
use Rattle.cedar_grammar.specs.Erased.{Erased, sign_leaves}
use Rattle.cedar_reading.specs.Reading.{kind, flat, Stands, first_place}

-- so many tokens of this kind come first, before the others
abbrev pub Leads : Kind → ℕ → List Lexeme → List Lexeme → Type 0
Leads k zero tokens others = tokens ≡ others
Leads k (suc n) tokens others = (t : Lexeme) × (r : List Lexeme) × (tokens ≡ t ∷ r) × (t.kind ≡ k) × Leads k n r others

-- how many tokens of this kind come first, at most four, and the tokens after them; fewer than four are all of them
abbrev pub GoesPastSigns : Kind → List Lexeme → ℕ × Bor (List Lexeme) → Type 0
GoesPastSigns k tokens x = (x.0 ≤ 4) × Leads k x.0 tokens x.1.now × (x.0 < 4 → begins kind (is k) x.1.now ≡ false)

-- the signs before a member, or none
abbrev pub signs_rule : Rule
signs_rule = maybe (L.same_signs K.Neg ∥ L.same_signs K.Dash)

-- where signs and what follows them start together: at the first token, if there is any
abbrev pub signs_start : Option NegOp → List Lexeme → ℕ → ℕ
signs_start None tokens start = start
signs_start (Some op) tokens start = first_place tokens

-- with the signs before them, the trees stand for the row and what follows it
abbrev pub StandsBefore : Option NegOp → List Lexeme → Forest Label Lexeme → Type 0
StandsBefore op tokens row = (s : Span) (trees : Erased) (following : Forest Label Lexeme) → Stands s trees following → Stands (record { start = signs_start op tokens s.start; end = s.end }) (sign_leaves op trees) (join row following)

-- the reader gives a row of signs, and the signs that were read come before whatever follows that row
abbrev pub GivesSigns : List Lexeme → Option NegOp × Bor (List Lexeme) → Type 0
GivesSigns tokens x = (row : Forest Label Lexeme) × (flat signs_rule tokens ≡ done row x.1.now) × StandsBefore x.0 tokens row
