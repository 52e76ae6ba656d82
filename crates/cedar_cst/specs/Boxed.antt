-- Nodes in boxes: they are read as they would be without; and what is made of a part and of what is read after it.
use Rattle.std.specs.Prelude.{◌≡◌, ◌≤◌, ℕ, List, length, Result, Ok, Err, box_value}
use Rattle.std.specs.Global.{Box}
use Rattle.std.specs.Borrow.{Bor}
use Rattle.cedar_tokens.specs.declared.kind.Kind.{Kind}
use Rattle.cedar_tokens.specs.declared.kind.Kind.TheVariants as K
use Rattle.cedar_grammar.specs.Trees.{Label, Forest, none, leaf, branch}
use Rattle.cedar_grammar.specs.Reader.Reading.{Reader, Answer, done, both, one}
use Rattle.cedar_reading.specs.Reading.{kind, flat, Fails, Stands, FollowedBy, GivesAfter, PassesOn}
use Rattle.cedar_reading.specs.ReadingParts.{Makes, key_rule}
use Rattle.cedar_reading.specs.declared.lexeme.Lexeme.{Lexeme}
use Rattle.cedar_reading.specs.declared.reading.Refusal.{Refusal}
use Rattle.cedar_grammar.specs.declared.tree.Node.{Node}
use Rattle.cedar_grammar.specs.declared.tree.Add as Add
use Rattle.cedar_grammar.specs.declared.tree.Primary as Primary
use Rattle.cedar_grammar.specs.declared.tree.Relation as Relation
use Rattle.cedar_grammar.specs.Erased.{add_parts, primary_parts}
use Rattle.cedar_cst.specs.ReadingItems.{Boxed}
use Rattle.cedar_cst.specs.ReadingExprs.{IsWordOf}

-- what was read, changed by f; a refusal stays
abbrev pub mapped : {X Y : Type 0} → (X → Y) → Result (X × Bor (List Lexeme)) Refusal → Result (Y × Bor (List Lexeme)) Refusal
mapped f (Ok x) = Ok (f x.0, x.1)
mapped f (Err e) = Err e

-- what was read, out of its box
abbrev pub unboxed : {X : Type 0} → Result (Box X × Bor (List Lexeme)) Refusal → Result (X × Bor (List Lexeme)) Refusal
unboxed = mapped (λ b. box_value b)

-- what was read, out of its box and after this sign
abbrev pub signed : {S X : Type 0} → S → Result (Box X × Bor (List Lexeme)) Refusal → Result ((S × X) × Bor (List Lexeme)) Refusal
signed s = mapped (λ b. (s, box_value b))

-- after a success, no more tokens are left than after what was read
abbrev pub IsNotLonger : {X Y : Type 0} → Result (X × Bor (List Lexeme)) Refusal → Result (Y × Bor (List Lexeme)) Refusal → Type 0
IsNotLonger (Ok x) (Ok y) = length y.1.now ≤ length x.1.now
IsNotLonger (Err f) (Ok y) = ⊥
IsNotLonger _ (Err e) = Unit {0}

-- what was read, and the token of this kind after it, make this
abbrev pub MakesClosed : {X Y : Type 0} → Kind → (X × ℕ → Y → Type 0) → Result (X × Bor (List Lexeme)) Refusal → Result (Y × Bor (List Lexeme)) Refusal → Type 0
MakesClosed {X} k P read result = (closed : Result ((X × ℕ) × Bor (List Lexeme)) Refusal) × FollowedBy k read closed × PassesOn closed result × Makes P closed result

-- what this reads after a word of this kind makes a relation of this operand
abbrev pub MakesWord : Kind → Reader Lexeme → List ℕ → Boxed Add.Add → List Lexeme → Result (Boxed Relation.Relation × Bor (List Lexeme)) Refusal → Type 0
MakesWord k R word target ts result = (read : Result (Node Add.Add × Bor (List Lexeme)) Refusal) × GivesAfter k Label.add add_parts read (R ts) × PassesOn read result × Makes (IsWordOf word target) read result

-- a record's key and the colon after it
abbrev pub key_reader : Reader Lexeme
key_reader = both (flat key_rule) (one kind K.Colon)

-- the reader gives the key that was read, and the colon after it; or the refusal is the reader's
abbrev pub GivesKey : Result (Node Primary.Primary × Bor (List Lexeme)) Refusal → Answer Lexeme → Type 0
GivesKey (Ok x) a = (f : Forest Label Lexeme) × (t : Lexeme) × (a ≡ done (branch Label.primary f (leaf t none)) x.1.now) × (t.kind ≡ K.Colon) × Stands x.0.span (primary_parts x.0.inner) f
GivesKey (Err e) a = Fails e a
