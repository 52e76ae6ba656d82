-- What the steps over tokens preserve.
use Rattle.std.specs.Prelude.{◌≡◌, ◌||◌, ◌<◌, ℕ, Bool, true, false, List, [], ◌∷◌, ◌++◌, length, Result, Ok, Err, Option, Some, None, ◌-◌, MatchOption, ◌⊎◌, Vec}
use Rattle.std.specs.declared.alloc.Global.{Global}
use Rattle.std.specs.List.{slice_get}
use Rattle.std.specs.Borrow.{Bor}
use Rattle.cedar_reading.specs.declared.lexeme.Lexeme.{Lexeme}
use Rattle.cedar_reading.specs.declared.reading.Refusal.{Refusal}
use Rattle.cedar_reading.specs.declared.reading.Refusal.TheVariants.{Grammar, TooDeep, OutOfMemory}
use Rattle.cedar_grammar.specs.declared.tree.Node.{Node}
use Rattle.cedar_grammar.specs.declared.tree.Ident.{Ident}
use Rattle.cedar_grammar.specs.declared.tree.Str.{Str}
use Rattle.cedar_grammar.specs.declared.tree.Name.{Name}
use Rattle.cedar_grammar.specs.declared.tree.Literal.{Literal}
use Rattle.cedar_grammar.specs.declared.tree.MemAccess as MemAccess
use Rattle.cedar_grammar.specs.declared.tree.Primary as Primary
use Rattle.cedar_grammar.specs.declared.tree.Add as Add
use Rattle.cedar_grammar.specs.NodeLists.{operand_parts}
use Rattle.cedar_grammar.specs.Erased.{Erased, path_parts, node, primary_parts, add_parts, variant_label, literal_text}
use Rattle.cedar_reading.specs.Lexemes.{lexeme_nodes}
use Rattle.cedar_grammar.specs.NodeTrees.{span_of}
use Rattle.cedar_tokens.specs.Units.{is_token}
use Rattle.cedar_tokens.specs.declared.token.Span.{Span}
use Rattle.cedar_tokens.specs.declared.kind.Kind.{Kind}
use Rattle.cedar_tokens.specs.declared.kind.Kind.TheVariants as K
use Rattle.cedar_grammar.specs.declared.tree.RelOp.{RelOp}
use Rattle.cedar_grammar.specs.declared.tree.AddOp.{AddOp}
use Rattle.cedar_tokens.specs.Kinds.{is, begins}
use Rattle.cedar_tokens.specs.TokenKinds.{kind_of}
use Rattle.cedar_grammar.specs.Trees.{Label, Forest, none, leaf, branch, yield}
use Rattle.cedar_grammar.specs.TrailingCommas.{without_trailing}
use Rattle.cedar_grammar.specs.Reader.Reading.{Reader, Answer, done, stuck, one}
use Rattle.cedar_grammar.specs.Reader.Rules.{Rule, read, core, refuse}

-- what was read is added to the items, and the tokens after it are left; or the refusal is passed on
abbrev pub Keeps : {X : Type 0} → Result (X × Bor (List Lexeme)) Refusal → List X → List X → Bor (List Lexeme) → Result (Unit {0}) Refusal → Type 0
Keeps (Ok x) old new rest (Ok _) = (new ≡ old ++ (x.0 ∷ [])) × (rest ≡ x.1)
Keeps (Ok x) old new rest (Err e) = e ≡ OutOfMemory
Keeps (Err f) old new rest (Ok _) = ⊥
Keeps (Err f) old new rest (Err e) = e ≡ f

-- what was read, with the end of the token after it, and fewer tokens are left
abbrev pub Follows : {X : Type 0} → Result (X × Bor (List Lexeme)) Refusal → Result ((X × ℕ) × Bor (List Lexeme)) Refusal → Type 0
Follows (Ok x) (Ok y) = (y.0.0 ≡ x.0) × (length y.1.now < length x.1.now)
Follows (Err f) (Ok y) = ⊥
Follows _ (Err e) = Unit {0}

-- after a success the tokens after it are left, unless out of memory; a refusal is passed on
abbrev pub PassesOn : {X Y : Type 0} → Result (X × Bor (List Lexeme)) Refusal → Result (Y × Bor (List Lexeme)) Refusal → Type 0
PassesOn (Ok x) (Ok y) = y.1 ≡ x.1
PassesOn (Ok x) (Err e) = e ≡ OutOfMemory
PassesOn (Err f) (Ok y) = ⊥
PassesOn (Err f) (Err e) = e ≡ f

abbrev pub kind : Lexeme → Kind
kind l = l.kind

-- the kind of the first token
abbrev pub first_kind : List Lexeme → Option Kind
first_kind [] = None
first_kind (t ∷ ts) = Some t.kind

-- the kind is that of the text, which is a token
abbrev pub IsRight : Lexeme → Type 0
IsRight l = (l.kind ≡ kind_of l.text.now) × (is_token l.text.now ≡ true)

-- all leaves are correct
abbrev pub AreRight : Forest Label Lexeme → Type 0
AreRight none = Unit {0}
AreRight (leaf t f) = IsRight t × AreRight f
AreRight (branch l f g) = AreRight f × AreRight g

-- what reads the rule of a line without nesting
abbrev pub flat : Rule → Reader Lexeme
flat R = read kind false refuse (core R)

-- the refusal is that of the reader, at the same token
abbrev pub Fails : Refusal → Answer Lexeme → Type 0
Fails (Grammar left) a = (r : List Lexeme) × (a ≡ stuck false r) × (left ≡ length r)
Fails (TooDeep left) a = (r : List Lexeme) × (a ≡ stuck true r) × (left ≡ length r)
Fails OutOfMemory a = Unit {0}

-- a node with this span and these parts stands for the trees inside
pub record Stands (span : Span) (parts : Erased) (inside : Forest Label Lexeme) : Type 0 where
  pub same : AreRight inside → parts ≡ lexeme_nodes inside
  pub place : span_of (λ (l : Lexeme). l.text.now) (λ (l : Lexeme). l.span) (yield (without_trailing kind inside)) ≡ Some span

-- a node with these parts and this span
abbrev pub IsMade : {X : Type 0} → (X → Erased) → Erased → Span → Node X → Type 0
IsMade parts trees span n = (parts n.inner ≡ trees) × (n.span ≡ span)

-- from where this span starts to here
abbrev pub span_to : Span → ℕ → Span
span_to from end = record { start = from.start; end = end }

-- the reader gives a tree with this label, and the node that was read stands for it; or the refusal is the reader's
abbrev pub GivesNode : {X : Type 0} → Label → (X → Erased) → Result (Node X × Bor (List Lexeme)) Refusal → Answer Lexeme → Type 0
GivesNode l parts (Ok x) a = (f : Forest Label Lexeme) × (a ≡ done (branch l f none) x.1.now) × Stands x.0.span (parts x.0.inner) f
GivesNode l parts (Err e) a = Fails e a

-- the token of this kind, which the reader gives as a leaf
abbrev pub GivesToken : Kind → Result (Lexeme × Bor (List Lexeme)) Refusal → Answer Lexeme → Type 0
GivesToken k (Ok x) a = (a ≡ done (leaf x.0 none) x.1.now) × (x.0.kind ≡ k)
GivesToken k (Err e) a = Fails e a

-- the tokens after the first, if that is of this kind
abbrev pub GoesPast : Kind → List Lexeme → Option (Bor (List Lexeme)) → Type 0
GoesPast k tokens result = MatchOption result (begins kind (is k) tokens ≡ false) (λ rest. (t : Lexeme) × (tokens ≡ t ∷ rest.now) × (t.kind ≡ k))

-- The parts of nodes.
abbrev pub ident_parts : Ident → Erased
ident_parts n = leaf n.0.now none

abbrev pub str_parts : Str → Erased
str_parts n = leaf n.0.now none

abbrev pub IsIdentOf : Lexeme → Node Ident → Type 0
IsIdentOf t n = (n.inner.0 ≡ t.text) × (n.span ≡ t.span)

abbrev pub IsStrOf : Lexeme → Node Str → Type 0
IsStrOf t n = (n.inner.0 ≡ t.text) × (n.span ≡ t.span)

-- where a name's first word starts
abbrev pub first_start : List (Node Ident) → Node Ident → ℕ
first_start [] n = n.span.start
first_start (x ∷ xs) n = x.span.start

abbrev pub name_parts : Name → Erased
name_parts n = path_parts n.path.items n.name

abbrev pub IsNameOf : List (Node Ident) → Node Ident → Node Name → Type 0
IsNameOf path name n = (n.inner.path.items ≡ path) × (n.inner.name ≡ name) × (n.span ≡ record { start = first_start path name; end = name.span.end })

-- the token of this kind after what was read, with its end as the answer; or the first refusal of the two
abbrev pub FollowedBy : {X : Type 0} → Kind → Result (X × Bor (List Lexeme)) Refusal → Result ((X × ℕ) × Bor (List Lexeme)) Refusal → Type 0
FollowedBy k (Ok x) (Ok y) = (y.0.0 ≡ x.0) × (t : Lexeme) × (one kind k x.1.now ≡ done (leaf t none) y.1.now) × (t.kind ≡ k) × (y.0.1 ≡ t.span.end)
FollowedBy k (Ok x) (Err e) = Fails e (one kind k x.1.now)
FollowedBy k (Err f) (Ok y) = ⊥
FollowedBy k (Err f) (Err e) = e ≡ f

-- an operand made of a primary and its accesses
abbrev pub IsOperandOf : Node Primary.Primary → List (Node MemAccess.MemAccess) → Span → Node Add.Add → Type 0
IsOperandOf item access s = IsMade add_parts (operand_parts s item access) s

abbrev pub IsLiteralOf : Literal → Span → Node Primary.Primary → Type 0
IsLiteralOf t s = IsMade primary_parts (node (variant_label t) s (leaf (literal_text t) none) none) s

abbrev pub IsNamePrimaryOf : Node Name → Node Primary.Primary → Type 0
IsNamePrimaryOf name = IsMade primary_parts (node Label.name name.span (name_parts name.inner) none) name.span

-- the token of this kind and a tree with this label after it, which the node that was read stands for
abbrev pub GivesAfter : {X : Type 0} → Kind → Label → (X → Erased) → Result (Node X × Bor (List Lexeme)) Refusal → Answer Lexeme → Type 0
GivesAfter k l parts (Ok x) a = (t : Lexeme) × (f : Forest Label Lexeme) × (a ≡ done (leaf t (branch l f none)) x.1.now) × (t.kind ≡ k) × Stands x.0.span (parts x.0.inner) f
GivesAfter k l parts (Err e) a = Fails e a

-- where the last access ends
abbrev pub last_end : ℕ → List (Node MemAccess.MemAccess) → ℕ
last_end e [] = e
last_end e (n ∷ ns) = last_end n.span.end ns

-- nodes with one label in a row
abbrev pub node_trees : {X : Type 0} → Label → (X → Erased) → List (Node X) → Erased
node_trees l parts [] = none
node_trees l parts (n ∷ ns) = node l n.span (parts n.inner) (node_trees l parts ns)

-- a row of nodes, possibly empty, stands for the trees inside
pub record StandsMany (trees : Erased) (inside : Forest Label Lexeme) : Type 0 where
  pub same : AreRight inside → trees ≡ lexeme_nodes inside
  pub place : (inside ≡ none) ⊎ ((s : Span) × (span_of (λ (l : Lexeme). l.text.now) (λ (l : Lexeme). l.span) (yield (without_trailing kind inside)) ≡ Some s))

-- the reader gives trees, and the nodes that were read stand for them; or the refusal is the reader's
abbrev pub GivesMany : {X : Type 0} → Label → (X → Erased) → Result (Vec (Node X) Global × Bor (List Lexeme)) Refusal → Answer Lexeme → Type 0
GivesMany l parts (Ok x) a = (f : Forest Label Lexeme) × (a ≡ done f x.1.now) × StandsMany (node_trees l parts x.0.items) f
GivesMany l parts (Err e) a = Fails e a

-- where the first token starts
abbrev pub first_place : List Lexeme → ℕ
first_place [] = 0
first_place (t ∷ ts) = t.span.start

-- the kind of a comparison's sign
abbrev pub relop_kind : RelOp → Kind
relop_kind RelOp.Less = K.Lt
relop_kind RelOp.LessEq = K.Le
relop_kind RelOp.Greater = K.Gt
relop_kind RelOp.GreaterEq = K.Ge
relop_kind RelOp.NotEq = K.NotEqual
relop_kind RelOp.Eq = K.Equal
relop_kind RelOp.In = K.In

abbrev pub addop_kind : AddOp → Kind
addop_kind AddOp.Plus = K.Add
addop_kind AddOp.Minus = K.Dash

-- the sign that comes first, and the tokens after it
abbrev pub GoesPastSign : List Lexeme → Option (AddOp × Bor (List Lexeme)) → Type 0
GoesPastSign tokens result = MatchOption result (begins kind (λ x. is K.Add x || is K.Dash x) tokens ≡ false) (λ x. (t : Lexeme) × (tokens ≡ t ∷ x.1.now) × (t.kind ≡ addop_kind x.0))

-- a comparison's sign, which the reader gives as a leaf
abbrev pub GivesSign : Result (RelOp × Bor (List Lexeme)) Refusal → Answer Lexeme → Type 0
GivesSign (Ok x) a = (t : Lexeme) × (a ≡ done (leaf t none) x.1.now) × (t.kind ≡ relop_kind x.0)
GivesSign (Err e) a = Fails e a

-- whether a token of this kind comes first, and the tokens after it
abbrev pub Skips : Kind → List Lexeme → List Lexeme → Bool → Type 0
Skips k old new result = (result ≡ begins kind (is k) old) × (result ≡ false → new ≡ old) × (result ≡ true → (t : Lexeme) × (old ≡ t ∷ new) × (t.kind ≡ k))

abbrev pub start_or : ℕ → Option Lexeme → ℕ
start_or n None = n
start_or n (Some l) = l.span.start

-- where the token starts from which so many are left; the length of the text if none is left
abbrev pub place_of : List ℕ → List Lexeme → ℕ → ℕ
place_of text lexemes left = start_or (length text) (slice_get lexemes (length lexemes - left))
