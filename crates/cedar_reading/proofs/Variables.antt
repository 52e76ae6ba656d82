-- A variable of the scope and its operand.
use Rattle.std.specs.Prelude.{◌≡◌, ◌||◌, Bool, true, false, List, [], ◌∷◌, Some, None}
use Rattle.std.proofs.Common.{refl, sym, ap, ◌∙◌}
use Rattle.std.proofs.lemmas.Bool.{or_from}
use Rattle.cedar_tokens.specs.declared.kind.Kind.{Kind}
use Rattle.cedar_tokens.specs.declared.kind.Kind.TheVariants as K
use Rattle.cedar_tokens.specs.Kinds.{is, begins}
use Rattle.cedar_grammar.specs.Trees.{Label, Forest, none, leaf, branch}
use Rattle.cedar_grammar.specs.Reader.Reading.{Reader, done, stuck, choice, both, tree, skip, one}
use Rattle.cedar_grammar.proofs.Readers.Equations.{choice_yes, choice_no, both_first, both_done, both_then_fails, tree_done, tree_fails, onto, onto_onto}
use Rattle.cedar_grammar.proofs.KindSets.{apart_at}
use Rattle.cedar_grammar.specs.Erased.{add_parts, variable_parts}
use Rattle.cedar_reading.specs.Reading.{kind, Stands, ident_parts, name_parts}
use Rattle.cedar_reading.specs.ReadingParts.{variable_kind, IsVariableOf}
use Rattle.cedar_reading.specs.declared.lexeme.Lexeme.{Lexeme}
use Rattle.cedar_grammar.specs.declared.tree.Node.{Node}
use Rattle.cedar_grammar.specs.declared.tree.Ident.{Ident}
use Rattle.cedar_grammar.specs.declared.tree.Name.{Name}
use Rattle.cedar_grammar.specs.declared.tree.RelOp.{RelOp}
use Rattle.cedar_grammar.specs.declared.tree.Slot.{Slot}
use Rattle.cedar_grammar.specs.declared.tree.VariableDef.{VariableDef}
use Rattle.cedar_grammar.specs.declared.tree.Add as Add
use Rattle.cedar_reading.proofs.Steps.{token_at, first_begins, is_itself}
use Rattle.cedar_reading.proofs.Rows.{row_node, row_nodes, row_more, row_parts, row_span}

abbrev relates : Kind → Bool
relates k = is K.Equal k || (is K.Is k || is K.In k)

relates_none : (ts : List Lexeme) → begins kind (is K.Equal) ts ≡ false
    → begins kind (is K.Is) ts ≡ false → begins kind (is K.In) ts ≡ false
    → begins kind relates ts ≡ false
relates_none [] h i j = refl
relates_none (t ∷ ts) h i j = or_from (is K.Equal t.kind) (is K.Is t.kind || is K.In t.kind) h
    (or_from (is K.Is t.kind) (is K.In t.kind) i j)

abbrev acts : Kind → Bool
acts k = is K.Equal k || is K.In k

acts_none : (ts : List Lexeme) → begins kind (is K.Equal) ts ≡ false
    → begins kind (is K.In) ts ≡ false → begins kind acts ts ≡ false
acts_none [] h i = refl
acts_none (t ∷ ts) h i = or_from (is K.Equal t.kind) (is K.In t.kind) h i

-- E reads an operand, and P a type
module _ (E P : Reader Lexeme) where
  abbrev pub in_part : Reader Lexeme
  in_part ts = choice (begins kind (is K.In) ts) (both (one kind K.In) E) skip ts

  abbrev pub related : Reader Lexeme
  related ts = choice (begins kind relates ts)
      (λ ts. choice (begins kind (is K.Equal) ts) (both (one kind K.Equal) E)
      (λ ts. choice (begins kind (is K.Is) ts) (both (one kind K.Is) (both P in_part))
      (both (one kind K.In) E) ts) ts)
      skip ts

  following : (k : Kind) (Q : Reader Lexeme) (ts : List Lexeme) (d : Lexeme) (rest : List Lexeme)
      → ts ≡ d ∷ rest → d.kind ≡ k → both (one kind k) Q ts ≡ onto (leaf d none) (Q rest)
  following k Q ts d rest e h = both_first (one kind k) Q ts (leaf d none) rest
      (token_at (is k) ts d rest e (is_itself k d.kind (sym h)))

  starts : (p : Kind → Bool) (b : Bool) (k : Kind) (ts : List Lexeme) (d : Lexeme)
      (rest : List Lexeme) → ts ≡ d ∷ rest → d.kind ≡ k → p k ≡ b → begins kind p ts ≡ b
  starts p b k ts d rest e h i = first_begins p ts d rest e ∙ ap p h ∙ i

  pub equal_reads : (ts : List Lexeme) (d : Lexeme) (rest : List Lexeme) → ts ≡ d ∷ rest
      → d.kind ≡ K.Equal → related ts ≡ onto (leaf d none) (E rest)
  equal_reads ts d rest e h = choice_yes _ _ _ ts (starts relates true K.Equal ts d rest e h refl)
      ∙ choice_yes _ _ _ ts (starts (is K.Equal) true K.Equal ts d rest e h refl)
      ∙ following K.Equal E ts d rest e h

  pub type_reads : (ts : List Lexeme) (d : Lexeme) (rest : List Lexeme) → ts ≡ d ∷ rest
      → d.kind ≡ K.Is → related ts ≡ onto (leaf d none) (both P in_part rest)
  type_reads ts d rest e h = choice_yes _ _ _ ts (starts relates true K.Is ts d rest e h refl)
      ∙ choice_no _ _ _ ts (starts (is K.Equal) false K.Is ts d rest e h refl)
      ∙ choice_yes _ _ _ ts (starts (is K.Is) true K.Is ts d rest e h refl)
      ∙ following K.Is (both P in_part) ts d rest e h

  pub member_reads : (ts : List Lexeme) (d : Lexeme) (rest : List Lexeme) → ts ≡ d ∷ rest
      → d.kind ≡ K.In → related ts ≡ onto (leaf d none) (E rest)
  member_reads ts d rest e h = choice_yes _ _ _ ts (starts relates true K.In ts d rest e h refl)
      ∙ choice_no _ _ _ ts (starts (is K.Equal) false K.In ts d rest e h refl)
      ∙ choice_no _ _ _ ts (starts (is K.Is) false K.In ts d rest e h refl)
      ∙ following K.In E ts d rest e h

  pub none_reads : (ts : List Lexeme) → begins kind (is K.Equal) ts ≡ false
      → begins kind (is K.Is) ts ≡ false → begins kind (is K.In) ts ≡ false
      → related ts ≡ done none ts
  none_reads ts h i j = choice_no _ _ _ ts (relates_none ts h i j)

  pub in_reads : (ts : List Lexeme) (d : Lexeme) (rest : List Lexeme) → ts ≡ d ∷ rest
      → d.kind ≡ K.In → in_part ts ≡ onto (leaf d none) (E rest)
  in_reads ts d rest e h = choice_yes _ _ _ ts (starts (is K.In) true K.In ts d rest e h refl)
      ∙ following K.In E ts d rest e h

  pub typed_reads : (ts : List Lexeme) (d : Lexeme) (rest : List Lexeme) (g : Forest Label Lexeme)
      (r : List Lexeme) → ts ≡ d ∷ rest → d.kind ≡ K.Is → P rest ≡ done g r
      → related ts ≡ onto (leaf d g) (in_part r)
  typed_reads ts d rest g r e h i =
      type_reads ts d rest e h ∙ ap (onto (leaf d none)) (both_first P in_part rest g r i)
      ∙ onto_onto (leaf d none) g (in_part r)

  pub in_none : (ts : List Lexeme) → begins kind (is K.In) ts ≡ false → in_part ts ≡ done none ts
  in_none ts h = choice_no _ _ _ ts h

-- E reads the operand after `==`, and L the one after `in`
module _ (E L : Reader Lexeme) where
  abbrev pub acted : Reader Lexeme
  acted ts = choice (begins kind acts ts) (λ ts. choice (begins kind (is K.Equal) ts)
      (both (one kind K.Equal) E) (both (one kind K.In) L) ts) skip ts

  pub acted_equal : (ts : List Lexeme) (d : Lexeme) (rest : List Lexeme) → ts ≡ d ∷ rest
      → d.kind ≡ K.Equal → acted ts ≡ onto (leaf d none) (E rest)
  acted_equal ts d rest e h = choice_yes _ _ _ ts (first_begins acts ts d rest e ∙ ap acts h)
      ∙ choice_yes _ _ _ ts (first_begins (is K.Equal) ts d rest e ∙ ap (is K.Equal) h)
      ∙ both_first (one kind K.Equal) E ts (leaf d none) rest
      (token_at (is K.Equal) ts d rest e (is_itself K.Equal d.kind (sym h)))

  pub acted_in : (ts : List Lexeme) (d : Lexeme) (rest : List Lexeme) → ts ≡ d ∷ rest
      → d.kind ≡ K.In → acted ts ≡ onto (leaf d none) (L rest)
  acted_in ts d rest e h = choice_yes _ _ _ ts (first_begins acts ts d rest e ∙ ap acts h)
      ∙ choice_no _ _ _ ts (first_begins (is K.Equal) ts d rest e ∙ ap (is K.Equal) h)
      ∙ both_first (one kind K.In) L ts (leaf d none) rest
      (token_at (is K.In) ts d rest e (is_itself K.In d.kind (sym h)))

  pub acted_none : (ts : List Lexeme) → begins kind (is K.Equal) ts ≡ false
      → begins kind (is K.In) ts ≡ false → acted ts ≡ done none ts
  acted_none ts h i = choice_no _ _ _ ts (acts_none ts h i)

-- W reads the variable's word, and R what follows it
module _ (W R : Reader Lexeme) where
  pub variable_done : (ts : List Lexeme) (f : Forest Label Lexeme) (rest : List Lexeme)
      (g : Forest Label Lexeme) (s : List Lexeme) → W ts ≡ done (branch Label.ident f none) rest
      → R rest ≡ done g s
      → tree Label.variable (both W R) ts
      ≡ done (branch Label.variable (branch Label.ident f g) none) s
  variable_done ts f rest g s e h =
      tree_done Label.variable _ ts _ s (both_done W R ts (branch Label.ident f none) rest g s e h)

  pub variable_fails : (ts : List Lexeme) (f : Forest Label Lexeme) (rest : List Lexeme) (b : Bool)
      (s : List Lexeme) → W ts ≡ done (branch Label.ident f none) rest → R rest ≡ stuck b s
      → tree Label.variable (both W R) ts ≡ stuck b s
  variable_fails ts f rest b s e h = tree_fails Label.variable _ ts b s
      (both_then_fails W R ts (branch Label.ident f none) rest b s e h)

-- what stands for them
pub variable_alone : (v : Node Ident) (n : Node VariableDef) (f : Forest Label Lexeme)
    → IsVariableOf v None None n → Stands v.span (ident_parts v.inner) f
    → Stands n.span (variable_parts n.inner) (branch Label.ident f none)
variable_alone v n f h g =
    row_span _ _ _ _ (sym h.1) (row_parts _ _ _ _ h.0 (row_node Label.ident _ _ f refl g))

pub variable_equal : (v : Node Ident) (a : Node Add.Add) (n : Node VariableDef)
    (f i : Forest Label Lexeme) (d : Lexeme) → d.kind ≡ K.Equal
    → IsVariableOf v None (Some (RelOp.Eq, a)) n → Stands v.span (ident_parts v.inner) f
    → Stands a.span (add_parts a.inner) i
    → Stands n.span (variable_parts n.inner)
    (branch Label.ident f (leaf d (branch Label.add i none)))
variable_equal v a n f i d k h g j =
    row_span _ _ _ _ (sym h.1) (row_parts _ _ _ _ h.0 (row_nodes Label.ident _ _ _ _ f _ refl g
    (row_more d K.Equal _ _ _ k refl refl (row_node Label.add _ _ i refl j))))

pub variable_in : (v : Node Ident) (a : Node Add.Add) (n : Node VariableDef)
    (f i : Forest Label Lexeme) (d : Lexeme) → d.kind ≡ K.In
    → IsVariableOf v None (Some (RelOp.In, a)) n → Stands v.span (ident_parts v.inner) f
    → Stands a.span (add_parts a.inner) i
    → Stands n.span (variable_parts n.inner)
    (branch Label.ident f (leaf d (branch Label.add i none)))
variable_in v a n f i d k h g j =
    row_span _ _ _ _ (sym h.1) (row_parts _ _ _ _ h.0 (row_nodes Label.ident _ _ _ _ f _ refl g
    (row_more d K.In _ _ _ k refl refl (row_node Label.add _ _ i refl j))))

pub variable_is : (v : Node Ident) (t : Node Name) (n : Node VariableDef)
    (f i : Forest Label Lexeme) (d : Lexeme) → d.kind ≡ K.Is → IsVariableOf v (Some t) None n
    → Stands v.span (ident_parts v.inner) f → Stands t.span (name_parts t.inner) i
    → Stands n.span (variable_parts n.inner)
    (branch Label.ident f (leaf d (branch Label.name i none)))
variable_is v t n f i d k h g j =
    row_span _ _ _ _ (sym h.1) (row_parts _ _ _ _ h.0 (row_nodes Label.ident _ _ _ _ f _ refl g
    (row_more d K.Is _ _ _ k refl refl (row_node Label.name _ _ i refl j))))

pub variable_is_in : (v : Node Ident) (t : Node Name) (a : Node Add.Add) (n : Node VariableDef)
    (f i m : Forest Label Lexeme) (d e : Lexeme) → d.kind ≡ K.Is → e.kind ≡ K.In
    → IsVariableOf v (Some t) (Some (RelOp.In, a)) n → Stands v.span (ident_parts v.inner) f
    → Stands t.span (name_parts t.inner) i → Stands a.span (add_parts a.inner) m
    → Stands n.span (variable_parts n.inner)
    (branch Label.ident f (leaf d (branch Label.name i (leaf e (branch Label.add m none)))))
variable_is_in v t a n f i m d e k l h g j o = row_span _ _ _ _ (sym h.1) (row_parts _ _ _ _ h.0
    (row_nodes Label.ident _ _ _ _ f _ refl g
    (row_more d K.Is _ _ _ k refl refl (row_nodes Label.name _ _ _ _ i _ refl j
    (row_more e K.In _ _ _ l refl refl (row_node Label.add _ _ m refl o))))))

-- a token that can be the variable's word
pub variables_apart : (s : Slot) (k : Kind) → is (variable_kind s) k ≡ true
    → (is K.Comma k ≡ false) × (is K.Number k ≡ false)
variables_apart Slot.Principal k h = (
  apart_at (is K.Principal) (is K.Comma) refl k h,
  apart_at (is K.Principal) (is K.Number) refl k h,
)
variables_apart Slot.Resource k h = (
  apart_at (is K.Resource) (is K.Comma) refl k h,
  apart_at (is K.Resource) (is K.Number) refl k h,
)
