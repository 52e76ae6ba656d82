-- The loop over operands with signs between them.
use Rattle.std.specs.Prelude.{◌≡◌, ℕ, Bool, true, false, List, [], ◌∷◌, ◌++◌, ◌||◌, ◌<◌, length, IfOk, Result, Ok, Err}
use Rattle.std.specs.Borrow.{Bor}
use Rattle.std.proofs.Common.{refl, sym, ap, ◌∙◌}
use Rattle.cedar_tokens.specs.declared.kind.Kind.{Kind}
use Rattle.cedar_tokens.specs.declared.kind.Kind.TheVariants as K
use Rattle.cedar_tokens.specs.Kinds.{is, is_closing, begins}
use Rattle.cedar_grammar.specs.Trees.{Label, Forest, none, leaf, branch, join}
use Rattle.cedar_grammar.specs.Reader.Reading.{Answer, Reader, done, stuck, both, tree, repeat, token}
use Rattle.cedar_grammar.proofs.Readers.Equations.{Takes, both_done, both_then_fails, both_takes, token_takes}
use Rattle.cedar_grammar.specs.Erased.{Erased, node, addop_text}
use Rattle.cedar_grammar.specs.NodeTrees.{is_node}
use Rattle.cedar_reading.specs.Reading.{kind, Keeps, Fails, Stands, GivesNode, addop_kind}
use Rattle.cedar_cst.specs.Boxed.{mapped, unboxed, signed}
use Rattle.cedar_cst.specs.ReadingItems.{Boxed}
use Rattle.cedar_cst.specs.ReadingExprs.{operands_end, IsChainOf}
use Rattle.cedar_grammar.specs.NodeLists.{operand_trees}
use Rattle.cedar_reading.specs.declared.lexeme.Lexeme.{Lexeme}
use Rattle.cedar_reading.specs.declared.reading.Refusal.{Refusal}
use Rattle.cedar_grammar.specs.declared.tree.Node.{Node}
use Rattle.cedar_grammar.specs.declared.tree.AddOp.{AddOp}
use Rattle.cedar_reading.proofs.Steps.{token_at, first_begins}
use Rattle.cedar_reading.proofs.Rows.{row_node, row_more, row_join, row_parts, row_span, no_closing, Chain, chain_first, chain_next, chain_stuck, chain_end}
use Rattle.cedar_tokens.specs.Inside.FixedTexts.{is_open, fixed_text}

-- an operand, with or without its sign
abbrev pub GivesOperand : {X Y : Type 0} → (Y → Node X) → (Y → Type 0) → Label → (X → Erased)
    → Result (Y × Bor (List Lexeme)) Refusal → Answer Lexeme → Type 0
GivesOperand operand Q l parts (Ok y) a =
    (f : Forest Label Lexeme) × (a ≡ done (branch l f none) y.1.now)
    × Stands (operand y.0).span (parts (operand y.0).inner) f × Q y.0
GivesOperand operand Q l parts (Err e) a = Fails e a

-- a kind that stands between operands, which has this text
pub record Between (k : Kind) (text : List ℕ) : Type 0 where
  pub comma : is K.Comma k ≡ false
  pub fixed : is_open k ≡ false
  pub closing : is_closing k ≡ false
  pub shows : fixed_text k ≡ text

pub plain_operand : {X : Type 0} (l : Label) (parts : X → Erased)
    (read : Result (Node X × Bor (List Lexeme)) Refusal) (a : Answer Lexeme)
    → GivesNode l parts read a → GivesOperand (λ n. n) (λ n. Unit {0}) l parts read a
plain_operand l parts (Ok x) a g = (g.0, g.1, g.2, tt)
plain_operand l parts (Err e) a g = g

pub signed_operand : {S X : Type 0} (s : S) (l : Label) (parts : X → Erased)
    (read : Result (Boxed X × Bor (List Lexeme)) Refusal) (a : Answer Lexeme)
    → GivesNode l parts (unboxed read) a
    → GivesOperand (λ y. y.1) (λ y. y.0 ≡ s) l parts (signed s read) a
signed_operand s l parts (Ok x) a g = (g.0, g.1, g.2, refl)
signed_operand s l parts (Err e) a g = g

-- what is kept of what was read leaves no more tokens
pub kept_shorter : {X Y : Type 0} (f : X → Y) (read : Result (X × Bor (List Lexeme)) Refusal)
    (old new : List Y) (rest : Bor (List Lexeme)) (u : Unit {0}) (m : ℕ)
    → IfOk read (λ x. length x.1.now < m) → Keeps (mapped f read) old new rest (Ok u)
    → length rest.now < m
kept_shorter f (Ok x) old new rest u m h k = rw k.1 h
kept_shorter f (Err e) old new rest u m h k = absurd k

-- the signs of sums
pub addop_between : (op : AddOp) → Between (addop_kind op) (addop_text op)
addop_between AddOp.Plus = record { comma = refl; fixed = refl; closing = refl; shows = refl }
addop_between AddOp.Minus =
    record { comma = refl; fixed = refl; closing = refl; shows = refl }

pub addop_begins : (op : AddOp) → (is K.Add (addop_kind op) || is K.Dash (addop_kind op)) ≡ true
addop_begins AddOp.Plus = refl
addop_begins AddOp.Minus = refl

module _ {X Y : Type 0} (l : Label) (parts : X → Erased) (sign : Y → List ℕ)
    (operand : Y → Node X) where
  pub operand_kept : (Q : Y → Type 0) (read : Result (Y × Bor (List Lexeme)) Refusal)
      (old new : List Y) (rest : Bor (List Lexeme)) (u : Unit {0}) (a : Answer Lexeme)
      → GivesOperand operand Q l parts read a → Keeps read old new rest (Ok u)
      → (y : Y) × (f : Forest Label Lexeme) × (a ≡ done (branch l f none) rest.now)
      × Stands (operand y).span (parts (operand y).inner) f × Q y × (new ≡ old ++ y ∷ [])
  operand_kept Q (Ok x) old new rest u a g k = (
    x.0,
    g.0,
    g.1 ∙ ap (λ (z : Bor (List Lexeme)). done (branch l g.0 none) z.now) (sym k.1),
    g.2,
    g.3,
    k.0,
  )
  operand_kept Q (Err e) old new rest u a g k = absurd k

  pub operand_fails : (Q : Y → Type 0) (read : Result (Y × Bor (List Lexeme)) Refusal)
      (old new : List Y) (rest : Bor (List Lexeme)) (e : Refusal) (a : Answer Lexeme)
      → GivesOperand operand Q l parts read a → Keeps read old new rest (Err e) → Fails e a
  operand_fails Q (Ok x) old new rest e a g k = rw k tt
  operand_fails Q (Err f) old new rest e a g k = rw k g

  trees_grow : (ys : List Y) (y : Y)
      → operand_trees l parts sign operand (ys ++ y ∷ []) ≡ join (operand_trees l parts sign operand
      ys) (leaf (sign y) (node l (operand y).span (parts (operand y).inner) none))
  trees_grow [] y = refl
  trees_grow (x ∷ ys) y = ap
      (λ z. leaf (sign x) (node l (operand x).span (parts (operand x).inner) z)) (trees_grow ys y)

  end_grow : (e : ℕ) (ys : List Y) (y : Y)
      → operands_end l parts sign operand e (ys ++ y ∷ []) ≡ (operand y).span.end
  end_grow e [] y = refl
  end_grow e (x ∷ ys) y = end_grow (operand x).span.end ys y

  -- A reads an operand, and p holds of the signs
  module _ (whole : Label) (p : Kind → Bool) (A : Reader Lexeme) where
    abbrev pub more_reader : Reader Lexeme
    more_reader = both (token kind p) A

    abbrev pub chain_reader : Reader Lexeme
    chain_reader = tree whole (both A (repeat (begins kind p) more_reader))

    -- the operands read so far
    pub record OperandsRead (initial : Node X) (more : List Y)
        (ts rest : List Lexeme) : Type 0 where
      pub row : Forest Label Lexeme
      pub chain : Chain whole A (begins kind p) more_reader ts row rest
      pub stands : Stands (record {
        start = initial.span.start;
        end = operands_end l parts sign operand initial.span.end more;
      }) (node l initial.span (parts initial.inner) (operand_trees l parts sign operand more)) row

    pub operands_first : is_node l ≡ true
        → (initial : Node X) (more : List Y) (ts rest : List Lexeme) (f : Forest Label Lexeme)
        → A ts ≡ done (branch l f none) rest → Stands initial.span (parts initial.inner) f
        → more ≡ [] → OperandsRead initial more ts rest
    operands_first i initial more ts rest f e h m = rw m (record {
      row = branch l f none;
      chain = chain_first whole A (begins kind p) more_reader ts (branch l f none) rest e;
      stands = row_node l initial.span (parts initial.inner) f i h;
    })

    pub operands_next : is_node l ≡ true → Takes A → (initial : Node X) (old new : List Y)
        (ts rest after s : List Lexeme) (d : Lexeme) (k : Kind) (y : Y) (g : Forest Label Lexeme)
        → OperandsRead initial old ts rest → rest ≡ d ∷ after → d.kind ≡ k → p k ≡ true
        → Between k (sign y) → A after ≡ done (branch l g none) s
        → Stands (operand y).span (parts (operand y).inner) g → new ≡ old ++ y ∷ []
        → OperandsRead initial new ts s
    operands_next i takes initial old new ts rest after s d k y g q e h t b a w m =
        let z : Forest Label Lexeme = leaf d (branch l g none) in
        let c : p d.kind ≡ true = ap p h ∙ t in
        rw m (record {
          row = join q.row z;
          chain = chain_next whole A (begins kind p) more_reader
              (both_takes (token kind p) A (token_takes kind p) takes) ts q.row rest z s q.chain
              (first_begins p rest d after e ∙ c)
              (both_done (token kind p) A rest (leaf d none) after (branch l g none) s
              (token_at p rest d after e c) a);
          stands =
              row_parts _ _ _ _ (ap (node l initial.span (parts initial.inner)) (trees_grow old y))
              (row_span _ _ _ _ (ap (λ x. record { start = initial.span.start; end = x })
              (sym (end_grow initial.span.end old y)))
              (row_join _ _ _ _ q.row z (no_closing d k h b.closing) q.stands
              (row_parts _ _ _ _ (ap (λ x. leaf x
              (node l (operand y).span (parts (operand y).inner) none)) (sym b.shows))
              (row_more d k (operand y).span _ _ h b.comma b.fixed
              (row_node l (operand y).span _ g i w)))));
        })

    pub operands_stuck : (initial : Node X) (more : List Y) (ts rest after : List Lexeme)
        (d : Lexeme) (k : Kind) (x : Bool) (r : List Lexeme) → OperandsRead initial more ts rest
        → rest ≡ d ∷ after → d.kind ≡ k → p k ≡ true → A after ≡ stuck x r
        → chain_reader ts ≡ stuck x r
    operands_stuck initial more ts rest after d k x r q e h t a =
        let c : p d.kind ≡ true = ap p h ∙ t in
        chain_stuck whole A (begins kind p) more_reader ts q.row rest x r q.chain
        (first_begins p rest d after e ∙ c)
        (both_then_fails (token kind p) A rest (leaf d none) after x r
        (token_at p rest d after e c) a)

    pub operands_done : {Z : Type 0} (made : Z → Erased) (initial : Node X) (more : List Y)
        (n : Node Z) (ts rest : List Lexeme) → OperandsRead initial more ts rest
        → begins kind p rest ≡ false → IsChainOf l parts sign operand made initial more n
        → (f : Forest Label Lexeme) × (chain_reader ts ≡ done (branch whole f none) rest)
        × Stands n.span (made n.inner) f
    operands_done made initial more n ts rest q t h = (
      q.row,
      chain_end whole A (begins kind p) more_reader ts q.row rest q.chain t,
      row_span _ _ _ _ (sym h.1) (row_parts _ _ _ _ h.0 q.stands),
    )
