-- The loop over the words of a path.
use Rattle.std.specs.Prelude.{◌≡◌, Bool, true, List, [], ◌∷◌, ◌++◌, codes}
use Rattle.std.proofs.Common.{refl, sym, ap, ◌∙◌}
use Rattle.cedar_tokens.specs.declared.kind.Kind.TheVariants as K
use Rattle.cedar_tokens.specs.Kinds.{is, is_ident, begins}
use Rattle.cedar_grammar.specs.Trees.{Label, Forest, none, leaf, branch, join}
use Rattle.cedar_grammar.specs.Reader.Reading.{Reader, done, stuck, both, tree, repeat, token, one}
use Rattle.cedar_grammar.proofs.Readers.Equations.{Takes, both_done, both_then_fails, both_takes, tree_takes, token_takes}
use Rattle.cedar_grammar.specs.Erased.{ident_tree, path_parts}
use Rattle.cedar_reading.specs.Reading.{kind, Stands, ident_parts, first_start, name_parts, IsNameOf}
use Rattle.cedar_reading.specs.declared.lexeme.Lexeme.{Lexeme}
use Rattle.cedar_grammar.specs.declared.tree.Node.{Node}
use Rattle.cedar_grammar.specs.declared.tree.Ident.{Ident}
use Rattle.cedar_grammar.specs.declared.tree.Name.{Name}
use Rattle.cedar_reading.proofs.Steps.{token_at, first_begins, is_itself}
use Rattle.cedar_reading.proofs.Rows.{row_node, row_more, row_join, row_parts, row_span, no_closing, Chain, chain_first, chain_next, chain_stuck}

abbrev pub word : Reader Lexeme
word = tree Label.ident (token kind is_ident)

abbrev pub step : Reader Lexeme
step = both (one kind K.DoubleColon) word

abbrev pub goes_on : List Lexeme → Bool
goes_on ts = begins kind (is K.DoubleColon) ts

step_takes : Takes step
step_takes = both_takes (one kind K.DoubleColon) word (token_takes kind (is K.DoubleColon))
    (tree_takes Label.ident (token kind is_ident) (token_takes kind is_ident))

-- the words read so far
pub record PathRead (ts : List Lexeme) (path : List (Node Ident)) (name : Node Ident)
    (rest : List Lexeme) : Type 0 where
  pub row : Forest Label Lexeme
  pub chain : Chain Label.name word goes_on step ts row rest
  pub stands : Stands (record { start = first_start path name; end = name.span.end })
      (path_parts path name) row

pub path_grow : (path : List (Node Ident)) (name next : Node Ident) → path_parts (path ++ name
    ∷ []) next ≡ join (path_parts path name) (leaf (codes "::") (ident_tree next none))
path_grow [] name next = refl
path_grow (n ∷ ns) name next = ap (λ z. ident_tree n (leaf (codes "::") z)) (path_grow ns name next)

pub start_grow : (path : List (Node Ident)) (name next : Node Ident)
    → first_start (path ++ name ∷ []) next ≡ first_start path name
start_grow [] name next = refl
start_grow (n ∷ ns) name next = refl

pub path_first : (ts : List Lexeme) (n : Node Ident) (rest : List Lexeme) (f : Forest Label Lexeme)
    → word ts ≡ done (branch Label.ident f none) rest → Stands n.span (ident_parts n.inner) f
    → PathRead ts [] n rest
path_first ts n rest f e h = record {
  row = branch Label.ident f none;
  chain = chain_first Label.name word goes_on step ts (branch Label.ident f none) rest e;
  stands = row_node Label.ident n.span (ident_parts n.inner) f refl h;
}

pub path_next : (ts : List Lexeme) (path more : List (Node Ident)) (name n : Node Ident)
    (rest after s : List Lexeme) (d : Lexeme) (f : Forest Label Lexeme) → PathRead ts path name rest
    → rest ≡ d ∷ after → d.kind ≡ K.DoubleColon
    → word after ≡ done (branch Label.ident f none) s → Stands n.span (ident_parts n.inner) f
    → more ≡ path ++ name ∷ [] → PathRead ts more n s
path_next ts path more name n rest after s d f p e k w h m =
    let t : is K.DoubleColon d.kind ≡ true = is_itself K.DoubleColon d.kind (sym k) in
    let g : Forest Label Lexeme = leaf d (branch Label.ident f none) in
    rw m (record {
      row = join p.row g;
      chain = chain_next Label.name word goes_on step step_takes ts p.row rest g s p.chain
          (first_begins (is K.DoubleColon) rest d after e ∙ t)
          (both_done (one kind K.DoubleColon) word rest (leaf d none) after
          (branch Label.ident f none) s (token_at (is K.DoubleColon) rest d after e t) w);
      stands = row_parts _ _ _ _ (path_grow path name n) (row_span _ _ _ _
          (ap (λ z. record { start = z; end = n.span.end }) (sym (start_grow path name n)))
          (row_join _ _ _ _ p.row g (no_closing d K.DoubleColon k refl) p.stands
          (row_more d K.DoubleColon n.span _ _ k refl refl
          (row_node Label.ident n.span (ident_parts n.inner) f refl h))));
    })

pub path_stuck : (ts : List Lexeme) (path : List (Node Ident)) (name : Node Ident)
    (rest after : List Lexeme) (d : Lexeme) (b : Bool) (r : List Lexeme)
    → PathRead ts path name rest → rest ≡ d ∷ after → d.kind ≡ K.DoubleColon
    → word after ≡ stuck b r → tree Label.name (both word (repeat goes_on step)) ts ≡ stuck b r
path_stuck ts path name rest after d b r p e k w =
    let t : is K.DoubleColon d.kind ≡ true = is_itself K.DoubleColon d.kind (sym k) in
    chain_stuck Label.name word goes_on step ts p.row rest b r p.chain
    (first_begins (is K.DoubleColon) rest d after e ∙ t)
    (both_then_fails (one kind K.DoubleColon) word rest (leaf d none) after b r
    (token_at (is K.DoubleColon) rest d after e t) w)

pub name_stands : (path : List (Node Ident)) (name : Node Ident) (n : Node Name)
    (f : Forest Label Lexeme) → IsNameOf path name n → Stands
    (record { start = first_start path name; end = name.span.end }) (path_parts path name) f
    → Stands n.span (name_parts n.inner) f
name_stands path name n f h g = row_span _ _ _ _ (sym h.2)
    (row_parts _ _ _ _ (ap (λ z. path_parts z n.inner.name) h.0 ∙ ap (path_parts path) h.1) g)
