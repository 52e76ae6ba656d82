-- Conditions: what reads them, and what stands for them.
use Rattle.std.specs.Prelude.{◌≡◌, Bool, List}
use Rattle.std.proofs.Common.{refl}
use Rattle.cedar_tokens.specs.declared.kind.Kind.TheVariants as K
use Rattle.cedar_grammar.specs.Trees.{Label, Forest, none, leaf, branch}
use Rattle.cedar_grammar.specs.Reader.Reading.{Reader, done, stuck, both, tree, token, one}
use Rattle.cedar_grammar.proofs.Readers.Equations.{tree_done, tree_fails, both_done, both_fails, both_then_fails}
use Rattle.cedar_grammar.specs.Erased.{expr_parts, cond_parts}
use Rattle.cedar_reading.specs.Reading.{kind, Stands, ident_parts}
use Rattle.cedar_tokens.specs.Kinds.{is_cond_word}
use Rattle.cedar_reading.specs.declared.lexeme.Lexeme.{Lexeme}
use Rattle.cedar_grammar.specs.declared.tree.Cond.{Cond}
use Rattle.cedar_reading.proofs.LeafTexts.{from_to}
use Rattle.cedar_reading.proofs.Rows.{row_more, row_nodes, row_token}

abbrev word : Reader Lexeme
word = tree Label.ident (token kind is_cond_word)

-- E reads the expression
module _ (E : Reader Lexeme) where
  abbrev pub cond_reader : Reader Lexeme
  cond_reader =
      tree Label.condition (both word (both (one kind K.LBrace) (both E (one kind K.RBrace))))

  pub word_fails : (ts : List Lexeme) (b : Bool) (r : List Lexeme) → word ts ≡ stuck b r
      → cond_reader ts ≡ stuck b r
  word_fails ts b r e = tree_fails Label.condition _ ts b r (both_fails word _ ts b r e)

  pub brace_fails : (ts rest : List Lexeme) (f : Forest Label Lexeme) (b : Bool) (r : List Lexeme)
      → word ts ≡ done f rest → one kind K.LBrace rest ≡ stuck b r → cond_reader ts ≡ stuck b r
  brace_fails ts rest f b r e i = tree_fails Label.condition _ ts b r
      (both_then_fails word _ ts f rest b r e (both_fails (one kind K.LBrace) _ rest b r i))

  pub expr_fails : (ts rest two : List Lexeme) (f : Forest Label Lexeme) (o : Lexeme) (b : Bool)
      (r : List Lexeme) → word ts ≡ done f rest → one kind K.LBrace rest ≡ done (leaf o none) two
      → both E (one kind K.RBrace) two ≡ stuck b r → cond_reader ts ≡ stuck b r
  expr_fails ts rest two f o b r e i j =
      tree_fails Label.condition _ ts b r (both_then_fails word _ ts f rest b r e (both_then_fails
      (one kind K.LBrace) (both E (one kind K.RBrace)) rest (leaf o none) two b r i j))

  pub cond_done : (ts rest two s : List Lexeme) (f g : Forest Label Lexeme) (o : Lexeme)
      → word ts ≡ done (branch Label.ident f none) rest
      → one kind K.LBrace rest ≡ done (leaf o none) two → both E (one kind K.RBrace) two ≡ done g s
      → cond_reader ts ≡ done (branch Label.condition (branch Label.ident f (leaf o g)) none) s
  cond_done ts rest two s f g o e i j =
      tree_done Label.condition _ ts _ s
      (both_done word _ ts (branch Label.ident f none) rest (leaf o g) s e
      (both_done (one kind K.LBrace) (both E (one kind K.RBrace)) rest (leaf o none) two g s i j))

pub cond_stands : (c : Cond) (f g : Forest Label Lexeme) (o t : Lexeme)
    → Stands c.cond.span (ident_parts c.cond.inner) f → o.kind ≡ K.LBrace
    → Stands c.expr.span (expr_parts c.expr.inner) g → t.kind ≡ K.RBrace
    → Stands (from_to c.cond.span t.span) (cond_parts c)
    (branch Label.ident f (leaf o (branch Label.expr g (leaf t none))))
cond_stands c f g o t h k i e = row_nodes Label.ident _ _ _ _ f _ refl h (row_more o K.LBrace _ _ _
    k refl refl (row_nodes Label.expr _ _ _ _ g _ refl i (row_token t K.RBrace e refl refl)))
