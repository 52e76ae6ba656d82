-- Operands as expressions without operators.
use Rattle.std.specs.Prelude.{◌≡◌, Bool, List, Ok}
use Rattle.std.specs.Borrow.{Bor}
use Rattle.std.proofs.Common.{refl, sym, ap, ◌∙◌}
use Rattle.cedar_grammar.specs.Trees.{Label, Forest, none, branch}
use Rattle.cedar_grammar.specs.Reader.Reading.{Reader, done, stuck, tree}
use Rattle.cedar_grammar.proofs.Readers.Equations.{tree_done, tree_fails}
use Rattle.cedar_grammar.specs.Erased.{node, or_parts, add_parts, expr_parts}
use Rattle.cedar_reading.specs.Reading.{Stands, GivesNode}
use Rattle.cedar_reading.specs.ReadingParts.{IsLoneOrOf, IsOrExprOf}
use Rattle.cedar_reading.specs.declared.lexeme.Lexeme.{Lexeme}
use Rattle.cedar_grammar.specs.declared.tree.Node.{Node}
use Rattle.cedar_grammar.specs.declared.tree.Add as Add
use Rattle.cedar_grammar.specs.declared.tree.Or as Or
use Rattle.cedar_grammar.specs.declared.tree.Expr as Expr
use Rattle.cedar_reading.proofs.Rows.{row_node, row_parts, row_span}

-- P reads the operand
module _ (P : Reader Lexeme) where
  abbrev pub lone_reader : Reader Lexeme
  lone_reader = tree Label.expr (tree Label.or (tree Label.and (tree Label.relation P)))

  pub lone_fails : (ts : List Lexeme) (b : Bool) (r : List Lexeme) → P ts ≡ stuck b r
      → lone_reader ts ≡ stuck b r
  lone_fails ts b r e = tree_fails Label.expr _ ts b r (tree_fails Label.or _ ts b r
      (tree_fails Label.and _ ts b r (tree_fails Label.relation P ts b r e)))

  pub lone_gives : (a : Node Add.Add) (o : Node Or.Or) (n : Node Expr.Expr)
      (rest : Bor (List Lexeme)) (ts : List Lexeme) (f : Forest Label Lexeme) → IsLoneOrOf a o
      → IsOrExprOf o n → P ts ≡ done (branch Label.add f none) rest.now
      → Stands a.span (add_parts a.inner) f
      → GivesNode Label.expr expr_parts (Ok (n, rest)) (lone_reader ts)
  lone_gives a o n rest ts f h m e g = (
    _,
    tree_done Label.expr _ ts _ rest.now (tree_done Label.or _ ts _ rest.now
        (tree_done Label.and _ ts _ rest.now (tree_done Label.relation P ts _ rest.now e))),
    row_span _ _ _ _ (sym (m.1 ∙ h.1)) (row_parts _ _ _ _ (m.0 ∙ ap (λ s.
        node Label.or s (or_parts o.inner) none) h.1 ∙ ap (λ z. node Label.or a.span z none) h.0)
        (row_node Label.or _ _ _ refl (row_node Label.and _ _ _ refl
        (row_node Label.relation _ _ _ refl (row_node Label.add _ _ f refl g))))),
  )
