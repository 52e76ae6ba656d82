-- A member after its signs.
use Rattle.std.specs.Prelude.{List, Result, Ok, Err, Option, box_value}
use Rattle.std.specs.Borrow.{Bor}
use Rattle.std.proofs.Common.{refl, sym, ap, ◌∙◌}
use Rattle.cedar_grammar.specs.Trees.{Label, Forest, none, branch, join}
use Rattle.cedar_grammar.specs.Reader.Reading.{Reader, done, both, tree}
use Rattle.cedar_grammar.proofs.Readers.Equations.{both_done, both_then_fails, tree_done, tree_fails}
use Rattle.cedar_grammar.specs.Erased.{unary_parts}
use Rattle.cedar_grammar.specs.NodeLists.{member_parts}
use Rattle.cedar_grammar.specs.declared.tree.NegOp.{NegOp}
use Rattle.cedar_grammar.specs.declared.tree.Member as Member
use Rattle.cedar_grammar.specs.declared.tree.Unary as Unary
use Rattle.cedar_reading.specs.Reading.{flat, GivesNode, PassesOn}
use Rattle.cedar_reading.specs.ReadingParts.{Makes}
use Rattle.cedar_reading.specs.ReadingSigns.{signs_rule, GivesSigns}
use Rattle.cedar_reading.specs.declared.lexeme.Lexeme.{Lexeme}
use Rattle.cedar_reading.specs.declared.reading.Refusal.{Refusal}
use Rattle.cedar_reading.proofs.Rows.{row_node, row_parts, row_span}
use Rattle.cedar_reading.proofs.Steps.{passes}
use Rattle.cedar_cst.specs.Boxed.{unboxed}
use Rattle.cedar_cst.specs.ReadingItems.{Boxed}
use Rattle.cedar_cst.specs.ReadingExprs.{IsUnaryOf}

-- M reads the member after the signs
module _ (M : Reader Lexeme) where
  abbrev pub unary_reader : Reader Lexeme
  unary_reader = tree Label.unary (both (flat signs_rule) M)

  pub unary_gives : (ts : List Lexeme) (op : Option NegOp) (rest : Bor (List Lexeme))
      (read : Result (Boxed Member.Member × Bor (List Lexeme)) Refusal)
      (result : Result (Boxed Unary.Unary × Bor (List Lexeme)) Refusal)
      → GivesSigns ts (op, rest) → GivesNode Label.member member_parts (unboxed read) (M rest.now)
      → PassesOn read result → Makes (IsUnaryOf ts op) read result
      → GivesNode Label.unary unary_parts (unboxed result) (unary_reader ts)
  unary_gives ts op rest (Ok x) (Ok y) g m p k =
      let h : Forest Label Lexeme = branch Label.member m.0 none in
      let f : Forest Label Lexeme = join g.0 h in (
        f,
        tree_done Label.unary _ ts f x.1.now
            (both_done (flat signs_rule) M ts g.0 rest.now h x.1.now g.1 m.1)
            ∙ ap (λ (z : Bor (List Lexeme)). done (branch Label.unary f none) z.now) (sym p),
        row_span _ _ _ _ (sym k.1) (row_parts _ _ _ _ k.0 (g.2 (box_value x.0).span _ h
            (row_node Label.member (box_value x.0).span _ m.0 refl m.2))),
      )
  unary_gives ts op rest (Ok x) (Err q) g m p k = rw p tt
  unary_gives ts op rest (Err q) (Ok y) g m p k = absurd p
  unary_gives ts op rest (Err q) (Err w) g m p k =
      rw p (passes q _ _ m (λ b r i. tree_fails Label.unary _ ts b r
      (both_then_fails (flat signs_rule) M ts g.0 rest.now b r g.1 i)))
