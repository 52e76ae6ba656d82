-- An operand without operators.
use Rattle.std.specs.Prelude.{◌≡◌, List, [], Result, Ok, Err, MatchResult, box_value}
use Rattle.std.proofs.Common.{ap, subst, ◌∙◌}
use Rattle.cedar_grammar.specs.Trees.{Label, none}
use Rattle.cedar_grammar.specs.Erased.{node, relation_parts}
use Rattle.cedar_grammar.specs.NodeLists.{and_parts}
use Rattle.cedar_grammar.specs.declared.tree.Node.{Node}
use Rattle.cedar_grammar.specs.declared.tree.Add as Add
use Rattle.cedar_grammar.specs.declared.tree.Relation as Relation
use Rattle.cedar_grammar.specs.declared.tree.And as And
use Rattle.cedar_grammar.specs.declared.tree.Or as Or
use Rattle.cedar_reading.specs.ReadingParts.{IsLoneOrOf}
use Rattle.cedar_reading.specs.declared.reading.Refusal.{Refusal}
use Rattle.cedar_reading.specs.declared.reading.Refusal.TheVariants.{OutOfMemory}
use Rattle.cedar_cst.specs.ReadingItems.{Boxed}
use Rattle.cedar_cst.specs.ReadingExprs.{IsLoneRelationOf, IsAndOf, IsOrOf}

-- no operators between no operands
none_more : (o : Boxed Add.Add) (r : Boxed Relation.Relation) (a : Boxed And.And) (n : Boxed Or.Or)
    → IsLoneRelationOf o r → IsAndOf r [] a → IsOrOf a [] n → IsLoneOrOf (box_value o) (box_value n)
none_more o r a n i j k =
    let s : (box_value a).span ≡ (box_value o).span = j.1 ∙ i.1 in (
      k.0 ∙ ap (λ z. node Label.and z (and_parts (box_value a).inner) none) s
          ∙ ap (λ z. node Label.and (box_value o).span z none)
          (j.0 ∙ ap (λ z. node Label.relation z (relation_parts (box_value r).inner) none) i.1
          ∙ ap (λ z. node Label.relation (box_value o).span z none) i.0),
      k.1 ∙ s,
    )

pub lone_or : (x : Node Add.Add) (o : Boxed Add.Add) (r : Boxed Relation.Relation)
    (a : Boxed And.And) (v : List (Node Relation.Relation)) (w : List (Node And.And))
    (result : Result (Boxed Or.Or) Refusal) → box_value o ≡ x → v ≡ [] → w ≡ []
    → IsLoneRelationOf o r → IsAndOf r v a
    → MatchResult result (IsOrOf a w) (λ e. e ≡ OutOfMemory)
    → MatchResult result (λ b. IsLoneOrOf x (box_value b)) (λ e. e ≡ OutOfMemory)
lone_or x o r a v w (Ok n) d e f i j k = subst (λ z. IsLoneOrOf z (box_value n)) d
    (none_more o r a n i (subst (λ z. IsAndOf r z a) e j) (subst (λ z. IsOrOf a z n) f k))
lone_or x o r a v w (Err q) d e f i j k = k
